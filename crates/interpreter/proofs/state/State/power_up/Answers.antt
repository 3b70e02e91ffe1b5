use Rattle.interpreter.specs.Box.{power_up}
use Rattle.interpreter.proofs.state.Events.{start-possible}
use Rattle.interpreter.proofs.state.State.power_up.Goals as goal

pub returns : goal.returns
unfolding power_up
returns c =
    record {
      possible = rw (c.reset.ensures, c.power_up.ensures) start-possible;
      first = λ m. rw (c.reset.ensures, c.power_up.ensures);
    }
