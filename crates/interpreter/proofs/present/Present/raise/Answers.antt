use Rattle.interpreter.specs.PresentParts.{raised_with}
use Rattle.interpreter.proofs.present.Present.raise.Goals as goal

pub returns : goal.returns
unfolding raised_with
returns c = rw c.raise-self.ensures
