use mathlib.Core.Path.{◌≡◌}
use Rattle.registers.specs.Status.{possible_registers}
use Rattle.registers.proofs.status.Laws.{queue-above, queue-within}
use Rattle.registers.proofs.status.Status.possible.Goals as goal

pub returns-then-waiting-gt-MOST : goal.returns-then-waiting-gt-MOST
returns-then-waiting-gt-MOST c = queue-above c.args.self c.if-waiting-gt-MOST.true

pub returns : goal.returns
unfolding possible_registers
returns c =
    let bit6 : c.from.result ≡ 64 = c.from.ensures in
    rw (bit6, c.all_possible.ensures, c.may_all_be_queued.ensures) (queue-within c.args.self c.if-waiting-gt-MOST.false)
