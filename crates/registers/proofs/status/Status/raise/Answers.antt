use mathlib.Core.Path.{sym}
use Rattle.registers.proofs.status.Laws.{raised-more, raised-full}
use Rattle.registers.proofs.status.Status.raise.Goals as goal

pub returns-then-at-lt-MOST : goal.returns-then-at-lt-MOST
returns-then-at-lt-MOST c = rw (c.event_bit.ensures, c.number-number.ensures) (sym (raised-more _ c.args.self c.if-at-lt-MOST.true))

pub returns-else-at-lt-MOST : goal.returns-else-at-lt-MOST
returns-else-at-lt-MOST c =
    rw (c.event_bit-else-at-lt-MOST.ensures, c.event_bit.ensures, c.number-number.ensures)
    (sym (raised-full _ c.args.self c.if-at-lt-MOST.false))
