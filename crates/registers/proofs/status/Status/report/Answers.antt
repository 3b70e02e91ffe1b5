use mathlib.Core.Path.{sym}
use Rattle.registers.proofs.status.Laws.{reported-yes, reported-no}
use Rattle.registers.proofs.status.Status.report.Goals as goal

pub returns-then-condition-le-WIDEST : goal.returns-then-condition-le-WIDEST
returns-then-condition-le-WIDEST c =
    let a = c.args in
    rw (c.put.ensures, c.report-group.ensures, c.group.ensures) (sym (reported-yes a.self a.condition a.set c.if-condition-le-WIDEST.true))

pub returns-else-condition-le-WIDEST : goal.returns-else-condition-le-WIDEST
returns-else-condition-le-WIDEST c = sym (reported-no c.args.self c.args.condition c.args.set c.if-condition-le-WIDEST.false)
