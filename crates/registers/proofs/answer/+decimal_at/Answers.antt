use native.Mathlib.Omega.{arith}
use Prim.Native.Nat.{◌/◌}
use Rattle.registers.proofs.answer.Laws.{laid_one, laid_then}
use Rattle.registers.proofs.answer.Decimals.{decimal-one, decimal-more, after-fits}
use Rattle.registers.proofs.answer.+decimal_at.Goals as goal

pub returns-then-n-lt10 : goal.returns-then-n-lt10
returns-then-n-lt10 t c = rw (decimal-one c.args.n c.if-n-lt10.true) (laid_one c.put.ensures)

pub overflow_add-result-2 : goal.overflow_add-result-2
overflow_add-result-2 t c = after-fits (c.args.n / 10) c.decimal_at-end.ensures.end c.requires

pub returns : goal.returns
returns t c =
    let h = c.ranges.n in
    rw (decimal-more c.args.n c.if-n-lt10.false (omega arith))
    (laid_then c.decimal_at-end.ensures (laid_one c.put-2.ensures))
