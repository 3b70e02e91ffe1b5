use mir.Syntax.{w32}
use mir.Facts.{to_z-of_z}
use Rattle.registers.proofs.answer.Laws.{laid_none, laid_one}
use Rattle.registers.proofs.answer.Signs.{sign-minus, sign-plus}
use Rattle.registers.proofs.answer.sign_of.Goals as goal

pub returns-then-value-lt0 : goal.returns-then-value-lt0
returns-then-value-lt0 c =
    let e = rw (to_z-of_z {w = w32} c.ranges.value) at c.if-value-lt0.true in
    rw (sign-minus c.args.value e) (laid_one c.put.ensures)

pub returns : goal.returns
returns c =
    let e = rw (to_z-of_z {w = w32} c.ranges.value) at c.if-value-lt0.false in
    rw (sign-plus c.args.value e) (laid_none 0 c.args.tail.now)
