use Rattle.std.proofs.Common.{◌≡◌, length, sym, arith}
use Rattle.registers.specs.Text.{digit}
use Rattle.registers.proofs.number.Numerals.{left-more, left_end}
use Rattle.registers.proofs.text.Laws.{start-stop, start-end, digit-bounds}
use Rattle.registers.proofs.number.read_digits.Goals as goal

pub returns-then-not-is_digit : goal.returns-then-not-is_digit
returns-then-not-is_digit c =
    left_end c.loop-i.invariant c.requires.0 (start-stop digit c.args.text.now c.loop-i.i (omega arith) (sym c.if-not-is_digit.ensures))

pub overflow_sub-b : goal.overflow_sub-b
overflow_sub-b c = (digit-bounds _ (rw (← c.if-not-is_digit.ensures) tt)).0

pub loop-i-preserved : goal.loop-i-preserved
loop-i-preserved c = left-more c.loop-i.invariant (omega arith) (sym c.if-not-is_digit.ensures) c.min-value.result (omega arith)

pub returns : goal.returns
returns c =
    let read = left_end c.loop-i.invariant c.requires.0 (start-end digit c.args.text.now c.loop-i.i (omega arith)) in
    let all : c.loop-i.i ≡ length c.args.text.now = omega arith in
    rw all at read
