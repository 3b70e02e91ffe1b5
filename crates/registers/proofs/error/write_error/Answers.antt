use native.Mathlib.Omega.{arith}
use lib.IntN.{pos, neg_ℤ}
use Rattle.registers.specs.Answer.{most_places, decimal}
use Rattle.registers.proofs.answer.Laws.{laid-at, laid-whole, laid_one, laid_then}
use Rattle.registers.proofs.answer.Decimals.{decimal-length, signed-length}
use Rattle.registers.proofs.answer.Signs.{minus-of}
use Rattle.registers.proofs.error.Texts.{error-text}
use Rattle.registers.proofs.error.write_error.Goals as goal

pub overflow_add-at : goal.overflow_add-at
overflow_add-at c =
    let whole = rw (minus-of {n = c.args.number} (omega arith) c.from.ensures) at c.write_whole-at.ensures.long in
    omega (arith, signed-length decimal most_places decimal-length (neg_ℤ (pos c.args.number)), whole)

pub quoted_at-requires : goal.quoted_at-requires
quoted_at-requires c =
    let whole = rw (minus-of {n = c.args.number} (omega arith) c.from.ensures) at c.write_whole-at.ensures.long in
    omega (arith, signed-length decimal most_places decimal-length (neg_ℤ (pos c.args.number)), whole)

pub returns : goal.returns
returns c =
    let whole = rw (minus-of {n = c.args.number} (omega arith) c.from.ensures) at c.write_whole-at.ensures in
    rw (error-text, ← c.message.ensures) (laid-whole (laid_then (laid-at whole) (laid_then (laid_one c.put.ensures) c.quoted_at.ensures)))
