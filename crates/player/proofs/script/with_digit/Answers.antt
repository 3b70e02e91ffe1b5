use Rattle.std.proofs.Common.{◌+◌, ◌*◌, sym, ◌∙◌, arith}
use Rattle.std.specs.Char.{digit_value}
use Rattle.player.proofs.script.Laws.{with-other, with-one, held-none, held-is}
use Rattle.player.proofs.script.with_digit.Goals as goal

pub returns-in_err-digit : goal.returns-in_err-digit
returns-in_err-digit c = c.from_residual.ensures ∙ sym (with-other c.args.n c.args.b (rw c.from.ensures at c.in_err-digit.ensures.value))

pub returns-in_err-checked_mul : goal.returns-in_err-checked_mul
returns-in_err-checked_mul c =
    let one = with-one c.args.n c.args.b (rw c.from.ensures at c.in_ok-digit.ensures.value.0) in
    let none = held-none (c.args.n * 10 + digit_value c.args.b) (omega (arith, c.in_err-checked_mul.ensures)) in
    c.from_residual-in_err-checked_mul.ensures ∙ sym (one ∙ none)

pub returns : goal.returns
returns c =
    let one = with-one c.args.n c.args.b (rw c.from.ensures at c.in_ok-digit.ensures.value.0) in
    let sum = held-is c.checked_add.result (c.in_ok-checked_mul.field-0 + c.from-2.result) c.checked_add.ensures in
    sum ∙ rw (c.in_ok-checked_mul.ensures.1, c.from-2.ensures, c.in_ok-digit.ensures.value.1, c.from.ensures) (sym one)
