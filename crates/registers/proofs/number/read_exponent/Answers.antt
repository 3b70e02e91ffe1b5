-- Three cases: no `E`; an `E` without a digit, which is no exponent either; and an exponent. `exponent-start` says where the digits
-- begin.
use mathlib.Core.Path.{sym, ap, ◌∙◌}
use native.Mathlib.Omega.{arith}
use Rattle.registers.specs.Text.{capital}
use Rattle.registers.proofs.number.Laws.{exponent-start, exponent-none, exponent-no, exponent-bare, exponent-some}
use Rattle.registers.proofs.number.read_exponent.Goals as goal

pub returns-then-e-ne69 : goal.returns-then-e-ne69
returns-then-e-ne69 c =
    let a = c.args in
    let is = c.in_capitals-e.ensures ∙ ap capital c.byte_at.ensures in
    exponent-none a.text.now a.at (omega arith) (exponent-no a.text.now a.at (λ e. c.if-e-ne69.true (is ∙ e)))

pub overflow_add-s-2 : goal.overflow_add-s-2
overflow_add-s-2 c =
    let a = c.args in
    let letter-e = sym (c.in_capitals-e.ensures ∙ ap capital c.byte_at.ensures) ∙ c.if-e-ne69.false in
    omega (arith, (exponent-start a.text.now a.at letter-e c.byte_at-sign.result c.byte_at-sign.ensures).1)

pub read_digits-d-requires : goal.read_digits-d-requires
read_digits-d-requires c =
    let a = c.args in
    let letter-e = sym (c.in_capitals-e.ensures ∙ ap capital c.byte_at.ensures) ∙ c.if-e-ne69.false in
    ((exponent-start a.text.now a.at letter-e c.byte_at-sign.result c.byte_at-sign.ensures).1, omega arith)

pub returns-then-d-s : goal.returns-then-d-s
returns-then-d-s c =
    let a = c.args in
    let d = c.read_digits-d in
    let letter-e = sym (c.in_capitals-e.ensures ∙ ap capital c.byte_at.ensures) ∙ c.if-e-ne69.false in
    let start = exponent-start a.text.now a.at letter-e c.byte_at-sign.result c.byte_at-sign.ensures in
    exponent-none a.text.now a.at (omega arith)
    (exponent-bare a.text.now a.at letter-e _ start.0 d.result d.ensures c.if-d-s.true)

pub returns : goal.returns
returns c =
    let a = c.args in
    let d = c.read_digits-d in
    let letter-e = sym (c.in_capitals-e.ensures ∙ ap capital c.byte_at.ensures) ∙ c.if-e-ne69.false in
    let start = exponent-start a.text.now a.at letter-e c.byte_at-sign.result c.byte_at-sign.ensures in
    let some = exponent-some a.text.now a.at letter-e _ start.0 d.result d.ensures in
    some c.if-d-s.false c.byte_at-sign.result c.byte_at-sign.ensures
