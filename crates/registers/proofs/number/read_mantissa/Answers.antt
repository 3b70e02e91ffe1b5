-- Two cases, by the byte after the whole digits: without a point these are the mantissa (`no-point`); with one, the digits after it
-- go on from the same number (`with-point`), and the point, being there, is within the text.
use Prim.Native.Char.{code}
use mathlib.Core.Path.{refl, sym, ◌∙◌}
use native.Mathlib.Omega.{arith}
use lib.ListN.{drop}
use borrow.Author.Tests.{eq-eqb}
use Rattle.registers.specs.Number.{point}
use Rattle.registers.specs.Text.{first}
use Rattle.registers.proofs.number.Laws.{no-point, with-point}
use Rattle.registers.proofs.text.Laws.{first-within}
use Rattle.registers.proofs.number.read_mantissa.Goals as goal

pub returns-then-byte_at-ne46 : goal.returns-then-byte_at-ne46
returns-then-byte_at-ne46 c =
    let w = c.read_digits-whole in
    let a = c.args in
    no-point a.text.now a.at w.result w.ensures (λ e. c.if-byte_at-ne46.true (c.byte_at.ensures ∙ e))

pub read_digits-all-requires : goal.read_digits-all-requires
read_digits-all-requires c =
    let w = c.read_digits-whole in
    let t = c.args.text.now in
    let is = eq-eqb (first (drop w.result.end t)) (code ".") (sym c.byte_at.ensures ∙ c.if-byte_at-ne46.false) in
    let l = first-within point t w.result.end refl is in
    (omega arith, omega (arith, w.ensures.value))

pub returns : goal.returns
returns c =
    let d = c.read_digits-all in
    let w = c.read_digits-whole in
    let a = c.args in
    let is = sym c.byte_at.ensures ∙ c.if-byte_at-ne46.false in
    with-point a.text.now a.at w.result w.ensures is d.result d.ensures
