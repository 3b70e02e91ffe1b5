use mathlib.Core.Path.{◌≡◌, sym, ◌∙◌, ap}
use Prim.Native.Nat.{ℕ, ◌+◌}
use lib.Dec.{eqb}
use mir.Val.{bool_byte}
use Prim.Native.Char.{code}
use Rattle.interpreter.proofs.header.Tail.{tail-fits, tail-end, tail_white, tail_more}
use native.Mathlib.Omega.{arith}
use Rattle.interpreter.proofs.header.read_tail.Goals as goal
use Rattle.interpreter.proofs.header.read_tail.Goals.{else-end-text-via-then-end-text+else-not-is_white, else-end-text-via-else-end-text}

pub overflow_add-end : goal.overflow_add-end
overflow_add-end c =
    let a = c.args in
    let f = tail-fits a.text.now a.at _ c.byte_at-asked.ensures 18446744073709551615 (omega arith) (omega arith) in
    omega (arith, f, c.from.ensures)

pub returns-then-not-is_white : goal.returns-then-not-is_white
returns-then-not-is_white c =
    let a = c.args in
    let to : a.at + c.from.result ≡ a.at + bool_byte (eqb c.byte_at-asked.result (code "?")) = ap (λ (n : ℕ). a.at + n) c.from.ensures in
    tail_more a.text.now a.at _ c.byte_at-asked.ensures a.count _ to c.if-end-text.true (sym c.is_white.ensures ∙ c.if-not-is_white.true)

pub returns : goal.returns
returns c =
    let a = c.args in
    let to : a.at + c.from.result ≡ a.at + bool_byte (eqb c.byte_at-asked.result (code "?")) = ap (λ (n : ℕ). a.at + n) c.from.ensures in
    elim c.else-end-text.branch [
      | else-end-text-via-then-end-text+else-not-is_white w ↦ tail_white a.text.now a.at _ c.byte_at-asked.ensures a.count _ to w.if-end-text.true (sym w.is_white.ensures ∙ w.if-not-is_white.false)
      | else-end-text-via-else-end-text w ↦ tail-end a.text.now a.at _ c.byte_at-asked.ensures a.count _ to w.if-end-text.false
    ]
