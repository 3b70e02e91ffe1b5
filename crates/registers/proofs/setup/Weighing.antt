-- Laws of the loop that weighs a text, and of four bytes as a number.
use mathlib.Core.Path.{◌≡◌, ◌∙◌, ap}
use mathlib.Core.List.{List, [], ◌∷◌}
use Prim.Native.Nat.{ℕ, suc, ◌+◌, ◌-◌, ◌*◌, ◌≤◌, ◌<◌, zero-le}
use native.Mathlib.Omega.{arith}
use native.Mathlib.Numerals.{add-one}
use lib.ListN.{length, drop, get_or, drop_of_length-le}
use lib.Seq.{drop-cons}
use mathlib.Core.Bool.{false}
use lib.Dec.{eqb}
use lib.ListN.{take}
use lib.ListN.{length-drop}
use borrow.Author.Tests.{eq-eqb, ne_eqb}
use Rattle.registers.specs.Setup.{block_size, weighted, low_first, checks}
use Rattle.registers.proofs.setup.Laws.{term}

pub record Weighing (l : List ℕ) (sum i : ℕ) : Type 0 where
  pub small : sum ≤ 129540 * i
  pub is : sum + weighted (suc i) (drop i l) ≡ weighted 1 l

pub weigh-start : (l : List ℕ) → Weighing l 0 0
weigh-start l = record { small = zero-le; is = omega arith }

module _ (l : List ℕ) (sum i b : ℕ) (w : Weighing l sum i) where
  pub weigh-on : i < length l → length l ≤ 508 → b ≡ get_or l i 0 → b ≤ 255 → Weighing l (sum + (i + 1) * b) (i + 1)
  unfolding weighted
  weigh-on h long e k =
      let t : (i + 1) * b ≤ 129540 = term (i + 1) b (omega arith) k in
      let s = w.small in
      let m : sum + (suc i * get_or l i 0 + weighted (suc (suc i)) (drop (suc i) l)) ≡ weighted 1 l = rw (drop-cons l i 0 h) at w.is in
      record { small = omega arith; is = rw (e, add-one i) (omega (arith, m)) }

  pub weigh-end : length l ≤ i → sum ≡ weighted 1 l
  unfolding weighted
  weigh-end h = let m : sum + 0 ≡ weighted 1 l = rw (drop_of_length-le l h) at w.is in omega (arith, m)

pub four_is : (l : List ℕ) → length l ≡ 4 → low_first l ≡ get_or l 0 0 + get_or l 1 0 * 256 + get_or l 2 0 * 65536 + get_or l 3 0 * 16777216
unfolding low_first
four_is [] h = absurd (omega arith)
four_is (a ∷ []) h = absurd (omega arith)
four_is (a ∷ b ∷ []) h = absurd (omega arith)
four_is (a ∷ b ∷ c ∷ []) h = absurd (omega arith)
four_is (a ∷ b ∷ c ∷ d ∷ []) h = omega arith
four_is (a ∷ b ∷ c ∷ d ∷ e ∷ l) h = absurd (omega arith)

pub short-fails : (b : List ℕ) → (length b ≡ block_size → ⊥) → false ≡ checks b
unfolding checks
short-fails b h = rw (ne_eqb (length b) 512 h)

pub check-is : (b contents sum : List ℕ) (x y : ℕ) → length b ≡ 512 → contents ≡ take (length b - 4) b → sum ≡ drop (length b - 4) b → x ≡ weighted 1 contents
    → y ≡ get_or sum 0 0 + get_or sum 1 0 * 256 + get_or sum 2 0 * 65536 + get_or sum 3 0 * 16777216 → eqb x y ≡ checks b
unfolding checks
check-is b contents sum x y h c s e f =
    let n : length b - 4 ≡ 508 = omega arith in
    let last : sum ≡ drop 508 b = s ∙ ap (λ (k : ℕ). drop k b) n in
    let four : length sum ≡ 4 = rw (last, length-drop) (omega arith) in
    rw (eq-eqb (length b) 512 h, e, c, n, ← last, four_is sum four, f)
