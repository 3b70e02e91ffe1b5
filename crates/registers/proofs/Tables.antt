-- A table of bytes whose rows, all of one width, stand one after the other: without its first k times the width it starts with row
-- k. By induction over the rows before it; that all rows are as wide is one test, which computes.
use mathlib.Core.Path.{◌≡◌, sym, ◌∙◌, ap}
use mathlib.Core.Bool.{Bool, true}
use mathlib.Core.List.{List, [], ◌∷◌, ◌++◌}
use Prim.Native.Nat.{ℕ, zero, suc, ◌+◌, ◌*◌, ◌<◌}
use native.Mathlib.Omega.{arith}
use lib.Dec.{eqb}
use lib.ListN.{length, get_or, drop, length-append}
use lib.Seq.{drop-nil, drop-cons, drop-append-add, get_or-drop}
use borrow.Author.Tests.{eqb-true}
use Rattle.registers.specs.Text.{Text, every}
use Rattle.registers.proofs.Tests.{and_both}

module _ {A : Type 0} (row : A → Text) (width : ℕ) (table : List A → Text) (none : table [] ≡ [])
    (more : (x : A) (xs : List A) → table (x ∷ xs) ≡ row x ++ table xs) where
  abbrev wide : A → Bool
  wide x = eqb (length (row x)) width

  past : (l : List A) → every wide l ≡ true → (k : ℕ) → drop (k * width) (table l) ≡ table (drop k l)
  past l e zero = let z : 0 * width ≡ 0 = omega arith in rw z
  past [] e (suc k) = rw none (drop-nil (suc k * width))
  past (x ∷ l) e (suc k) =
      let p = and_both (wide x) (every wide l) e in
      let w = eqb-true (length (row x)) width p.0 in
      let s : suc k * width ≡ length (row x) + k * width = omega arith in
      rw (s, more x l, drop-append-add (row x) (table l) (k * width)) (past l p.1 k)

  -- without the rows before it the table starts with a row
  pub table_at : (l : List A) → every wide l ≡ true → (k : ℕ) (d : A) → k < length l
      → drop (k * width) (table l) ≡ row (get_or l k d) ++ table (drop (suc k) l)
  table_at l e k d h = past l e k ∙ ap table (drop-cons l k d h) ∙ more (get_or l k d) (drop (suc k) l)

  pub cell_at : (l : List A) → every wide l ≡ true → (k : ℕ) (d : A) → k < length l → (i : ℕ)
      → get_or (table l) (k * width + i) 0 ≡ get_or (row (get_or l k d) ++ table (drop (suc k) l)) i 0
  cell_at l e k d h i = sym (get_or-drop (k * width) (table l) i 0) ∙ ap (λ (m : Text). get_or m i 0) (table_at l e k d h)

  pub table-length : (l : List A) → every wide l ≡ true → length (table l) ≡ length l * width
  table-length [] e = let z : 0 ≡ 0 * width = omega arith in rw none z
  table-length (x ∷ l) e =
      let p = and_both (wide x) (every wide l) e in
      let w = eqb-true (length (row x)) width p.0 in
      let t = table-length l p.1 in
      rw (more x l, length-append (row x) (table l)) (omega arith)
