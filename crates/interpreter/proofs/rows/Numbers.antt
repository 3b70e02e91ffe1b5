-- The names' numbers find the row that the names spell, and seven of them are enough: no row has more than five nodes.
use mathlib.Core.Path.{◌≡◌, refl, sym, ◌∙◌, ap}
use mathlib.Core.Bool.{Bool, true, false, ◌&&◌, false≢true}
use mathlib.Core.List.{List, [], ◌∷◌, map}
use Prim.Native.Nat.{ℕ, suc, ◌≤◌, ◌<◌}
use native.Mathlib.Omega.{arith}
use lib.Dec.{leb}
use lib.ListN.{length, take, length-take}
use lib.Seq.{take_all}
use borrow.Author.Tests.{leb-true, leb-false}
use Rattle.registers.specs.Text.{Text, if◌then◌otherwise◌, every, same_bool}
use Rattle.registers.specs.Words.{Node, must, may}
use Rattle.registers.proofs.Tests.{and_both}
use Rattle.interpreter.specs.Header.{name}
use Rattle.interpreter.specs.Rows.{Row, rows, has_form, fits_row}
use Rattle.interpreter.specs.NameParts.{key_of, most_names}
use Rattle.interpreter.specs.DeedParts.{row_count}
use Rattle.interpreter.specs.TableParts.{first_fit, most_nodes}
use Rattle.interpreter.specs.RowsParts.{row_of, key_matches, greedy, fits_keys, row_of_keys}
use Rattle.interpreter.proofs.rows.Greedy.{clear, rows-clear, greedy-spells}
use Rattle.interpreter.proofs.rows.Rows.{few, rows_few}
use Rattle.interpreter.proofs.table.Lengths.{rows-many, first-most}

-- ---- a search by one test finds what a search by another finds, if the tests agree on every row

abbrev clear_row : Row → Bool
clear_row r = clear r.nodes

module _ (star : Bool) (names : List Text) (asked : Bool) (good : every name names ≡ true) where
  abbrev keys : List ℕ
  keys = map key_of names

  fits-same : (r : Row) → clear_row r ≡ true → fits_keys star keys asked r ≡ fits_row star names asked r
  unfolding fits_keys fits_row
  fits-same r c = rw (greedy-spells r.nodes c names good)

  first-same : (l : List Row) → every clear_row l ≡ true → first_fit (fits_keys star keys asked) l ≡ first_fit (fits_row star names asked) l
  unfolding first_fit
  first-same [] c = refl
  first-same (r ∷ l) c =
      let p = and_both (clear_row r) (every clear_row l) c in
      rw (fits-same r p.0, first-same l p.1)

  pub row_same : row_of_keys star keys asked ≡ row_of star names asked
  unfolding row_of_keys row_of
  row_same = first-same rows rows-clear

-- ---- a row has no more names than nodes

greedy-short : (nodes : List Node) (keys : List ℕ) → greedy nodes keys ≡ true → length keys ≤ length nodes
unfolding greedy if◌then◌otherwise◌
greedy-short [] [] e = omega arith
greedy-short [] (k ∷ keys) e = absurd (false≢true e)
greedy-short (must w ∷ nodes) [] e = omega arith
greedy-short (must w ∷ nodes) (k ∷ keys) e = go (key_matches w k) e (greedy-short nodes keys)
  where
    go : (m : Bool) → (if m then greedy nodes keys otherwise false) ≡ true → (greedy nodes keys ≡ true → length keys ≤ length nodes)
        → suc (length keys) ≤ suc (length nodes)
    go true q ih = let h = ih q in omega arith
    go false q ih = absurd (false≢true q)
greedy-short (may w ∷ nodes) [] e = omega arith
greedy-short (may w ∷ nodes) (k ∷ keys) e = go (key_matches w k) e (greedy-short nodes keys) (greedy-short nodes (k ∷ keys))
  where
    go : (m : Bool) → (if m then greedy nodes keys otherwise greedy nodes (k ∷ keys)) ≡ true → (greedy nodes keys ≡ true → length keys ≤ length nodes)
        → (greedy nodes (k ∷ keys) ≡ true → suc (length keys) ≤ length nodes) → suc (length keys) ≤ suc (length nodes)
    go true q ih jh = let h = ih q in omega arith
    go false q ih jh = let h = jh q in omega arith

module _ (star : Bool) (asked : Bool) where
  fits-short : (keys : List ℕ) (r : Row) → few r ≡ true → fits_keys star keys asked r ≡ true → length keys ≤ most_nodes
  unfolding fits_keys
  fits-short keys r f e =
      let p = and_both (same_bool star r.star) (has_form asked r.role && greedy r.nodes keys) e in
      let q = and_both (has_form asked r.role) (greedy r.nodes keys) p.1 in
      let g = greedy-short r.nodes keys q.1 in
      let l = leb-true (length r.nodes) most_nodes f in
      omega arith

  none-long : (keys : List ℕ) → most_nodes < length keys → (l : List Row) → every few l ≡ true → first_fit (fits_keys star keys asked) l ≡ length l
  unfolding first_fit if◌then◌otherwise◌
  none-long keys h [] f = refl
  none-long keys h (r ∷ l) f =
      let p = and_both (few r) (every few l) f in
      go (fits_keys star keys asked r) refl p.0 (none-long keys h l p.1)
    where
      go : (b : Bool) → fits_keys star keys asked r ≡ b → few r ≡ true → first_fit (fits_keys star keys asked) l ≡ length l
          → (if b then 0 otherwise suc (first_fit (fits_keys star keys asked) l)) ≡ suc (length l)
      go true q k ih = absurd (let s = fits-short keys r k q in omega arith)
      go false q k ih = ap suc ih

  long-none : (keys : List ℕ) → most_nodes < length keys → row_of_keys star keys asked ≡ row_count
  unfolding row_of_keys
  long-none keys h = none-long keys h rows rows_few ∙ rows-many

  -- seven names are as good as all
  pub held_same : (keys : List ℕ) → row_of_keys star (take most_names keys) asked ≡ row_of_keys star keys asked
  held_same keys = go (leb (length keys) most_names) refl
    where
      go : (b : Bool) → leb (length keys) most_names ≡ b → row_of_keys star (take most_names keys) asked ≡ row_of_keys star keys asked
      go true q = ap (λ (ks : List ℕ). row_of_keys star ks asked) (take_all most_names keys (leb-true (length keys) most_names q))
      go false q =
          let h = leb-false (length keys) most_names q in
          let t = length-take most_names keys in
          long-none (take most_names keys) (omega arith) ∙ sym (long-none keys (omega arith))

  -- a header that has a row has few names
  pub found-few : (keys : List ℕ) → row_of_keys star keys asked < row_count → length keys ≤ most_nodes
  found-few keys h = go (leb (length keys) most_nodes) refl
    where
      go : (b : Bool) → leb (length keys) most_nodes ≡ b → length keys ≤ most_nodes
      go true q = leb-true (length keys) most_nodes q
      go false q = absurd (let z = long-none keys (leb-false (length keys) most_nodes q) in omega arith)

-- a search finds a row, or none
pub keys-most : (star : Bool) (keys : List ℕ) (asked : Bool) → row_of_keys star keys asked ≤ row_count
unfolding row_of_keys
keys-most star keys asked = let n = rows-many in let m = first-most (fits_keys star keys asked) rows in omega arith
