-- For the callers of the header reader: check 3 by the number of the row that was found. By induction over the rows: the first that fits
-- has the role that check 3 finds, and with none it refuses by -113.
use mathlib.Core.Path.{◌≡◌, refl, sym, subst}
use mathlib.Core.Bool.{Bool, true, false}
use mathlib.Core.List.{List, [], ◌∷◌, map}
use Prim.Native.Nat.{ℕ, suc, ◌≤◌, ◌<◌}
use native.Mathlib.Omega.{arith}
use lib.ListN.{length, get_or}
use Rattle.registers.specs.Text.{Text, if◌then◌otherwise◌}
use Rattle.registers.specs.Check.{refused, passed}
use Rattle.interpreter.specs.Rows.{Row, rows, fits_row, find_row}
use Rattle.interpreter.specs.DeedParts.{row_count, row_role}
use Rattle.interpreter.specs.TableParts.{first_fit}
use Rattle.interpreter.specs.RowsParts.{row_of}
use Rattle.interpreter.specs.declared.deed.Role.{Role}
use Rattle.interpreter.specs.declared.deed.Role.TheVariants.{Setting as setting}
use Rattle.interpreter.proofs.table.Lengths.{rows-many, first-most}

module _ (star : Bool) (names : List Text) (asked : Bool) where
  abbrev fits : Row → Bool
  fits = fits_row star names asked

  abbrev role_of : Row → Role
  role_of r = r.role

  none_in : (l : List Row) → length l ≤ first_fit fits l → find_row star names asked l ≡ refused 113
  unfolding find_row first_fit if◌then◌otherwise◌
  none_in [] h = refl
  none_in (r ∷ l) h = go (fits r) (none_in l) h
    where
      go : (b : Bool) → (length l ≤ first_fit fits l → find_row star names asked l ≡ refused 113)
          → suc (length l) ≤ (if b then 0 otherwise suc (first_fit fits l))
          → (if b then passed r.role otherwise find_row star names asked l) ≡ refused 113
      go true ih k = absurd (omega arith)
      go false ih k = ih (omega arith)

  found_in : (l : List Row) (d : Role) → first_fit fits l < length l → find_row star names asked l ≡ passed (get_or (map role_of l) (first_fit fits l) d)
  unfolding find_row first_fit if◌then◌otherwise◌
  found_in [] d h = absurd (omega arith)
  found_in (r ∷ l) d h = go (fits r) (found_in l d) h
    where
      go : (b : Bool) → (first_fit fits l < length l → find_row star names asked l ≡ passed (get_or (map role_of l) (first_fit fits l) d))
          → (if b then 0 otherwise suc (first_fit fits l)) < suc (length l)
          → (if b then passed r.role otherwise find_row star names asked l) ≡ passed (get_or (map role_of (r ∷ l)) (if b then 0 otherwise suc (first_fit fits l)) d)
      go true ih k = refl
      go false ih k = ih (omega arith)

  -- ---- over the whole table

  pub found-most : row_of star names asked ≤ row_count
  unfolding row_of
  found-most = let n = rows-many in let m = first-most fits rows in omega arith

  module _ (row : ℕ) (is : row ≡ row_of star names asked) where
    -- "-113 is raised exactly when no row .. spells the header"
    pub found_none : row_count ≤ row → find_row star names asked rows ≡ refused 113
    unfolding row_of
    found_none h = let n = rows-many in none_in rows (omega arith)

    pub found-role : row < row_count → find_row star names asked rows ≡ passed (row_role row)
    unfolding row_of row_role
    found-role h =
        let n = rows-many in
        let f = found_in rows (setting row) (omega arith) in
        subst (λ (i : ℕ). find_row star names asked rows ≡ passed (get_or (map role_of rows) i (setting row))) (sym is) f
