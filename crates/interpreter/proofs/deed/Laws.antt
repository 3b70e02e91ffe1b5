-- Laws of the rows' roles, by computing them for all rows.
use mathlib.Core.Path.{◌≡◌, refl, sym, ◌∙◌}
use mathlib.Core.List.{map}
use mathlib.Core.Bool.{Bool, true, false, ◌&&◌}
use lib.ListN.{get_or}
use lib.Dec.{leb, ltb, eqb}
use Prim.Native.Nat.{ℕ, ◌+◌, ◌-◌, ◌≤◌, ◌<◌}
use native.Mathlib.Omega.{arith}
use borrow.Author.Tests.{le-leb, leb-false, ltb-true}
use Rattle.registers.proofs.Tests.{and_both}
use Rattle.registers.specs.Text.{if◌then◌otherwise◌}
use Rattle.std.specs.Prelude.{IfOk, Result, Ok, Err}
use Rattle.registers.specs.Check.{refused, passed}
use Rattle.registers.specs.Error.{meant}
use Rattle.registers.specs.declared.error.Error.{Error}
use Rattle.registers.specs.Settings.{count, table_count, table, slots}
use Rattle.interpreter.specs.Rows.{Row, setting_rows, other_rows, monitor, brightness}
use Rattle.interpreter.specs.DeedParts.{row_count, place_count, place_of, role_at}
use Rattle.interpreter.specs.declared.deed.Role.TheVariants.{Setting}
use Rattle.interpreter.proofs.Lists.{listed, agree}
use Rattle.interpreter.proofs.Checks.{apart}

pub role-setting : (i : ℕ) → i < count → Setting i ≡ role_at i
unfolding listed role_at setting_rows other_rows slots table
role-setting i h = agree count Setting role_at refl i h

-- what the rows after the slots are for
pub role-other : (i : ℕ) → count + i < place_count → get_or (map (λ (r : Row). r.role) other_rows) i (Setting 0) ≡ role_at (count + i)
unfolding listed role_at setting_rows other_rows slots table
role-other i h =
    agree (place_count - count) (λ k. get_or (map (λ (r : Row). r.role) other_rows) k (Setting 0)) (λ k. role_at (count + k)) refl i (omega arith)

-- a header without a row has no place, whatever its suffix is
pub placeless : (row x : ℕ) → row_count ≤ row → place_of row x ≡ refused 113
unfolding place_of if◌then◌otherwise◌
placeless row x h = rw (le-leb row_count row h)

pub place-nowhere : (row x y : ℕ) → row_count ≤ row → place_of row x ≡ place_of row y
place-nowhere row x y h = placeless row x h ∙ sym (placeless row y h)

-- ---- a place is one of those that there are, and belongs to a row

-- what a place is, and of which row
pub place-there : (row x i : ℕ) → place_of row x ≡ passed i → (row < row_count) × (i < place_count)
unfolding place_of if◌then◌otherwise◌
place-there row x i h =
    go (leb row_count row) refl (ltb x 2) (ltb row table_count) refl (eqb x 2 && ltb row monitor) refl (eqb x 2 && (ltb monitor row && ltb row brightness)) refl h
  where
    go : (a : Bool) → leb row_count row ≡ a → (b c : Bool) → ltb row table_count ≡ c → (d : Bool) → (eqb x 2 && ltb row monitor) ≡ d
        → (e : Bool) → (eqb x 2 && (ltb monitor row && ltb row brightness)) ≡ e
        → (if a then refused 113 otherwise (if b then passed (if c then row otherwise row + (count - table_count)) otherwise (if d then passed (row + table_count) otherwise (if e then passed (row + (table_count - 1)) otherwise refused 114)))) ≡ passed i
        → (row < row_count) × (i < place_count)
    go true p b c q d s e r k = absurd (apart 113 i k)
    go false p true true q d s e r k =
        let h = leb-false row_count row p in
        let n : row ≡ i = cc in
        let m = ltb-true row table_count q in
        (h, omega arith)
    go false p true false q d s e r k =
        let h = leb-false row_count row p in
        let n : row + (count - table_count) ≡ i = cc in
        (h, omega arith)
    go false p false c q true s e r k =
        let h = leb-false row_count row p in
        let n : row + table_count ≡ i = cc in
        let m = ltb-true row monitor (and_both (eqb x 2) (ltb row monitor) s).1 in
        (h, omega arith)
    go false p false c q false s true r k =
        let h = leb-false row_count row p in
        let n : row + (table_count - 1) ≡ i = cc in
        let m = ltb-true row brightness (and_both (ltb monitor row) (ltb row brightness) (and_both (eqb x 2) _ r).1).1 in
        (h, omega arith)
    go false p false c q false s false r k = absurd (apart 114 i k)

-- so the code's place is there, if it has one
pub meant-there : (row x : ℕ) (r : Result ℕ Error) → meant r ≡ place_of row x → IfOk r (λ i. i < place_count)
meant-there row x (Ok i) e = (place-there row x i (sym e)).1
meant-there row x (Err e) k = tt
