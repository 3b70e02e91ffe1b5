-- The place that a search finds: its role is the one that check 3 finds, and a setting's place is one of the thirty slots.
use mathlib.Core.Path.{◌≡◌, refl}
use mathlib.Core.Bool.{Bool, true, false, ◌&&◌, ◌||◌}
use mathlib.Core.List.{List}
use Prim.Native.Nat.{ℕ, ◌≤◌, ◌<◌}
use lib.Dec.{eqb, ltb}
use borrow.Author.Tests.{eqb-true, ltb-true, ltb-false}
use Rattle.registers.specs.Text.{Text, if◌then◌otherwise◌, bytes, same, digit, every, empty}
use Rattle.registers.specs.Check.{refused, passed, ◌>>=◌}
use Rattle.registers.specs.Settings.{count, table, slots}
use Rattle.registers.proofs.Tests.{and_both, below_at}
use Rattle.interpreter.specs.Header.{suffix_in}
use Rattle.interpreter.specs.Rows.{rows, setting_rows, other_rows, find_row, second_of, on_second, on_channel, find_role}
use Rattle.interpreter.specs.NameParts.{class_of}
use Rattle.interpreter.specs.DeedParts.{row_count, row_role, place_count, place_of, role_at}
use Rattle.interpreter.specs.RowsParts.{row_of}
use Rattle.interpreter.specs.UnitParts.{role_found}
use Rattle.interpreter.specs.declared.deed.Role.{Role}
use Rattle.interpreter.specs.declared.deed.Role.TheVariants.{Setting, Register, Only, Saving, Label}
use Rattle.interpreter.proofs.Lists.{listed, agree}
use Rattle.interpreter.proofs.deed.Laws.{placeless}
use Rattle.interpreter.proofs.header.Laws.{found_none, found-role}

-- ---- a row's place on the channel that a suffix names, by computing it for all rows

place-role : (row : ℕ) → row < row_count → (t : Text) → on_channel t (row_role row) ≡ role_found (place_of row (class_of t))
unfolding listed on_channel class_of place_of role_found second_of row_role role_at rows setting_rows other_rows slots table ◌>>=◌ if◌then◌otherwise◌
place-role row h t = go (empty t) (same t (bytes "1")) (same t (bytes "2")) (every digit t)
  where
    go : (a b c d : Bool)
        → (if a || b then passed (row_role row) otherwise (if c then on_second (row_role row) otherwise refused 114))
        ≡ role_found (place_of row (if a then 0 otherwise (if b then 1 otherwise (if c then 2 otherwise (if d then 3 otherwise 4)))))
    go true b c d = agree row_count (λ k. passed (row_role k)) (λ k. role_found (place_of k 0)) refl row h
    go false true c d = agree row_count (λ k. passed (row_role k)) (λ k. role_found (place_of k 1)) refl row h
    go false false true d = agree row_count (λ k. on_second (row_role k)) (λ k. role_found (place_of k 2)) refl row h
    go false false false true = agree row_count (λ k. refused 114) (λ k. role_found (place_of k 3)) refl row h
    go false false false false = agree row_count (λ k. refused 114) (λ k. role_found (place_of k 4)) refl row h

no_place : (row x : ℕ) → row_count ≤ row → role_found (place_of row x) ≡ refused 113
unfolding role_found ◌>>=◌
no_place row x h = rw (placeless row x h)

pub role-found : (star : Bool) (names : List Text) (asked : Bool)
    → find_role star names asked ≡ role_found (place_of (row_of star names asked) (class_of (suffix_in names)))
unfolding find_role ◌>>=◌
role-found star names asked = go (ltb row row_count) refl
  where
    row : ℕ
    row = row_of star names asked

    go : (b : Bool) → ltb row row_count ≡ b → (find_row star names asked rows >>= on_channel (suffix_in names)) ≡ role_found (place_of row (class_of (suffix_in names)))
    go true e =
        let h = ltb-true row row_count e in
        rw (found-role star names asked row refl h) (place-role row h (suffix_in names))
    go false e =
        let h = ltb-false row row_count e in
        rw (found_none star names asked row refl h, no_place row (class_of (suffix_in names)) h)

-- a setting's place is its slot
abbrev settled : ℕ → Role → Bool
settled place (Setting i) = eqb i place && ltb place count
settled place (Register r) = true
settled place (Only d) = true
settled row (Saving x) = true
settled row Label = true

settled_at : (place : ℕ) → place < place_count → settled place (role_at place) ≡ true
unfolding role_at setting_rows other_rows slots table
settled_at place h = below_at place_count (λ k. settled k (role_at k)) refl place h

pub setting-known : (place i : ℕ) → place < place_count → role_at place ≡ Setting i → (i ≡ place) × (place < count)
setting-known place i h e =
    let p = and_both (eqb i place) (ltb place count) (rw e at (settled_at place h)) in
    (eqb-true i place p.0, ltb-true place count p.1)
