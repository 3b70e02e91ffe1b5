-- The headers that the writer writes: each spells its setting's row, has few bytes and no newline. Computed over the whole table.
use mathlib.Core.Path.{◌≡◌, refl, ap}
use mathlib.Core.Bool.{Bool, true, false, not}
use mathlib.Core.List.{List}
use Prim.Native.Nat.{ℕ, zero, suc, ◌≤◌, ◌<◌}
use Prim.Native.Char.{code}
use native.Mathlib.Omega.{arith}
use lib.Dec.{eqb, leb}
use lib.ListN.{length}
use borrow.Author.Tests.{eqb-true, eqb-false, leb-true}
use Rattle.registers.specs.Text.{Text, if◌then◌otherwise◌, bytes, same, digit, letter, word_byte, small, capital, every, below}
use Rattle.registers.specs.Check.{Checked, passed, ◌>>=◌, ◌>>◌, check}
use Rattle.registers.specs.Words.{short_form, long_form, matches}
use Rattle.registers.specs.Settings.{count, table, slots, setting_at}
use Rattle.registers.proofs.Tests.{below_at}
use Rattle.interpreter.specs.Cuts.{cut_at}
use Rattle.interpreter.specs.Header.{Header, here, name, placed, header, numbered, node_matches, suffix_in, spells, body_of, by_first}
use Rattle.interpreter.specs.Rows.{setting_rows, other_rows, rows, fits_row, find_row, second_of, on_channel, find_role}
use Rattle.interpreter.specs.Demand2.{tabled, display, Spelling}
use Rattle.interpreter.specs.declared.deed.Role.{Role}
use Rattle.interpreter.specs.declared.deed.Role.TheVariants.{Setting}
use Rattle.writer.specs.Lines.{short_names, joined_names, header_for, label_header}

abbrev names_for : ℕ → List Text
names_for i = cut_at (code ":") (header_for i)

-- what a header is read as, and the row that it finds
record Found : Type 0 where
  heading : Checked Header
  row : Checked Role

abbrev found : ℕ → Found
found i = record { heading = header (header_for i); row = find_role false (names_for i) false }

abbrev expected : ℕ → Found
expected i = record { heading = passed (record { place = here; names = names_for i; query = false }); row = passed (Setting i) }

abbrev AllTo : ℕ → Type 0
AllTo zero = Unit {0}
AllTo (suc n) = AllTo n × (found n ≡ expected n)

all_found : AllTo count
unfolding if◌then◌otherwise◌ bytes same digit letter word_byte small capital ◌>>=◌ ◌>>◌ check short_form long_form matches table slots setting_at
    cut_at name placed body_of by_first header numbered node_matches suffix_in spells setting_rows other_rows rows fits_row find_row second_of on_channel find_role short_names joined_names header_for
all_found =
    ((((((((((((((((((((((((((((((tt, refl), refl), refl), refl), refl), refl), refl), refl), refl), refl), refl), refl), refl), refl), refl), refl), refl), refl), refl), refl), refl), refl), refl), refl), refl), refl), refl), refl), refl), refl)

found_at : (n i : ℕ) → i < n → AllTo n → found i ≡ expected i
found_at zero i h a = absurd (omega arith)
found_at (suc n) i h a = go (eqb i n) refl (λ l. found_at n i l a.0)
  where
    go : (t : Bool) → eqb i n ≡ t → (i < n → found i ≡ expected i) → found i ≡ expected i
    go true q more = rw (eqb-true i n q) a.1
    go false q more = let k = eqb-false i n q in more (omega arith)

pub spelling-for : (i : ℕ) → i < count → Spelling (tabled i) (header_for i)
spelling-for i h =
    let e = found_at count i h all_found in
    record { read = record { place = here; names = names_for i; query = false }; reads = ap (λ (f : Found). f.heading) e; sets = refl; row = ap (λ (f : Found). f.row) e }

-- and the display's text
pub label-spelling : Spelling display label_header
unfolding if◌then◌otherwise◌ bytes same digit letter word_byte small capital ◌>>=◌ ◌>>◌ check short_form long_form matches table slots setting_at
    cut_at name placed body_of by_first header numbered node_matches suffix_in spells setting_rows other_rows rows fits_row find_row second_of on_channel find_role
label-spelling = record { read = record { place = here; names = cut_at (code ":") label_header; query = false }; reads = refl; sets = refl; row = refl }

-- ---- their bytes

abbrev pub most_header : ℕ
most_header = 19

abbrev brief : ℕ → Bool
brief i = leb (length (header_for i)) most_header

all-brief : below count brief ≡ true
unfolding if◌then◌otherwise◌ bytes same small short_form table slots setting_at numbered short_names joined_names header_for
all-brief = refl

pub header-short : (i : ℕ) → i < count → length (header_for i) ≤ most_header
header-short i h = leb-true (length (header_for i)) most_header (below_at count brief all-brief i h)

-- no newline
abbrev pub inside : ℕ → Bool
inside x = not (eqb x 10)

all-inside : below count (λ i. every inside (header_for i)) ≡ true
unfolding if◌then◌otherwise◌ bytes same small short_form table slots setting_at numbered short_names joined_names header_for
all-inside = refl

pub header-inside : (i : ℕ) → i < count → every inside (header_for i) ≡ true
header-inside i h = below_at count (λ i. every inside (header_for i)) all-inside i h
