-- The settings: the code's tables are 01's, what a table holds comes back from its 32 bits, and a value stored and refusal 4 by
-- their cases.
use mathlib.Core.Path.{◌≡◌, refl, sym, ◌∙◌, ap}
use mathlib.Core.Bool.{true, false}
use Prim.Native.Nat.{ℕ, ◌≤◌, ◌<◌}
use lib.ListN.{get_or, get_or-map, get_or-eq_default}
use lib.IntN.{ℤ, pos}
use lib.Dec.{eqb}
use Rattle.registers.specs.Text.{if◌then◌otherwise◌, below}
use Rattle.registers.specs.Settings.{Kind, bool, Setting, table, past, slots, kind_of, quantity_of, setting_at, lowest_of, highest_of, lowest, value_at, Sort, bools, some_words, numbers, sort_of, meant_values, within, conflict, stored, with_value, count, possible_values}
use Rattle.registers.specs.declared.settings.TheConstants.{KINDS, SWITCH}
use Rattle.registers.specs.declared.settings.TheConstants.Settings.{LOWEST, HIGHEST}
use Rattle.registers.specs.declared.settings.Kind.{Kind as RowKind}
use Rattle.registers.specs.declared.settings.Settings.{Settings}
use Rattle.registers.specs.declared.settings.Values.{Values}
use Rattle.registers.specs.declared.settings.Values.TheVariants.{Bool as BoolValue, Word, Tenths, Whole}
use Rattle.registers.proofs.Tests.{and-fails, below_fails}

-- the code's limits
pub lowest-at : (i : ℕ) → get_or LOWEST i (pos 0) ≡ lowest i
unfolding slots table setting_at lowest
lowest-at i = get_or-map (λ (x : Setting). lowest_of x.kind) slots i past

pub highest-at : (i : ℕ) → get_or HIGHEST i (pos 1) ≡ highest_of (kind_of i)
unfolding slots table setting_at
highest-at i = get_or-map (λ (x : Setting). highest_of x.kind) slots i past

-- the code's kinds of rows
pub values-at : (i : ℕ) → meant_values (get_or KINDS i SWITCH).values ≡ sort_of (kind_of i)
unfolding slots table setting_at
values-at i = sym (get_or-map (λ (k : RowKind). meant_values k.values) KINDS i SWITCH) ∙ get_or-map (λ (x : Setting). sort_of x.kind) slots i past

pub quantity-at : (i : ℕ) → (get_or KINDS i SWITCH).quantity ≡ quantity_of i
unfolding slots table setting_at
quantity-at i = sym (get_or-map (λ (k : RowKind). k.quantity) KINDS i SWITCH) ∙ get_or-map (λ (x : Setting). x.quantity) slots i past

-- a name is told by what it means
abbrev name_of : Sort → Values
name_of bools = BoolValue
name_of some_words = Word
name_of (numbers k) = if eqb k 10 then Tenths otherwise Whole

named : (v : Values) → v ≡ name_of (meant_values v)
unfolding if◌then◌otherwise◌
named BoolValue = refl
named Word = refl
named Tenths = refl
named Whole = refl

pub values-only : (a b : Values) → meant_values a ≡ meant_values b → a ≡ b
values-only a b e = named a ∙ ap name_of e ∙ sym (named b)

-- and is then the kind's own
abbrev pub values_in : Kind → Values
values_in k = name_of (sort_of k)

pub values-is : (v : Values) (k : Kind) → meant_values v ≡ sort_of k → v ≡ values_in k
values-is v k e = named v ∙ ap name_of e

-- a row past the table
pub past_is : (i : ℕ) → count ≤ i → kind_of i ≡ bool
unfolding slots table setting_at
past_is i h = ap (λ (x : Setting). x.kind) (get_or-eq_default slots past h)

-- ---- a value that is stored, by checks 7 and 8

module _ (i : ℕ) (v : ℤ) (s : Settings) where
  pub stored-yes : within s i v ≡ true → conflict s i v ≡ false → stored i v s ≡ with_value i v s
  unfolding stored if◌then◌otherwise◌
  stored-yes e f = rw (e, f)

  pub stored-outside : within s i v ≡ false → stored i v s ≡ s
  unfolding stored if◌then◌otherwise◌
  stored-outside e = rw e

  pub stored-conflict : conflict s i v ≡ true → stored i v s ≡ s
  unfolding stored if◌then◌otherwise◌
  stored-conflict f = rw (f, and-fails (within s i v) false refl)

-- ---- refusal 4 on the settings, slot by slot

pub outside-fails : (s : Settings) (i : ℕ) → i < count → within s i (value_at s i) ≡ false → false ≡ possible_values s
unfolding possible_values
outside-fails s i h e = sym (below_fails count (λ k. within s k (value_at s k)) i h e)

pub all-within : (s : Settings) (i : ℕ) → i ≡ count → below i (λ k. within s k (value_at s k)) ≡ true → true ≡ possible_values s
unfolding possible_values
all-within s i h e = sym (rw h at e)
