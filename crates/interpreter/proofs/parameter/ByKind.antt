-- What a setting's kind says of its parameters. The code is told one of four names (`Values`) in place of the kind; that both say the same is
-- computed over all rows at once (`kinds-agree`), and past the table a row counts as a bool.
use mathlib.Core.Path.{◌≡◌, refl, ap, sym, ◌∙◌}
use mathlib.Core.Bool.{Bool, true, false, not, ◌&&◌, ◌||◌, false≢true}
use mathlib.Core.Logic.{◌⊎◌, inl, inr}
use Prim.Native.Nat.{ℕ, zero, suc, ◌≤◌, ◌<◌}
use native.Mathlib.Omega.{arith}
use lib.Dec.{leb, ltb, eqb}
use lib.ListN.{length}
use lib.IntN.{ℤ, pos}
use mir.Val.{bool_byte}
use borrow.Author.Tests.{leb-true, ltb-true, ltb-false}
use Rattle.registers.specs.Text.{if◌then◌otherwise◌}
use Rattle.registers.specs.Rounding.{switched_on, rounded, side_in}
use Rattle.registers.specs.Settings.{count, Kind, bool, words, number, table, setting_at, kind_of, sort_of, meant_values, highest, slots}
use Rattle.registers.specs.declared.number.Decimal.{Decimal}
use Rattle.registers.specs.declared.rounding.Side.{Side}
use Rattle.registers.specs.declared.rounding.Side.TheVariants.{On}
use Rattle.registers.specs.declared.settings.Settings.{Settings}
use Rattle.registers.specs.declared.settings.Values.{Values}
use Rattle.registers.specs.declared.settings.Values.TheVariants.{Bool as BoolValue, Word as WordValue, Tenths, Whole}
use Rattle.registers.proofs.Tests.{below_at}
use Rattle.registers.proofs.settings.Laws.{past_is, values_in, values-is}
use Rattle.registers.specs.declared.status.Register as registers
use Rattle.interpreter.specs.WordsParts.{word_count}
use Rattle.interpreter.specs.Parameter.{Word, Figure, least, greatest, asks_limits, words_of, limit_at, value_given, side_given, is_number}
use Rattle.interpreter.specs.declared.deed.Saving as savings
use Rattle.interpreter.specs.declared.deed.Role.{Role}
use Rattle.interpreter.specs.declared.deed.Role.TheVariants.{Setting, Register, Only, Saving, Label}
use Rattle.interpreter.proofs.Lists.{listed, agree}

-- ---- what two functions say of every row, by computing both for all settings

-- a row past the table counts as a bool
kinds-agree : {A : Type 0} (f g : Kind → A) → listed count (λ i. f (kind_of i)) ≡ listed count (λ i. g (kind_of i)) → f bool ≡ g bool
    → (i : ℕ) → f (kind_of i) ≡ g (kind_of i)
kinds-agree f g e b i = go (ltb i count) refl
  where
    go : (t : Bool) → ltb i count ≡ t → f (kind_of i) ≡ g (kind_of i)
    go true q = agree count (λ k. f (kind_of k)) (λ k. g (kind_of k)) e i (ltb-true i count q)
    go false q = rw (past_is i (ltb-false i count q)) b

-- ---- by the sort of a row's values

-- ten steps of step 0.1 make one
abbrev pub figure_in : Decimal → Values → ℤ
figure_in d BoolValue = if switched_on d then pos 1 otherwise pos 0
figure_in d WordValue = pos 0
figure_in d Tenths = rounded 10 d
figure_in d Whole = rounded 1 d

-- where the code has been told the sort
pub figure-in : (i : ℕ) {v told : Values} → told ≡ v → meant_values told ≡ sort_of (kind_of i) → (s : Settings) (d : Decimal)
    → figure_in d v ≡ value_given s i (kind_of i) (Figure d)
unfolding listed setting_at slots table if◌then◌otherwise◌ value_given
figure-in i is of s d =
    ap (figure_in d) (sym is ∙ values-is _ (kind_of i) of) ∙ kinds-agree (λ k. figure_in d (values_in k)) (λ k. value_given s i k (Figure d)) refl refl i

-- and which side of the step a number is on
abbrev pub side_of : Decimal → Values → Side
side_of d BoolValue = On
side_of d WordValue = On
side_of d Tenths = side_in 10 d
side_of d Whole = side_in 1 d

pub side-of : (i : ℕ) {v told : Values} → told ≡ v → meant_values told ≡ sort_of (kind_of i) → (d : Decimal) → side_of d v ≡ side_given (kind_of i) (Figure d)
unfolding listed setting_at slots table if◌then◌otherwise◌
side-of i is of d = ap (side_of d) (sym is ∙ values-is _ (kind_of i) of) ∙ kinds-agree (λ k. side_of d (values_in k)) (λ k. side_given k (Figure d)) refl refl i

abbrev pub number_in : Values → Bool
number_in BoolValue = false
number_in WordValue = false
number_in Tenths = true
number_in Whole = true

pub number-in : (k : Kind) {v told : Values} → told ≡ v → meant_values told ≡ sort_of k → is_number k ≡ number_in v
unfolding if◌then◌otherwise◌
number-in k is of = go k ∙ ap number_in (sym (values-is _ k of) ∙ is)
  where
    sort : (t : Bool) → true ≡ number_in (if t then Tenths otherwise Whole)
    sort true = refl
    sort false = refl

    go : (k : Kind) → is_number k ≡ number_in (values_in k)
    go bool = refl
    go (words ws) = refl
    go (number n low high) = sort (eqb n 10)

-- ---- words

-- a number's words are its limits, any other's are counted
module _ (s : Settings) (i n : ℕ) where
  pub word_number : (k : Kind) → is_number k ≡ true → limit_at s i n ≡ value_given s i k (Word n)
  unfolding value_given
  word_number bool e = absurd (false≢true e)
  word_number (words ws) e = absurd (false≢true e)
  word_number (number m low high) e = refl

  pub word-other : (k : Kind) → is_number k ≡ false → pos n ≡ value_given s i k (Word n)
  unfolding value_given
  word-other bool e = refl
  word-other (words ws) e = refl
  word-other (number m low high) e = absurd (false≢true (sym e))

-- and are on the step
pub word_on : (k : Kind) (n : ℕ) → On ≡ side_given k (Word n)
word_on bool n = refl
word_on (words ws) n = refl
word_on (number m low high) n = refl

pub limit-other : (s : Settings) (i n : ℕ) → (n ≡ 0 → ⊥) → highest s i ≡ limit_at s i n
limit-other s i zero h = absurd (h refl)
limit-other s i (suc n) h = refl

-- ---- how many words a setting takes

pub words-few : (i : ℕ) → i < count → length (words_of (kind_of i)) ≤ word_count
unfolding setting_at slots table
words-few i h = leb-true (length (words_of (kind_of i))) word_count (below_at count (λ k. leb (length (words_of (kind_of k))) word_count) refl i h)

-- ---- check 4: a number's query may have one parameter; what sets takes as many as it may have, and a query does without

pub setting-most : (k : Kind) (asked : Bool) → bool_byte (not asked || is_number k) ≡ (if asked then asks_limits k otherwise 1)
unfolding if◌then◌otherwise◌
setting-most k false = refl
setting-most bool true = refl
setting-most (words ws) true = refl
setting-most (number n low high) true = refl

set-most : (asked : Bool) → bool_byte (not asked) ≡ (if asked then 0 otherwise 1)
unfolding if◌then◌otherwise◌
set-most true = refl
set-most false = refl

pub other-most : (r : Role) (asked : Bool) → ((x : registers.Register) × (r ≡ Register x)) ⊎ (((x : savings.Saving) × (r ≡ Saving x)) ⊎ (r ≡ Label)) → bool_byte (not asked) ≡ greatest r asked
unfolding greatest
other-most r asked (inl e) = rw e.1 (set-most asked)
other-most r asked (inr (inl e)) = rw e.1 (set-most asked)
other-most r asked (inr (inr e)) = rw e (set-most asked)

least-asked : (r : Role) → 0 ≡ least r true
unfolding least if◌then◌otherwise◌
least-asked (Setting i) = refl
least-asked (Register r) = refl
least-asked (Only d) = refl
least-asked (Saving x) = refl
least-asked Label = refl

least-set : (r : Role) → greatest r false ≡ least r false
unfolding least greatest if◌then◌otherwise◌
least-set (Setting i) = refl
least-set (Register r) = refl
least-set (Only d) = refl
least-set (Saving x) = refl
least-set Label = refl

-- what the code compares
module _ (r : Role) (n : ℕ) where
  pub too_few : (asked : Bool) → (not asked && ltb n (greatest r asked)) ≡ true → n < least r asked
  too_few true e = absurd (false≢true e)
  too_few false e = let h = ltb-true n (greatest r false) e in let s = least-set r in omega arith

  pub enough : (asked : Bool) → (not asked && ltb n (greatest r asked)) ≡ false → least r asked ≤ n
  enough true e = let s = least-asked r in omega arith
  enough false e = let h = ltb-false n (greatest r false) e in let s = least-set r in omega arith

-- at most one may be given
limits-one : (k : Kind) → asks_limits k ≤ 1
limits-one bool = omega arith
limits-one (words ws) = omega arith
limits-one (number n low high) = omega arith

pub greatest-one : (r : Role) (asked : Bool) → greatest r asked ≤ 1
unfolding greatest if◌then◌otherwise◌
greatest-one (Setting i) true = limits-one (kind_of i)
greatest-one (Setting i) false = omega arith
greatest-one (Register x) true = omega arith
greatest-one (Register x) false = omega arith
greatest-one (Only d) asked = omega arith
greatest-one (Saving x) true = omega arith
greatest-one (Saving x) false = omega arith
greatest-one Label true = omega arith
greatest-one Label false = omega arith
