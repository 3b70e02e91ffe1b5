-- Check 7 never refuses a word, nor on or off: their values are within the limits.
use mathlib.Core.Path.{◌≡◌, refl, sym}
use mathlib.Core.Bool.{Bool, true, false, not, ◌&&◌, false≢true, ◌||◌}
use Prim.Native.Nat.{ℕ, zero, suc, pred, ◌<◌}
use native.Mathlib.Omega.{arith}
use lib.Dec.{eqb}
use lib.ListN.{length}
use lib.IntN.{ℤ, pos, negsuc}
use lib.Signed.{le_z}
use borrow.Author.Tests.{eqb-true, le-leb}
use Rattle.registers.specs.Text.{if◌then◌otherwise◌}
use Rattle.registers.specs.Rounding.{switched_on}
use Rattle.registers.specs.Settings.{count, Kind, bool, words, number, table, setting_at, kind_of, lowest_of, highest_of, lowest, highest, within, voltage, voltage2, range, range2, wide_range, twelve_volts, slots, narrow}
use Rattle.registers.specs.declared.number.Decimal.{Decimal}
use Rattle.registers.specs.declared.settings.Settings.{Settings}
use Rattle.registers.proofs.Tests.{below_at, and-true}
use Rattle.interpreter.specs.Parameter.{Word, Figure, words_of, limit_at, value_given, is_number}

same-le : (z : ℤ) → le_z z z ≡ true
same-le (pos n) = le-leb n n (omega arith)
same-le (negsuc n) = le-leb n n (omega arith)

-- the ranges move the highest value of the voltages alone, which are numbers
plain-highest : (s : Settings) (i : ℕ) → is_number (kind_of i) ≡ false → highest_of (kind_of i) ≡ highest s i
unfolding highest narrow if◌then◌otherwise◌ setting_at slots table
plain-highest s i h = go (eqb i voltage) refl (eqb i voltage2) refl
  where
    go : (t : Bool) → eqb i voltage ≡ t → (u : Bool) → eqb i voltage2 ≡ u
        → highest_of (kind_of i) ≡ (if (t && not (wide_range s range)) || (u && not (wide_range s range2)) then twelve_volts otherwise highest_of (kind_of i))
    go true e u f = absurd (false≢true (sym (rw (eqb-true i voltage e) at h)))
    go false e true f = absurd (false≢true (sym (rw (eqb-true i voltage2 f) at h)))
    go false e false f = refl

low-high : (s : Settings) (i : ℕ) → i < count → le_z (lowest i) (highest s i) ≡ true
unfolding lowest highest narrow if◌then◌otherwise◌ setting_at slots table
low-high s i h = go (wide_range s range) (wide_range s range2)
  where
    least : Bool → Bool → ℕ → Bool
    least w x k = le_z (lowest_of (kind_of k)) (if (eqb k voltage && not w) || (eqb k voltage2 && not x) then twelve_volts otherwise highest_of (kind_of k))

    go : (w x : Bool) → least w x i ≡ true
    go true true = below_at count (least true true) refl i h
    go true false = below_at count (least true false) refl i h
    go false true = below_at count (least false true) refl i h
    go false false = below_at count (least false false) refl i h

module _ (s : Settings) (i : ℕ) where
  -- a place in the list of a row's words
  place-within : is_number (kind_of i) ≡ false → (n : ℕ) → n < length (words_of (kind_of i)) → within s i (pos n) ≡ true
  unfolding within lowest
  place-within h n l = rw (← plain-highest s i h) (go (kind_of i) h l)
    where
      go : (k : Kind) → is_number k ≡ false → n < length (words_of k) → (le_z (lowest_of k) (pos n) && le_z (pos n) (highest_of k)) ≡ true
      go bool h l = and-true (le-leb 0 n (omega arith)) (le-leb n 1 (omega arith))
      go (words ws) h l = and-true (le-leb 0 n (omega arith)) (le-leb n (pred (length ws)) (omega arith))
      go (number m low high) h l = absurd (false≢true (sym h))

  -- on and off of a bool; a row of words counts as off
  switched-within : (on : Bool) → kind_of i ≡ bool → within s i (if on then pos 1 otherwise pos 0) ≡ true
  unfolding if◌then◌otherwise◌
  switched-within true e = place-within (rw e) 1 (rw e (omega arith))
  switched-within false e = place-within (rw e) 0 (rw e (omega arith))

  zero-within : is_number (kind_of i) ≡ false → within s i (pos 0) ≡ true
  unfolding within lowest
  zero-within h = rw (← plain-highest s i h) (go (kind_of i) h)
    where
      go : (k : Kind) → is_number k ≡ false → (le_z (lowest_of k) (pos 0) && le_z (pos 0) (highest_of k)) ≡ true
      go bool h = refl
      go (words ws) h = le-leb 0 (pred (length ws)) (omega arith)
      go (number m low high) h = absurd (false≢true (sym h))

  pub limit-within : i < count → (n : ℕ) → within s i (limit_at s i n) ≡ true
  unfolding within
  limit-within h zero = and-true (same-le (lowest i)) (low-high s i h)
  limit-within h (suc n) = and-true (low-high s i h) (same-le (highest s i))

  pub word-within : i < count → (n : ℕ) → n < length (words_of (kind_of i)) → within s i (value_given s i (kind_of i) (Word n)) ≡ true
  unfolding value_given
  word-within h n l = go (kind_of i) refl
    where
      go : (k : Kind) → kind_of i ≡ k → within s i (value_given s i k (Word n)) ≡ true
      go bool e = place-within (rw e) n l
      go (words ws) e = place-within (rw e) n l
      go (number m low high) e = limit-within h n

  -- a number for a row of other values
  pub figure-within : is_number (kind_of i) ≡ false → (d : Decimal) → within s i (value_given s i (kind_of i) (Figure d)) ≡ true
  unfolding value_given
  figure-within h d = go (kind_of i) refl
    where
      go : (k : Kind) → kind_of i ≡ k → within s i (value_given s i k (Figure d)) ≡ true
      go bool e = switched-within (switched_on d) e
      go (words ws) e = zero-within h
      go (number m low high) e = absurd (false≢true (sym (rw e at h)))
