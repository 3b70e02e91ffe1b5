-- Checks 5 to 7 by the answers that the code gets: what a word or a number gives goes through check 7 and exam mode as in the definition's
-- chain (`setting-is`, `register-whole`). By cases, in which the definition computes.
use mathlib.Core.Path.{◌≡◌, refl, sym, ap, ◌∙◌}
use mathlib.Core.Bool.{Bool, true, false, not, ◌&&◌, false≢true, and-true}
use mathlib.Core.List.{[], ◌∷◌}
use Prim.Native.Nat.{ℕ, ◌≤◌, ◌<◌}
use native.Mathlib.Omega.{arith}
use lib.Dec.{T}
use lib.IntN.{ℤ, pos, negsuc, nat_abs}
use lib.Signed.{le_z, mag, non_neg}
use mir.Syntax.{w16, w32}
use mir.Val.{Fits, of_z, to_z, bool_byte}
use mir.Facts.{to_z-of_z}
use lib.ListN.{length}
use borrow.Author.Tests.{leb-true}
use Rattle.std.specs.Prelude.{Some, None}
use Rattle.registers.specs.Text.{Text, if◌then◌otherwise◌, letter, word_byte, every, first}
use Rattle.registers.specs.Check.{Checked, refused, passed, ◌>>=◌, ◌>>◌, check}
use Rattle.registers.specs.Rounding.{rounded, side_in, meant_fit, RoundedIn}
use Rattle.registers.specs.Settings.{count, Kind, bool, words, number, kind_of, quantity_of, lowest, highest, within, accepted}
use Rattle.registers.specs.Status.{widest}
use Rattle.registers.specs.declared.number.Decimal.{Decimal}
use Rattle.registers.specs.declared.rounding.Rounded.{Rounded}
use Rattle.registers.specs.declared.rounding.Side.{Side}
use Rattle.registers.specs.declared.settings.Settings.{Settings}
use Rattle.registers.specs.declared.suffix.Quantity.TheVariants.{Nothing}
use Rattle.registers.specs.declared.status.Register.{Register}
use Rattle.registers.proofs.rounding.Laws.{rounded-once}
use Rattle.registers.proofs.rounding.Meaning.{fit_is, side-is}
use Rattle.interpreter.specs.Parameter.{place_given, saving_deed, register_given, register_side, read_word, find_word, Given, Word, Figure, parameter, words_of, takes_numbers, asks_limits, limit_words, limit_at, limit_given, value_given, side_given, least, greatest, setting_deed, limit_deed, register_deed, deed_of, store_given}
use Rattle.interpreter.specs.ParameterParts.{parameter_where, whole_given, fit_in, rounded_to, put_fit, register_to, saving_to, parts_of, label_to}
use Rattle.interpreter.specs.declared.deed.Deed.{Deed}
use Rattle.interpreter.specs.declared.deed.Deed.TheVariants.{Change, Query, Saving}
use Rattle.interpreter.specs.declared.deed.Change.TheVariants.{Put, Store}
use Rattle.interpreter.specs.declared.deed.Query.TheVariants.{Limit, Value}
use Rattle.interpreter.specs.declared.deed.Role.TheVariants.{Setting, Register as register, Saving as saving, Label as label}
use Rattle.interpreter.specs.declared.deed.Saving as savings
use Rattle.interpreter.specs.declared.parameter.Whole.{Whole}
use Rattle.interpreter.proofs.parameter.Limits.{limit-within}
use Rattle.interpreter.proofs.parameter.Words.{asked-word}

-- a signed number of 32 bits comes back from its bits
pub back : (z : ℤ) → mag z < 2147483648 → to_z w32 (of_z w32 z) ≡ z
back z h = to_z-of_z {w = w32} (record { sfits = h })

-- on and off as a number
pub switched-byte : (b : Bool) → pos (bool_byte b) ≡ (if b then pos 1 otherwise pos 0)
unfolding if◌then◌otherwise◌
switched-byte true = refl
switched-byte false = refl

-- ---- check 7 and exam mode on a value of a setting

pub rounded-in : (k : ℕ) (s : Settings) (i : ℕ) (d : Decimal) {low high : ℤ} {r : Rounded} → low ≡ lowest i → high ≡ highest s i
    → RoundedIn k low high d r → r ≡ rounded_to s i (rounded k d) (side_in k d)
unfolding fit_in within
rounded-in k s i d l h p = let q = rw (l, h) at p in λ j. record { fit = fit_is q j; side = side-is q j }

pub fit-within : (s : Settings) (i : ℕ) (v : ℤ) → within s i v ≡ true → Some v ≡ fit_in s i v
unfolding fit_in if◌then◌otherwise◌
fit-within s i v e = rw e

fit-put : (s : Settings) (i : ℕ) (v : ℤ) (x : Side)
    → (check 222 (within s i v) >> check 222 (accepted s x) >> passed (Change (Put i v x))) ≡ put_fit s i false (fit_in s i v) x
unfolding fit_in put_fit if◌then◌otherwise◌ check ◌>>◌
fit-put s i v x = go (within s i v)
  where
    go : (w : Bool)
        → (check 222 w >> check 222 (accepted s x) >> passed (Change (Put i v x))) ≡ put_fit s i false (if w then Some v otherwise None) x
    go true = refl
    go false = refl

-- ---- a whole number for a register or a place of the store

-- a value within the limits is a number of 16 bits
small-natural : (h : ℕ) (z : ℤ) → h < 65536 → le_z (pos 0) z ≡ true → le_z z (pos h) ≡ true → T (non_neg z) × Fits w16 (nat_abs z)
small-natural h (pos n) few low high = (tt, omega (arith, leb-true n h high))
small-natural h (negsuc n) few low high = absurd (false≢true low)

abbrev whole : Given → Whole
whole g = record { value = nat_abs (register_given g); side = register_side g }

module _ (h : ℕ) (t : Text) where
  -- no word may be given
  pub word-barred : letter (first t) ≡ true → refused 141 ≡ whole_given h t
  unfolding whole_given parameter read_word find_word if◌then◌otherwise◌ check ◌>>◌ ◌>>=◌
  word-barred l = rw l (go (every word_byte t))
    where
      go : (b : Bool)
          → refused 141 ≡ ((check 141 b >> refused 141) >>= λ g. check 222 (le_z (pos 0) (register_given g) && le_z (register_given g) (pos h)) >> passed (whole g))
      go true = refl
      go false = refl

  pub whole-refused : {n : ℕ} → refused n ≡ parameter_where [] (Some Nothing) t → refused n ≡ whole_given h t
  unfolding whole_given parameter_where ◌>>=◌
  whole-refused e = rw (← e)

  module _ {d : Decimal} (is : passed (Figure d) ≡ parameter_where [] (Some Nothing) t) {r : Rounded} (near : RoundedIn 1 (pos 0) (pos h) d r) where
    pub whole-natural : h < 65536 → (z : ℤ) → r.fit ≡ Some z → T (non_neg z) × Fits w16 (nat_abs z)
    whole-natural few z told =
        let k = (rounded-once 1 (pos 0) (pos h) d).within z (sym near.fit ∙ ap meant_fit told) in
        small-natural h z few k.1 k.2

    pub whole-within : (z : ℤ) → r.fit ≡ Some z → passed (record { value = nat_abs z; side = r.side }) ≡ whole_given h t
    unfolding whole_given parameter_where check ◌>>◌ ◌>>=◌
    whole-within z told =
        let k = (rounded-once 1 (pos 0) (pos h) d).within z (sym near.fit ∙ ap meant_fit told) in
        rw (← is, ← k.0, k.1, k.2, side-is near)

    pub whole-outside : r.fit ≡ None → refused 222 ≡ whole_given h t
    unfolding whole_given parameter_where check ◌>>◌ ◌>>=◌
    whole-outside told = rw (← is, (rounded-once 1 (pos 0) (pos h) d).outside (sym near.fit ∙ ap meant_fit told))

  -- what is made of the number
  whole-then : (k : ℕ → Side → Deed) → (whole_given h t >>= λ w. passed (k w.value w.side))
      ≡ (parameter [] true Nothing t >>= λ g. check 222 (le_z (pos 0) (register_given g) && le_z (register_given g) (pos h)) >> passed (k (nat_abs (register_given g)) (register_side g)))
  unfolding whole_given check ◌>>◌ ◌>>=◌
  whole-then k = go (parameter [] true Nothing t)
    where
      fits : (g : Given) (b : Bool) → ((check 222 b >> passed (whole g)) >>= λ w. passed (k w.value w.side))
          ≡ (check 222 b >> passed (k (nat_abs (register_given g)) (register_side g)))
      fits g true = refl
      fits g false = refl

      go : (m : Checked Given)
          → ((m >>= λ g. check 222 (le_z (pos 0) (register_given g) && le_z (register_given g) (pos h)) >> passed (whole g)) >>= λ w. passed (k w.value w.side))
          ≡ (m >>= λ g. check 222 (le_z (pos 0) (register_given g) && le_z (register_given g) (pos h)) >> passed (k (nat_abs (register_given g)) (register_side g)))
      go (refused n) = refl
      go (passed g) = fits g (le_z (pos 0) (register_given g) && le_z (register_given g) (pos h))

pub register-whole : (x : Register) (t : Text) → (whole_given (widest x) t >>= λ w. passed (Change (Store x w.value w.side))) ≡ register_to x false t
unfolding register_to register_deed store_given
register-whole x t = whole-then (widest x) t (λ n side. Change (Store x n side))

pub place-whole : (x : savings.Saving) (t : Text) → (whole_given 9 t >>= λ w. passed (Saving x w.value)) ≡ saving_to x false t
unfolding saving_to saving_deed place_given
place-whole x t = whole-then 9 t (λ n side. Saving x n)

-- a parameter is there where check 4 asked for one; a query of *SAV or *RCL has no row
pub saving-is : (s : Settings) (x : savings.Saving) (asked : Bool) (t : Text) → least (saving x) asked ≤ length (parts_of t)
    → length (parts_of t) ≤ greatest (saving x) asked → saving_to x asked t ≡ deed_of s (saving x) asked (parts_of t)
unfolding saving_to deed_of least greatest if◌then◌otherwise◌
saving-is s x true [] h k = refl
saving-is s x true (b ∷ t) h k = absurd (omega arith)
saving-is s x false [] h k = absurd (omega arith)
saving-is s x false (b ∷ t) h k = refl

-- ---- checks 5 to 7 on a setting

-- without a parameter, where none is needed
pub value-asked : (s : Settings) (i : ℕ) (asked : Bool) → least (Setting i) asked ≤ 0 → passed (Query (Value i)) ≡ deed_of s (Setting i) asked []
unfolding deed_of least if◌then◌otherwise◌
value-asked s i true h = refl
value-asked s i false h = absurd (omega arith)

-- with one, where one may be: what a parameter gives is asked for, or is set
pub setting-is : (s : Settings) (i : ℕ) → i < count → (asked : Bool) (t : Text) → 1 ≤ greatest (Setting i) asked
    → deed_of s (Setting i) asked (t ∷ [])
    ≡ (parameter (words_of (kind_of i)) (takes_numbers (kind_of i) && not asked) (quantity_of i) t >>= λ g.
    put_fit s i asked (fit_in s i (value_given s i (kind_of i) g)) (side_given (kind_of i) g))
unfolding deed_of greatest if◌then◌otherwise◌ setting_deed limit_deed value_given put_fit ◌>>=◌
setting-is s i h false t one =
    rw (and-true (takes_numbers (kind_of i))) (go (parameter (words_of (kind_of i)) (takes_numbers (kind_of i)) (quantity_of i) t))
  where
    go : (m : Checked Given)
        → (m >>= λ g.
        let v = value_given s i (kind_of i) g in
        let x = side_given (kind_of i) g in
        check 222 (within s i v) >> check 222 (accepted s x) >> passed (Change (Put i v x)))
        ≡ (m >>= λ g. put_fit s i false (fit_in s i (value_given s i (kind_of i) g)) (side_given (kind_of i) g))
    go (refused n) = refl
    go (passed g) = fit-put s i (value_given s i (kind_of i) g) (side_given (kind_of i) g)
setting-is s i h true t one = kinded (kind_of i) one
  where
    found : (m : Checked Given) → parameter limit_words false (quantity_of i) t ≡ m → (k : ℕ) (low high : ℤ)
        → (m >>= λ g. passed (Query (Limit i (limit_given s i g))))
        ≡ (m >>= λ g. put_fit s i true (fit_in s i (value_given s i (number k low high) g)) (side_given (number k low high) g))
    found (refused n) e k low high = refl
    found (passed (Word n)) e k low high = rw (← fit-within s i (limit_at s i n) (limit-within s i h n))
    found (passed (Figure d)) e k low high = absurd (asked-word limit_words (quantity_of i) t d e)

    kinded : (k : Kind) → 1 ≤ asks_limits k
        → limit_deed s i t ≡ (parameter (words_of k) (takes_numbers k && false) (quantity_of i) t >>= λ g. put_fit s i true (fit_in s i (value_given s i k g)) (side_given k g))
    kinded bool h = absurd (omega arith)
    kinded (words ws) h = absurd (omega arith)
    kinded (number k low high) h = found (parameter limit_words false (quantity_of i) t) refl k low high

-- ---- checks 5 to 7 on a register

-- a parameter is there where check 4 asked for one
pub register-is : (s : Settings) (x : Register) (asked : Bool) (t : Text) → least (register x) asked ≤ length (parts_of t)
    → register_to x asked t ≡ deed_of s (register x) asked (parts_of t)
unfolding register_to deed_of least if◌then◌otherwise◌
register-is s x true t h = refl
register-is s x false [] h = absurd (omega arith)
register-is s x false (b ∷ t) h = refl

pub label_is : (s : Settings) (asked : Bool) (t : Text) → least label asked ≤ length (parts_of t) → label_to asked t ≡ deed_of s label asked (parts_of t)
unfolding label_to deed_of least if◌then◌otherwise◌
label_is s true t h = refl
label_is s false [] h = absurd (omega arith)
label_is s false (b ∷ t) h = refl
