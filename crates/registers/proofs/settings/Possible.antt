-- "Settings never leave their limits": the values at *RST are within them, and a value that is stored leaves every setting
-- within its limits and the voltage within its range.
use mathlib.Core.Path.{◌≡◌, refl, sym, ◌∙◌, ap}
use mathlib.Core.Bool.{Bool, true, false, not, ◌&&◌, ◌||◌, false≢true}
use mathlib.Core.List.{List}
use Prim.Native.Nat.{ℕ, zero, suc, ◌<◌}
use native.Mathlib.Omega.{arith}
use lib.Dec.{ltb, eqb}
use lib.ListN.{length, set}
use lib.Seq.{get_or-set_same, get_or-set_other, set_out}
use lib.IntN.{ℤ, pos, negsuc}
use lib.Signed.{le_z, lt_z}
use borrow.Author.Tests.{eqb-true, eqb-false, leb-true, le-leb, not-false, ltb-true, ltb-false}
use Rattle.registers.specs.Text.{if◌then◌otherwise◌}
use Rattle.registers.specs.Settings.{table, slots, setting_at, kind_of, highest_of, within, lowest, highest, narrow, value_at, with_value, voltage, range, voltage2, range2, count, twelve_volts, wide_range, conflict, stored, possible_values, possible_settings, at_reset}
use Rattle.registers.specs.Label.{padded, possible_text}
use Rattle.registers.specs.declared.settings.Settings.{Settings}
use Rattle.registers.proofs.Tests.{and_both, and-true, below_at, below-from, lt_z-not}
use Rattle.registers.proofs.settings.Laws.{stored-yes, stored-outside, stored-conflict}

-- whether a voltage's range is narrow goes by that range alone
narrow-same : (s s' : Settings) (j : ℕ) → (j ≡ voltage → wide_range s range ≡ wide_range s' range)
    → (j ≡ voltage2 → wide_range s range2 ≡ wide_range s' range2) → narrow s j ≡ narrow s' j
unfolding narrow
narrow-same s s' j h h2 = rw (part voltage range (eqb j voltage) refl h, part voltage2 range2 (eqb j voltage2) refl h2)
  where
    part : (v r : ℕ) (e : Bool) → eqb j v ≡ e → (j ≡ v → wide_range s r ≡ wide_range s' r) → (eqb j v && not (wide_range s r)) ≡ (eqb j v && not (wide_range s' r))
    part v r true q k = ap (λ (w : Bool). eqb j v && not w) (k (eqb-true j v q))
    part v r false q k = rw q

highest-same : (s s' : Settings) (j : ℕ) → narrow s j ≡ narrow s' j → highest s j ≡ highest s' j
unfolding highest
highest-same s s' j h = rw h

within_same : (s s' : Settings) (j : ℕ) (v : ℤ) → narrow s j ≡ narrow s' j → within s j v ≡ true → within s' j v ≡ true
unfolding within
within_same s s' j v e t = rw (highest-same s s' j e) at t

-- a range is the one that is kept, unless it is what changes
range-kept : (s : Settings) (i : ℕ) (v : ℤ) (r : ℕ) → (i ≡ r → ⊥) → wide_range s r ≡ wide_range (with_value i v s) r
unfolding wide_range
range-kept s i v r h = ap (le_z (pos 1)) (sym (get_or-set_other s.values i r v (pos 0) (λ e. h (sym e))))

-- every voltage within a range is within the wide one
pub under-wide : (w : Bool) (x : ℤ) → le_z x (if not w then twelve_volts otherwise highest_of (kind_of voltage)) ≡ true → le_z x (highest_of (kind_of voltage)) ≡ true
unfolding setting_at slots table if◌then◌otherwise◌
under-wide true x t = t
under-wide false (pos n) t = let h = leb-true n _ t in le-leb n _ (omega arith)
under-wide false (negsuc n) t = refl

at-most-zero : (v : ℤ) → le_z (pos 1) v ≡ false → le_z v (pos 0) ≡ true
at-most-zero (pos zero) e = refl
at-most-zero (pos (suc n)) e = absurd (false≢true (sym e ∙ le-leb 1 (suc n) (omega arith)))
at-most-zero (negsuc n) e = refl

-- a channel's voltage and range
pub record Channel (volts wide : ℕ) : Type 0 where
  pub top : (s : Settings) → highest s volts ≡ (if not (wide_range s wide) then twelve_volts otherwise highest_of (kind_of voltage))
  pub above : (s : Settings) (v : ℤ) → conflict s wide v ≡ (le_z v (pos 0) && lt_z twelve_volts (value_at s volts))
  pub room : wide < count

or-false : (a : Bool) → (a || false) ≡ a
or-false true = refl
or-false false = refl

pub first-channel : Channel voltage range
unfolding highest narrow conflict setting_at slots table
first-channel =
    record {
      top = λ s. rw (or-false (not (wide_range s range)));
      above = λ s v. rw (or-false (lt_z twelve_volts (value_at s voltage)));
      room = omega arith;
    }

pub second-channel : Channel voltage2 range2
unfolding highest narrow conflict setting_at slots table
second-channel = record { top = λ s. refl; above = λ s v. refl; room = omega arith }

-- a new range v that makes no conflict leaves the voltage within its limits
module _ {volts wide : ℕ} (k : Channel volts wide) where
  range-fits : (s : Settings) (v : ℤ) → conflict s wide v ≡ false → within s volts (value_at s volts) ≡ true
      → le_z (value_at s volts) (if not (le_z (pos 1) v) then twelve_volts otherwise highest_of (kind_of voltage)) ≡ true
  unfolding within if◌then◌otherwise◌
  range-fits s v c t = go (le_z (pos 1) v) refl
    where
      go : (w : Bool) → le_z (pos 1) v ≡ w → le_z (value_at s volts) (if not w then twelve_volts otherwise highest_of (kind_of voltage)) ≡ true
      go true e = under-wide (wide_range s wide) (value_at s volts) (rw (k.top s) at (and_both (le_z (lowest volts) (value_at s volts)) _ t).1)
      go false e =
          let low : lt_z twelve_volts (value_at s volts) ≡ false = rw (k.above s v, at-most-zero v e) at c in
          not-false _ (sym (lt_z-not twelve_volts (value_at s volts)) ∙ low)

  -- the voltage, where the range is what changes
  voltage-fits : (s : Settings) (v : ℤ) → length s.values ≡ count → conflict s wide v ≡ false
      → within s volts (value_at s volts) ≡ true → within (with_value wide v s) volts (value_at s volts) ≡ true
  unfolding within wide_range
  voltage-fits s v long c t =
      let low = (and_both (le_z (lowest volts) (value_at s volts)) _ t).0 in
      let room = k.room in
      let new = get_or-set_same s.values wide v (pos 0) (omega arith) in
      rw (k.top (with_value wide v s), new, low) (range-fits s v c t)

-- each of the settings is within its limits
abbrev pub Good : Settings → Type 0
Good s = (j : ℕ) → j < count → within s j (value_at s j) ≡ true

pub good-from : (s : Settings) → possible_settings s ≡ true → Good s
unfolding possible_settings possible_values
good-from s e = below_at count (λ j. within s j (value_at s j)) (and_both (possible_values s) (possible_text s.text) e).0

pub text-from : (s : Settings) → possible_settings s ≡ true → possible_text s.text ≡ true
unfolding possible_settings
text-from s e = (and_both (possible_values s) (possible_text s.text) e).1

pub good-to : (s : Settings) → Good s → possible_text s.text ≡ true → possible_settings s ≡ true
unfolding possible_settings possible_values
good-to s g t = and-true (below-from count (λ j. within s j (value_at s j)) g) t

module _ (s : Settings) (i : ℕ) (v : ℤ) (long : length s.values ≡ count) (good : Good s)
    (w : within s i v ≡ true) (c : conflict s i v ≡ false) where
  here-fits : within (with_value i v s) i v ≡ true
  here-fits =
      within_same s (with_value i v s) i v
      (narrow-same s (with_value i v s) i (λ e. range-kept s i v range (λ f. omega arith)) (λ e. range-kept s i v range2 (λ f. omega arith))) w

  there-fits : (j : ℕ) → j < count → within (with_value i v s) j (value_at s j) ≡ true
  there-fits j h = by-range (eqb i range) refl (eqb i range2) refl
    where
      -- where one channel's range is what changes, its voltage fits, and of all others nothing is narrower
      by-voltage : {volts wide : ℕ} → Channel volts wide → i ≡ wide → (e : Bool) → eqb j volts ≡ e
          → ((j ≡ volts → ⊥) → narrow s j ≡ narrow (with_value i v s) j) → within (with_value i v s) j (value_at s j) ≡ true
      by-voltage {volts} {wide} k p true q others =
          let r = eqb-true j volts q in
          rw (p, r) (voltage-fits k s v long (rw p at c) (rw r at (good j h)))
      by-voltage {volts} {wide} k p false q others = within_same s (with_value i v s) j (value_at s j) (others (eqb-false j volts q)) (good j h)

      by-range : (e : Bool) → eqb i range ≡ e → (f : Bool) → eqb i range2 ≡ f → within (with_value i v s) j (value_at s j) ≡ true
      by-range true q f r =
          let p = eqb-true i range q in
          by-voltage first-channel p (eqb j voltage) refl
          (λ other. narrow-same s (with_value i v s) j (λ e. absurd (other e)) (λ e. range-kept s i v range2 (λ g. omega arith)))
      by-range false q true r =
          let p = eqb-true i range2 r in
          by-voltage second-channel p (eqb j voltage2) refl
          (λ other. narrow-same s (with_value i v s) j (λ e. range-kept s i v range (λ g. omega arith)) (λ e. absurd (other e)))
      by-range false q false r =
          within_same s (with_value i v s) j (value_at s j)
          (narrow-same s (with_value i v s) j (λ e. range-kept s i v range (eqb-false i range q)) (λ e. range-kept s i v range2 (eqb-false i range2 r)))
          (good j h)

  pub value-good : i < count → Good (with_value i v s)
  value-good k j h = go (eqb j i) refl
    where
      go : (e : Bool) → eqb j i ≡ e → within (with_value i v s) j (value_at (with_value i v s) j) ≡ true
      go true q =
          let r = eqb-true j i q in
          rw (r, get_or-set_same s.values i v (pos 0) (omega arith)) here-fits
      go false q = rw (get_or-set_other s.values i j v (pos 0) (eqb-false j i q)) (there-fits j h)

pub reset-possible : possible_settings at_reset ≡ true
unfolding possible_settings possible_values possible_text padded at_reset slots table within lowest highest narrow wide_range setting_at if◌then◌otherwise◌
reset-possible = refl

-- whatever is stored, whether or not checks 7 and 8 let it pass
pub stored-possible : (i : ℕ) (v : ℤ) (s : Settings) → length s.values ≡ count → possible_settings s ≡ true → possible_settings (stored i v s) ≡ true
stored-possible i v s long p = go (within s i v) refl (conflict s i v) refl
  where
    inside : within s i v ≡ true → conflict s i v ≡ false → (t : Bool) → ltb i count ≡ t → possible_settings (with_value i v s) ≡ true
    inside w c true e = good-to (with_value i v s) (value-good s i v long (good-from s p) w c (ltb-true i count e)) (text-from s p)
    inside w c false e =
        let out : set s.values i v ≡ s.values = set_out s.values i v (let h = ltb-false i count e in omega arith) in
        ap (λ (l : List ℤ). possible_settings (record { values = l; text = s.text })) out ∙ p

    go : (a : Bool) → within s i v ≡ a → (b : Bool) → conflict s i v ≡ b → possible_settings (stored i v s) ≡ true
    go true w false c = rw (stored-yes i v s w c) (inside w c (ltb i count) refl)
    go true w true c = rw (stored-conflict i v s c) p
    go false w b c = rw (stored-outside i v s w) p
