-- The slots of a channel's rows: they are slots, no row but the voltage's and the range's has a slot that the limits or check 8 know, and those
-- two are a channel's. And the order of the rows.
use mathlib.Core.Path.{◌≡◌, refl}
use mathlib.Core.Bool.{Bool, true, false, not, ◌&&◌, ◌||◌, false≢true}
use Prim.Native.Nat.{ℕ, ◌<◌}
use native.Mathlib.Omega.{arith}
use lib.Dec.{ltb, eqb}
use borrow.Author.Tests.{ltb-true, eqb-true, ne_eqb}
use Rattle.registers.specs.Text.{if◌then◌otherwise◌, below}
use Rattle.registers.specs.Settings.{count, table_count, voltage, range, voltage2, range2, wide_range}
use Rattle.registers.specs.declared.settings.Settings.{Settings}
use Rattle.registers.proofs.Tests.{below_at}
use Rattle.registers.proofs.settings.Possible.{Channel, first-channel, second-channel}
use Rattle.interpreter.specs.Rows.{second_of}
use Rattle.interpreter.proofs.Choices.{if-elim}
use Rattle.writer.specs.Lines.{own_slot, slot_of, row_at, slot_at}

-- ---- the order of the rows

pub row-row : (wide : Bool) (n : ℕ) → row_at wide (row_at wide n) ≡ n
unfolding row_at if◌then◌otherwise◌
row-row false n = refl
row-row true n = go (eqb n voltage) refl (eqb n range) refl
  where
    go : (s : Bool) → eqb n voltage ≡ s → (t : Bool) → eqb n range ≡ t → row_at true (row_at true n) ≡ n
    go true q t r = rw (eqb-true n voltage q)
    go false q true r = rw (eqb-true n range r)
    go false q false r = rw (q, r, q, r)

pub row_below : (wide : Bool) (n : ℕ) → n < table_count → row_at wide n < table_count
unfolding row_at if◌then◌otherwise◌
row_below false n h = h
row_below true n h = go (eqb n voltage) refl (eqb n range) refl
  where
    go : (s : Bool) → eqb n voltage ≡ s → (t : Bool) → eqb n range ≡ t → row_at true n < table_count
    go true q t r = rw q (omega arith)
    go false q true r = rw (q, r) (omega arith)
    go false q false r = rw (q, r) h

-- the two that change places
pub row_first : row_at true voltage ≡ range
unfolding row_at if◌then◌otherwise◌
row_first = refl

-- ---- channel 2's slots, computed

abbrev own : ℕ → ℕ
own r = own_slot (second_of r) r

all-below : below table_count (λ r. ltb (own r) count) ≡ true
unfolding second_of if◌then◌otherwise◌
all-below = refl

-- a row other than a has neither of two slots
abbrev avoids : ℕ → ℕ → ℕ → Bool
avoids a b r = eqb r a || (not (eqb (own r) a) && not (eqb (own r) b))

all-avoid : (below table_count (avoids voltage voltage2) ≡ true) × (below table_count (avoids range range2) ≡ true)
unfolding second_of if◌then◌otherwise◌
all-avoid = (refl, refl)

-- ---- of either channel

pub slot-below : (channel r : ℕ) → r < table_count → slot_of channel r < count
unfolding slot_of
slot-below channel r h =
    if-elim (λ (i : ℕ). i < count) (eqb channel 2) (λ _. ltb-true (own r) count (below_at table_count (λ r. ltb (own r) count) all-below r h)) (λ _. omega arith)

pub slot-at-below : (w : Settings) (channel n : ℕ) → n < table_count → slot_at w channel n < count
slot-at-below w channel n h = slot-below channel _ (row_below (wide_range w (slot_of channel range)) n h)

neither : (a b r : ℕ) → eqb r a ≡ false → avoids a b r ≡ true → (eqb (own r) a ≡ false) × (eqb (own r) b ≡ false)
neither a b r q e = go (eqb (own r) a) refl (eqb (own r) b) refl (rw q at e)
  where
    go : (s : Bool) → eqb (own r) a ≡ s → (t : Bool) → eqb (own r) b ≡ t → (not s && not t) ≡ true → (eqb (own r) a ≡ false) × (eqb (own r) b ≡ false)
    go true x t y f = absurd (false≢true f)
    go false x true y f = absurd (false≢true f)
    go false x false y f = (x, y)

slot-avoids : (channel a b : ℕ) → table_count < b → below table_count (avoids a b) ≡ true → (r : ℕ) → r < table_count → eqb r a ≡ false
    → (eqb (slot_of channel r) a ≡ false) × (eqb (slot_of channel r) b ≡ false)
unfolding slot_of
slot-avoids channel a b k all r h q =
    if-elim (λ (i : ℕ). (eqb i a ≡ false) × (eqb i b ≡ false)) (eqb channel 2)
    (λ _. neither a b r q (below_at table_count (avoids a b) all r h)) (λ _. (q, ne_eqb r b (λ e. omega arith)))

pub not-voltage : (channel r : ℕ) → r < table_count → eqb r voltage ≡ false → (eqb (slot_of channel r) voltage ≡ false) × (eqb (slot_of channel r) voltage2 ≡ false)
not-voltage channel = slot-avoids channel voltage voltage2 (omega arith) all-avoid.0

pub not-range : (channel r : ℕ) → r < table_count → eqb r range ≡ false → (eqb (slot_of channel r) range ≡ false) × (eqb (slot_of channel r) range2 ≡ false)
not-range channel = slot-avoids channel range range2 (omega arith) all-avoid.1

-- a channel's voltage and range
pub own-channel : (channel : ℕ) → Channel (slot_of channel voltage) (slot_of channel range)
unfolding slot_of second_of if◌then◌otherwise◌
own-channel channel = go (eqb channel 2)
  where
    go : (t : Bool) → Channel (if t then own voltage otherwise voltage) (if t then own range otherwise range)
    go true = second-channel
    go false = first-channel

pub two-slots : (channel : ℕ) → slot_of channel range ≡ slot_of channel voltage → ⊥
unfolding slot_of second_of if◌then◌otherwise◌
two-slots channel = go (eqb channel 2)
  where
    go : (t : Bool) → (if t then own range otherwise range) ≡ (if t then own voltage otherwise voltage) → ⊥
    go true e = omega arith
    go false e = omega arith

pub volts-below : (channel : ℕ) → slot_of channel voltage < count
volts-below channel = slot-below channel voltage (omega arith)
