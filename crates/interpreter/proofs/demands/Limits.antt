-- Demand 2: settings never leave their limits, and the voltage never its range.
use mathlib.Core.Path.{◌≡◌, refl, ◌∙◌, ap}
use mathlib.Core.Bool.{Bool, true, false, not}
use Prim.Native.Nat.{ℕ, ◌<◌}
use native.Mathlib.Omega.{arith}
use lib.Dec.{eqb}
use lib.IntN.{ℤ, pos, negsuc}
use lib.Signed.{le_z}
use borrow.Author.Tests.{leb-true, lt-leb, eqb-true}
use Rattle.registers.specs.Text.{if◌then◌otherwise◌}
use Rattle.registers.specs.Settings.{count, range, range2, conflict, twelve_volts, wide_range, lowest, value_at, within}
use Rattle.registers.specs.declared.settings.Settings.{Settings}
use Rattle.registers.proofs.Tests.{and_both, and-fails, lt_z-not}
use Rattle.registers.proofs.settings.Possible.{Good, Channel, first-channel, second-channel}
use Rattle.registers.proofs.label.Record.{held-right}
use Rattle.interpreter.specs.Demand2.{WithinLimits, TextWithinLimits, WithinRange}
use Rattle.interpreter.specs.Events.{after}
use Rattle.interpreter.proofs.Possible.{history-fit, own-fit}

pub within-limits : WithinLimits
within-limits b own es i h = (history-fit b es (own-fit b own)).core.settings i h

pub text-within : TextWithinLimits
text-within b own es =
    let f = (history-fit b es (own-fit b own)).core in
    let t = (after b es).core.settings.text in
    let h = held-right t f.text in
    let short = h.short in
    let long = f.long.text in
    (h.accepted, omega arith)

-- a channel's voltage in the lower range
pub narrow-voltage : {volts wide : ℕ} → Channel volts wide → volts < count → (s : Settings) → Good s → wide_range s wide ≡ false
    → le_z (value_at s volts) twelve_volts ≡ true
unfolding within if◌then◌otherwise◌
narrow-voltage {volts} {wide} k h s g e =
    rw (k.top s, e) at (and_both (le_z (lowest volts) (value_at s volts)) _ (g volts h)).1

-- the range as it is never conflicts with the voltage
low-range : (v : ℤ) → le_z v (pos 0) ≡ true → le_z (pos 1) v ≡ false
low-range (pos n) e = let h = leb-true n 0 e in lt-leb 1 n (omega arith)
low-range (negsuc n) e = refl

own_range : {volts wide : ℕ} → Channel volts wide → volts < count → (s : Settings) → Good s → (t : Bool) → le_z (value_at s wide) (pos 0) ≡ t
    → conflict s wide (value_at s wide) ≡ false
unfolding wide_range
own_range {volts} {wide} k h s g true q =
    rw (k.above s (value_at s wide), q) (lt_z-not twelve_volts (value_at s volts) ∙ ap not (narrow-voltage k h s g (low-range (value_at s wide) q)))
own_range {volts} {wide} k h s g false q = rw (k.above s (value_at s wide), q)

no-range : (s : Settings) (i : ℕ) (v : ℤ) → eqb i range ≡ false → eqb i range2 ≡ false → conflict s i v ≡ false
unfolding conflict
no-range s i v q r = rw (q, r) (and-fails (le_z v (pos 0)) false refl)

pub no-conflict : (s : Settings) → Good s → (i : ℕ) → conflict s i (value_at s i) ≡ false
no-conflict s g i = go (eqb i range) refl (eqb i range2) refl
  where
    go : (a : Bool) → eqb i range ≡ a → (b : Bool) → eqb i range2 ≡ b → conflict s i (value_at s i) ≡ false
    go true q b r = rw (eqb-true i range q) (own_range first-channel (omega arith) s g (le_z (value_at s range) (pos 0)) refl)
    go false q true r = rw (eqb-true i range2 r) (own_range second-channel (omega arith) s g (le_z (value_at s range2) (pos 0)) refl)
    go false q false r = no-range s i (value_at s i) q r

pub within-range : WithinRange
within-range b own es =
    let g = (history-fit b es (own-fit b own)).core.settings in
    record {
      first = narrow-voltage first-channel (omega arith) _ g;
      second = narrow-voltage second-channel (omega arith) _ g;
    }
