-- What the side says, once over every step, sign and value: how the exact value stands to the rounded one. Both are whole numbers
-- when multiplied by the value's denominator, so this is comparison of those: first of the sizes, and then with the sign.
use mathlib.Core.Path.{◌≡◌, refl, ap, sym, ◌∙◌}
use mathlib.Core.Bool.{Bool, true, false}
use Prim.Native.Nat.{ℕ, zero, suc, ◌*◌, ◌^◌, ◌<◌}
use native.Mathlib.Omega.{arith}
use lib.Dec.{ltb}
use lib.IntN.{ℤ, pos, negsuc, nat_abs, ◌*ℤ◌, pos-*ℤ-pos, negsuc-*ℤ-pos}
use lib.Signed.{lt_z}
use borrow.Author.Tests.{ltb-true, ltb-false, lt-ltb}
use Rattle.registers.specs.Rounding.{nearest, signed, size_in, rounded, size_side, turned, side_in, exactly, wholly, Stands}
use Rattle.registers.specs.declared.number.Decimal.{Decimal}
use Rattle.registers.specs.declared.rounding.Side.TheVariants.{On, Below, Above}
use Rattle.registers.proofs.answer.Signs.{size-neg}
use Rattle.registers.proofs.rounding.Laws.{nearest-only}
use Rattle.registers.proofs.rounding.Tens.{ten-positive}
use Rattle.registers.proofs.rounding.Sides.{side-on, side-below, side-above}

-- the side tells whether the exact value is the rounded one, below it or above it; and it is on the step exactly where any
-- whole number of steps is the exact value
pub record Tells (k : ℕ) (d : Decimal) : Type 0 where
  pub stands : Stands (side_in k d) (exactly k d) (wholly (rounded k d) d)
  pub whole : (z : ℤ) → exactly k d ≡ wholly z d → side_in k d ≡ On

-- ---- signs

signed-times : (m : Bool) (r den : ℕ) → signed m r *ℤ pos den ≡ signed m (r * den)
signed-times false r den = pos-*ℤ-pos r den
signed-times true zero den = let z : 0 * den ≡ 0 = omega arith in rw z
signed-times true (suc r) den = negsuc-*ℤ-pos r den

more-minus : (a b : ℕ) → a < b → lt_z (signed true b) (signed true a) ≡ true
more-minus a zero h = absurd (omega arith)
more-minus zero (suc b) h = refl
more-minus (suc a) (suc b) h = lt-ltb a b (omega arith)

-- a size that stands so to another, with the sign
module _ {a b : ℕ} where
  equal : (m : Bool) → a ≡ b → Stands (turned m On) (signed m a) (signed m b)
  equal false e = ap pos e
  equal true e = ap (signed true) e

  less : (m : Bool) → a < b → Stands (turned m Below) (signed m a) (signed m b)
  less false h = lt-ltb a b h
  less true h = more-minus a b h

  more : (m : Bool) → b < a → Stands (turned m Above) (signed m a) (signed m b)
  more false h = lt-ltb b a h
  more true h = more-minus b a h

size-signed : (m : Bool) (n : ℕ) → nat_abs (signed m n) ≡ n
size-signed false n = refl
size-signed true n = size-neg (pos n)

size-times : (z : ℤ) (den : ℕ) → nat_abs (z *ℤ pos den) ≡ nat_abs z * den
size-times (pos a) den = refl
size-times (negsuc a) den = ap nat_abs (negsuc-*ℤ-pos a den) ∙ size-neg (pos (suc a * den))

-- ---- the law

module _ (num den : ℕ) where
  abbrev r : ℕ
  r = nearest num den

  told-stands : (m : Bool) → Stands (turned m (size_side num den r)) (signed m num) (signed m r *ℤ pos den)
  told-stands m = go (ltb num (r * den)) refl (ltb (r * den) num) refl
    where
      go : (a : Bool) → ltb num (r * den) ≡ a → (b : Bool) → ltb (r * den) num ≡ b
          → Stands (turned m (size_side num den r)) (signed m num) (signed m r *ℤ pos den)
      go true e b f =
          let h = ltb-true num (r * den) e in
          rw (side-below num den r h, signed-times m r den) (less m h)
      go false e true f =
          let h = ltb-true (r * den) num f in
          rw (side-above num den r h, signed-times m r den) (more m h)
      go false e false f =
          let s = ltb-false num (r * den) e in
          let t = ltb-false (r * den) num f in
          let h : num ≡ r * den = omega arith in
          rw (side-on num den r h, signed-times m r den) (equal m h)

  told-whole : 0 < den → (m : Bool) (z : ℤ) → signed m num ≡ z *ℤ pos den → turned m (size_side num den r) ≡ On
  told-whole h m z e =
      let n : num ≡ nat_abs z * den = sym (size-signed m num) ∙ ap nat_abs e ∙ size-times z den in
      let w : r ≡ nat_abs z = nearest-only (record { low = omega arith; high = omega arith }) in
      let is : size_side num den r ≡ On = side-on num den r (rw w n) in
      rw is (turn m)
    where
      turn : (m : Bool) → turned m On ≡ On
      turn true = refl
      turn false = refl

pub tells : (k : ℕ) (d : Decimal) → Tells k d
unfolding side_in rounded size_in
tells k d =
    let num = d.digits * 10 ^ d.up * k in
    let den = 10 ^ d.down in
    record { stands = told-stands num den d.minus; whole = told-whole num den (ten-positive d.down) d.minus }
