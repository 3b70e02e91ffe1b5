-- What a suffix does to a value, once over every power of ten: the scaled value is exact, and it is what is rounded.
use mathlib.Core.Path.{◌≡◌, refl}
use Prim.Native.Nat.{ℕ, ◌*◌, ◌^◌}
use native.Mathlib.Nat.{mul_assoc}
use native.Mathlib.Omega.{arith}
use lib.Pow.{pow-add}
use Rattle.registers.specs.Number.{scaled}
use Rattle.registers.specs.Rounding.{nearest, size_in}
use Rattle.registers.specs.declared.number.Decimal.{Decimal}
use Rattle.registers.specs.declared.suffix.Power.{Power}

-- a value's size is over / under
abbrev pub over : Decimal → ℕ
over d = d.digits * 10 ^ d.up

abbrev pub under : Decimal → ℕ
under d = 10 ^ d.down

-- e is d times 10 to the power p .up, over 10 to the power p .down: of two fractions that are equal, the products crosswise are
pub record Times (p : Power) (d e : Decimal) : Type 0 where
  pub minus : e.minus ≡ d.minus
  pub size : over e * (under d * 10 ^ p.down) ≡ over d * 10 ^ p.up * under e

pub scaled_exact : (p : Power) (d : Decimal) → Times p d (scaled p d)
unfolding scaled
scaled_exact p d =
    record { minus = refl; size = rw (pow-add 10 d.up p.up, pow-add 10 d.down p.down) (omega arith) }

-- "The exact scaled value is then rounded as before": in steps of which k make one, to the whole number that is nearest to it
pub scaled-rounded : (k : ℕ) (p : Power) (d : Decimal)
    → size_in k (scaled p d) ≡ nearest (over d * 10 ^ p.up * k) (under d * 10 ^ p.down)
unfolding size_in scaled
scaled-rounded k p d =
    rw (pow-add 10 d.up p.up, ← mul_assoc d.digits (10 ^ d.up) (10 ^ p.up), pow-add 10 d.down p.down)
