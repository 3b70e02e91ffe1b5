-- What rounding means, once over every numerator, denominator, step and pair of limits.
use mathlib.Core.Path.{◌≡◌, refl}
use mathlib.Core.Bool.{Bool, true, false, ◌&&◌}
use Prim.Native.Nat.{ℕ, ◌+◌, ◌*◌, ◌≤◌, ◌<◌}
use native.Mathlib.Omega.{arith}
use native.Mathlib.Nat.{div-add-mod', mod-lt, div-eq_of_lt-le}
use lib.IntN.{ℤ}
use lib.Signed.{le_z}
use Rattle.registers.specs.Check.{Checked, refused, passed, ◌>>◌, check}
use Rattle.registers.specs.Rounding.{nearest, rounded, fitted}
use Rattle.registers.specs.declared.number.Decimal.{Decimal}

-- r is nearest to num / den: num / den is at least r - 1/2 and below r + 1/2, so it is never more than a half away,
-- and a value half way between two whole numbers goes to the greater one. A value's size is rounded so, and then has
-- its sign: halves go away from zero.
pub record Nearest (num den r : ℕ) : Type 0 where
  pub low : 2 * den * r ≤ 2 * num + den
  pub high : 2 * num + den < 2 * den * (r + 1)

pub nearest-is : (num den : ℕ) → 0 < den → Nearest num den (nearest num den)
unfolding nearest
nearest-is num den h =
    let parts = div-add-mod' (2 * num + den) (2 * den) in
    let small = mod-lt (2 * num + den) {m = 2 * den} (omega arith) in
    record { low = omega arith; high = omega arith }

-- and no other number is
pub nearest-only : {num den r : ℕ} → Nearest num den r → nearest num den ≡ r
unfolding nearest
nearest-only {num} {den} {r} n =
    let low = n.low in
    let high = n.high in
    div-eq_of_lt-le {k = r} (2 * den) {m = 2 * num + den} (omega arith) (omega arith)

-- a value is rounded, and only then compared: what is within the limits is the rounded value, and what is outside has a
-- rounded value beyond one of them
pub record RoundedOnce (k : ℕ) (low high : ℤ) (d : Decimal) : Type 0 where
  pub within : (v : ℤ) → fitted k low high d ≡ passed v → (v ≡ rounded k d) × (le_z low v ≡ true) × (le_z v high ≡ true)
  pub outside : fitted k low high d ≡ refused 222 → (le_z low (rounded k d) && le_z (rounded k d) high) ≡ false

pub rounded-once : (k : ℕ) (low high : ℤ) (d : Decimal) → RoundedOnce k low high d
unfolding fitted check ◌>>◌
rounded-once k low high d =
    record { within = in-limits (le_z low z) refl (le_z z high) refl; outside = off-limits (le_z low z && le_z z high) }
  where
    z : ℤ
    z = rounded k d

    in-limits : (a : Bool) → le_z low z ≡ a → (b : Bool) → le_z z high ≡ b
        → (v : ℤ) → ◌≡◌ {A = Checked ℤ} (check 222 (a && b) >> passed z) (passed v) → (v ≡ z) × (le_z low v ≡ true) × (le_z v high ≡ true)
    in-limits true p true q v e = let s : v ≡ z = cc in (s, rw s p, rw s q)
    in-limits true p false q v e = (cc, cc, cc)
    in-limits false p b q v e = (cc, cc, cc)

    off-limits : (a : Bool) → ◌≡◌ {A = Checked ℤ} (check 222 a >> passed z) (refused 222) → a ≡ false
    off-limits true e = cc
    off-limits false e = refl
