-- Check 7: "The exact decimal value is rounded to the row's step, halves away from zero, and only then compared". And
-- what was rounded off: "whether the exact value was on the step, below or above it" (02, #107).
use Rattle.std.specs.Prelude.{◌≡◌, Bool, true, false, not, ◌&&◌, ℕ, ◌+◌, ◌*◌, ◌/◌, ◌^◌, eqb, ltb, ℤ, pos, neg_ℤ, ◌*ℤ◌, Option, Some, None}
use Rattle.std.specs.Int.Signed.{le_z, lt_z}
use Rattle.registers.specs.Text.{if◌then◌otherwise◌}
use Rattle.registers.specs.Check.{Checked, refused, passed, ◌>>◌, check}
use Rattle.registers.specs.declared.number.Decimal.{Decimal}
use Rattle.registers.specs.declared.rounding.Rounded.{Rounded}
use Rattle.registers.specs.declared.rounding.Side.{Side}
use Rattle.registers.specs.declared.rounding.Side.TheVariants.{On, Below, Above}

-- the whole number that is nearest to num / den; a half goes up
unfoldable pub nearest : ℕ → ℕ → ℕ
nearest num den = (2 * num + den) / (2 * den)

-- a size with its sign
abbrev pub signed : Bool → ℕ → ℤ
signed true n = neg_ℤ (pos n)
signed false n = pos n

-- a value's size in steps of which k make one, rounded; and the value with its sign, so that a half goes away from zero
unfoldable pub size_in : ℕ → Decimal → ℕ
size_in k d = nearest (d.digits * 10 ^ d.up * k) (10 ^ d.down)

unfoldable pub rounded : ℕ → Decimal → ℤ
rounded k d = signed d.minus (size_in k d)

-- the exact value in steps of which k make one, and a whole number of steps, both times the value's denominator
abbrev pub exactly : ℕ → Decimal → ℤ
exactly k d = signed d.minus (d.digits * 10 ^ d.up * k)

abbrev pub wholly : ℤ → Decimal → ℤ
wholly z d = z *ℤ pos (10 ^ d.down)

-- rounded, "and only then compared: -222 outside the limits"
unfoldable pub fitted : ℕ → ℤ → ℤ → Decimal → Checked ℤ
fitted k low high d = check 222 (le_z low (rounded k d) && le_z (rounded k d) high) >> passed (rounded k d)

-- how the exact size num / den stands to the one that it was rounded to
unfoldable pub size_side : ℕ → ℕ → ℕ → Side
size_side num den r = if eqb num (r * den) then On otherwise (if ltb num (r * den) then Below otherwise Above)

-- what is less in size is more in value where the sign is a minus
abbrev pub turned : Bool → Side → Side
turned true On = On
turned true Below = Above
turned true Above = Below
turned false x = x

-- how the exact value stands to the rounded one
unfoldable pub side_in : ℕ → Decimal → Side
side_in k d = turned d.minus (size_side (d.digits * 10 ^ d.up * k) (10 ^ d.down) (size_in k d))

-- a bool is "ON, OFF, or a number": the number is rounded to a whole one, and zero is off (02, #102)
unfoldable pub switched_on : Decimal → Bool
switched_on d = not (eqb (size_in 1 d) 0)

-- ---- what the answer means

-- a value in steps; none is 01's number for one outside the limits
abbrev pub meant_fit : Option ℤ → Checked ℤ
meant_fit (Some v) = passed v
meant_fit None = refused 222

-- how the exact value stands to the rounded one: it is that value, or it is below or above it
abbrev pub Stands : Side → ℤ → ℤ → Type 0
Stands On exact near = exact ≡ near
Stands Below exact near = lt_z exact near ≡ true
Stands Above exact near = lt_z near exact ≡ true

-- check 7 with what was rounded off; a value outside the limits was rounded too, and has its side
pub record RoundedIn (k : ℕ) (low high : ℤ) (d : Decimal) (r : Rounded) : Type 0 where
  pub fit : meant_fit r.fit ≡ fitted k low high d
  pub side : Stands r.side (exactly k d) (wholly (rounded k d) d)
