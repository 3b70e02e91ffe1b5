-- Check 6: a number as it is written, its exact decimal value, scaled by its suffix, and the refusals in their order.
use Rattle.std.specs.Prelude.{Bool, not, ◌&&◌, ◌||◌, [], ◌∷◌, ◌++◌, ℕ, ◌+◌, ◌-◌, ◌*◌, leb, eqb, length}
use Prim.Native.Char.{code}
use Rattle.registers.specs.Text.{Text, if◌then◌otherwise◌, digit, white, capital, empty, first, rest, start, after}
use Rattle.registers.specs.Check.{Checked, passed, ◌>>=◌, ◌>>◌, check}
use Rattle.registers.specs.Suffix.{remains}
use Rattle.registers.specs.declared.number.Decimal.{Decimal}
use Rattle.registers.specs.declared.suffix.Power.{Power}
use Rattle.registers.specs.declared.suffix.Quantity.{Quantity}

-- ---- "optional sign, digits with an optional point (at least one digit), and as an option `E` or `e`, optional sign, at least one
-- digit"

abbrev pub sign : ℕ → Bool
sign b = eqb b (code "+") || eqb b (code "-")

abbrev pub point : ℕ → Bool
point b = eqb b (code ".")

-- a text without the sign that it may start with
unfoldable pub after_sign : Text → Text
after_sign t = if sign (first t) then rest t otherwise t

-- the digits after the point that a text starts with, and what stands after them
unfoldable pub fraction_of : Text → Text
fraction_of t = if point (first t) then start digit (rest t) otherwise []

unfoldable pub after_fraction : Text → Text
after_fraction t = if point (first t) then after digit (rest t) otherwise t

-- the digits of the exponent that a text starts with, and what stands after it: without a digit there is no exponent
unfoldable pub exponent_of : Text → Text
exponent_of t = if eqb (capital (first t)) (code "E") then start digit (after_sign (rest t)) otherwise []

unfoldable pub after_exponent : Text → Text
after_exponent t = if empty (exponent_of t) then t otherwise after digit (after_sign (rest t))

-- an exponent is there, and its sign is a minus
unfoldable pub lowering : Text → Bool
lowering t = not (empty (exponent_of t)) && eqb (first (rest t)) (code "-")

-- the parts of a number as it is written
pub record Written : Type 0 where
  pub minus : Bool  -- its sign is a minus
  pub whole : Text  -- the digits before the point
  pub fraction : Text  -- the digits after it
  pub lowers : Bool  -- the exponent's sign is a minus
  pub exponent : Text  -- the exponent's digits
  pub remainder : Text  -- what stands after the number

-- "The longest such start is read"
unfoldable pub written : Text → Written
written t =
    let after_whole = after digit (after_sign t) in
    let left = after_fraction after_whole in
    record {
      minus = eqb (first t) (code "-");
      whole = start digit (after_sign t);
      fraction = fraction_of after_whole;
      lowers = lowering left;
      exponent = exponent_of left;
      remainder = after_exponent left;
    }

-- ---- the exact decimal value: the digits, times 10 to the power up, over 10 to the power down, with the sign

-- digits as a number, after those of n
unfoldable pub numeral_from : ℕ → Text → ℕ
numeral_from n [] = n
numeral_from n (d ∷ ds) = numeral_from (n * 10 + (d - code "0")) ds

abbrev pub numeral : Text → ℕ
numeral ds = numeral_from 0 ds

-- of a sign, all the digits, how many of them stand after the point, and the exponent
unfoldable pub decimal_of : Bool → ℕ → ℕ → Bool → ℕ → Decimal
decimal_of minus digits places lowers exponent =
    record {
      minus = minus;
      digits = digits;
      up = if lowers then 0 otherwise exponent - places;
      down = if lowers then places + exponent otherwise places - exponent;
    }

-- of a number as it is written
unfoldable pub value_of : Written → Decimal
value_of w = decimal_of w.minus (numeral (w.whole ++ w.fraction)) (length w.fraction) w.lowers (numeral w.exponent)

-- "The exact scaled value" (02, #101): times a power of ten
unfoldable pub scaled : Power → Decimal → Decimal
scaled p d = record { minus = d.minus; digits = d.digits; up = d.up + p.up; down = d.down + p.down }

-- ---- check 6

-- "-124 for more than 12 mantissa digits after leading zeros"
abbrev pub most_digits : ℕ
most_digits = 12

-- "-123 for an exponent above 9 in size"
abbrev pub most_exponent : ℕ
most_exponent = 9

-- check 6: the value of a parameter for a row of some quantity, or the first of its refusals; "also if there is no such start"
unfoldable pub number : Quantity → Text → Checked Decimal
number q t =
    let w = written t in
    check 121 (not (empty (w.whole ++ w.fraction)))
    >> remains q (after white w.remainder) >>= λ p.
    check 124 (leb (length (after (eqb (code "0")) (w.whole ++ w.fraction))) most_digits)
    >> check 123 (leb (numeral w.exponent) most_exponent)
    >> passed (scaled p (value_of w))
