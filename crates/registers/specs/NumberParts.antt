-- What the number reader's own functions say. Nothing of 01 is defined here: see Number.antt.
use Rattle.std.specs.Prelude.{◌≡◌, Bool, ◌++◌, ℕ, ◌+◌, ◌^◌, ◌≤◌, min, leb, ltb, length, drop}
use Rattle.registers.specs.Text.{Text, digit, start, after}
use Rattle.registers.specs.Number.{most_digits, most_exponent, decimal_of, scaled, numeral_from, numeral, fraction_of, after_fraction, exponent_of, after_exponent, lowering}
use Rattle.registers.specs.Check.{Checked, passed, ◌>>◌, check}
use Rattle.registers.specs.declared.number.Decimal.{Decimal}
use Rattle.registers.specs.declared.number.Digits.{Digits}
use Rattle.registers.specs.declared.number.Mantissa.{Mantissa}
use Rattle.registers.specs.declared.number.Exponent.{Exponent}
use Rattle.registers.specs.declared.suffix.Power.{Power}

-- digits are counted up to this, the first number with a digit more than `most_digits`
abbrev pub held : ℕ
held = 10 ^ most_digits

-- the digits of t that start at a place, read after those of the number `from`
pub record DigitsRead (t : Text) (at from : ℕ) (r : Digits) : Type 0 where
  pub value : r.value ≡ min held (numeral_from from (start digit (drop at t)))
  pub end : r.end ≡ at + length (start digit (drop at t))
  pub rest : drop r.end t ≡ after digit (drop at t)
  pub within : r.end ≤ length t

-- the digits of the mantissa that a text starts with
abbrev pub mantissa_of : Text → Text
mantissa_of t = start digit t ++ fraction_of (after digit t)

-- the digits of t that start at a place, with the point and the digits after it
pub record MantissaRead (t : Text) (at : ℕ) (r : Mantissa) : Type 0 where
  pub value : r.value ≡ min held (numeral (mantissa_of (drop at t)))
  pub count : r.count ≡ length (mantissa_of (drop at t))
  pub places : r.places ≡ length (fraction_of (after digit (drop at t)))
  pub rest : drop r.end t ≡ after_fraction (after digit (drop at t))
  pub within : r.end ≤ length t
  pub short : r.places ≤ length t

pub record ExponentRead (t : Text) (at : ℕ) (r : Exponent) : Type 0 where
  pub lowers : r.lowers ≡ lowering (drop at t)
  pub size : r.size ≡ min held (numeral (exponent_of (drop at t)))
  pub rest : drop r.end t ≡ after_exponent (drop at t)
  pub within : r.end ≤ length t

-- the last of check 6, of what was read
unfoldable pub value_read : Bool → Mantissa → Exponent → Power → Checked Decimal
value_read minus m x p =
    check 124 (ltb m.value held)
    >> check 123 (leb x.size most_exponent)
    >> passed (scaled p (decimal_of minus m.value m.places x.lowers x.size))
