-- What the functions that read the fields of a script line say: hex digits and decimal numbers. Nothing of 01 is defined here; the script is the
-- player's own.
use Rattle.std.specs.Prelude.{◌≡◌, ℕ, ◌+◌, ◌-◌, ◌*◌, ◌^◌, ◌<◌, ◌≤◌, nat_lt, [], ◌∷◌, Option, Some, None, Result}
use Rattle.std.specs.Result.{result_ok}
use Prim.Native.Char.{code}
use Rattle.registers.specs.Text.{Text, if◌then◌otherwise◌, digit, every}
use Rattle.registers.specs.Number.{numeral_from}

-- what parts the fields
abbrev pub blank : ℕ
blank = code " "

-- r is the value of the hex digit b, in capitals or small letters, and nothing where b is none
pub record HexValueOf (b : ℕ) (r : Option ℕ) : Type 0 where
  pub numeral : code "0" ≤ b → b ≤ code "9" → r ≡ Some (b - code "0")
  pub capital : code "A" ≤ b → b ≤ code "F" → r ≡ Some (b + 10 - code "A")
  pub small : code "a" ≤ b → b ≤ code "f" → r ≡ Some (b + 10 - code "a")
  pub below : b < code "0" → r ≡ None
  pub past_numerals : code "9" < b → b < code "A" → r ≡ None
  pub past_capitals : code "F" < b → b < code "a" → r ≡ None
  pub above : code "f" < b → r ≡ None

-- the number, where 64 bits hold it
unfoldable pub held : ℕ → Option ℕ
held n = if nat_lt n (2 ^ 64) then Some n otherwise None

-- the digit b read after the number n; nothing where b is no digit, or 64 bits don't hold the number
unfoldable pub with_digit : ℕ → ℕ → Option ℕ
with_digit n b = if digit b then held (n * 10 + (b - code "0")) otherwise None

-- the number that digits make after the number n; nothing where a byte is no digit, or 64 bits don't hold the number
unfoldable pub decimal_from : ℕ → Text → Option ℕ
decimal_from n t = if every digit t then held (numeral_from n t) otherwise None

-- the number that a text of digits spells; nothing for any other text, or where 64 bits don't hold it
unfoldable pub decimal_in : Text → Option ℕ
decimal_in [] = None
decimal_in (b ∷ t) = decimal_from 0 (b ∷ t)

-- r is the number, converted by gives, and nothing where there is no number or the conversion fails
abbrev pub Converted : {T E : Type 0} → (ℕ → Result T E → Type 0) → Option ℕ → Option T → Type 0
Converted gives None r = r ≡ None
Converted gives (Some n) r = (given : _) × gives n given × (r ≡ result_ok given)
