-- What the functions that write a report say. Nothing of 01 is defined here; the report is the player's own.
use Rattle.std.specs.Prelude.{ℕ, ◌+◌, ◌-◌, ◌/◌, ◌%◌, nat_lt, [], ◌∷◌, flat_map}
use Prim.Native.Char.{code}
use Rattle.registers.specs.Text.{Text, if◌then◌otherwise◌}

-- the hex digit of n, in capitals
abbrev pub hex_digit : ℕ → ℕ
hex_digit n = if nat_lt n 10 then code "0" + n otherwise code "A" + (n - 10)

-- two hex digits to a byte
abbrev pub hex_byte : ℕ → Text
hex_byte b = hex_digit (b / 16) ∷ hex_digit (b % 16) ∷ []

-- bytes in hex, or a dash where there is none
abbrev pub in_hex : Text → Text
in_hex [] = code "-" ∷ []
in_hex (b ∷ bs) = flat_map hex_byte (b ∷ bs)
