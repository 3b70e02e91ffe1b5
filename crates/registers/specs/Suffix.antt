-- Unit suffixes (02, #101): what may stand after a number, and the power of ten by which it multiplies the number.
use Rattle.std.specs.Prelude.{List, [], ◌∷◌, map, ℕ}
use Prim.Native.String.{String}
use Rattle.registers.specs.Text.{Text, if◌then◌otherwise◌, bytes, capital, letter, same, empty, first}
use Rattle.registers.specs.Check.{Checked, refused, passed, ◌>>◌, check}
use Rattle.registers.specs.declared.suffix.Power.{Power}
use Rattle.registers.specs.declared.suffix.Quantity.{Quantity}
use Rattle.registers.specs.declared.suffix.Quantity.TheVariants.{Nothing, Volt, Ampere, Hertz, Second}

-- powers of ten: 10 to the power up, over 10 to the power down
abbrev pub one : Power
one = record { up = 0; down = 0 }

abbrev pub milli : Power
milli = record { up = 0; down = 3 }

abbrev pub kilo : Power
kilo = record { up = 3; down = 0 }

abbrev pub mega : Power
mega = record { up = 6; down = 0 }

-- "Accept V, MV, A, MA, HZ, KHZ and S on the rows that carry that quantity .. In IEEE 488.2 MHZ is mega, though M elsewhere is
-- milli. MHZ is accepted too"
unfoldable pub suffixes : Quantity → List (String × Power)
suffixes Nothing = []
suffixes Volt = ("V", one) ∷ ("MV", milli) ∷ []
suffixes Ampere = ("A", one) ∷ ("MA", milli) ∷ []
suffixes Hertz = ("HZ", one) ∷ ("KHZ", kilo) ∷ ("MHZ", mega) ∷ []
suffixes Second = ("S", one) ∷ []

-- "Anything else that begins with a letter there is -131, in the place of -138; on rows without a quantity -138 stays"
unfoldable pub no_suffix : Quantity → ℕ
no_suffix Nothing = 138
no_suffix Volt = 131
no_suffix Ampere = 131
no_suffix Hertz = 131
no_suffix Second = 131

-- a text's power of ten among some suffixes, "any letter case", or error n
unfoldable pub power_in : ℕ → List (String × Power) → Text → Checked Power
power_in n [] t = refused n
power_in n (x ∷ xs) t = if same (map capital t) (bytes x.0) then passed x.1 otherwise power_in n xs t

-- check 6, what remains after a number and its white space: a suffix, the whole of it; "else -121"
unfoldable pub remains : Quantity → Text → Checked Power
remains q t = if letter (first t) then power_in (no_suffix q) (suffixes q) t otherwise (check 121 (empty t) >> passed one)
