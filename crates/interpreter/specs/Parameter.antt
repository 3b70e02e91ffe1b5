-- Checks 4 to 7 on the parameters of a unit: how many, what each is, and the value that it gives. Check 6 is the lower crate's.
use Rattle.std.specs.Prelude.{Bool, true, false, not, ◌&&◌, ◌||◌, List, [], ◌∷◌, map, ℕ, zero, suc, leb, length, ℤ, pos, nat_abs}
use Prim.Native.Char.{code}
use Prim.Native.String.{String}
use Rattle.std.specs.Int.Signed.{le_z}
use Rattle.registers.specs.Text.{Text, if◌then◌otherwise◌, letter, digit, word_byte, every, empty, first}
use Rattle.registers.specs.Check.{Checked, refused, passed, ◌>>=◌, ◌>>◌, check}
use Rattle.registers.specs.Words.{matches}
use Rattle.registers.specs.Number.{number as read_number, sign, point}
use Rattle.registers.specs.Rounding.{switched_on, rounded, side_in}
use Rattle.registers.specs.Settings.{Kind, bool, words, number, kind_of, quantity_of, lowest, highest, within, accepted}
use Rattle.registers.specs.Label.{most_text, may_stand, is_string, text_in}
use Rattle.registers.specs.Status.{widest}
use Rattle.registers.specs.declared.number.Decimal.{Decimal}
use Rattle.registers.specs.declared.rounding.Side.{Side}
use Rattle.registers.specs.declared.rounding.Side.TheVariants.{On}
use Rattle.registers.specs.declared.settings.Settings.{Settings}
use Rattle.registers.specs.declared.status.Register.{Register}
use Rattle.registers.specs.declared.suffix.Quantity.{Quantity}
use Rattle.registers.specs.declared.suffix.Quantity.TheVariants.{Nothing}
use Rattle.interpreter.specs.Cuts.{is_quote, cut_open, trim}
use Rattle.interpreter.specs.declared.deed.Deed.{Deed}
use Rattle.interpreter.specs.declared.deed.Deed.TheVariants.{Change, Query, Saving}
use Rattle.interpreter.specs.declared.deed.Change.TheVariants.{Put, Store, Label as labelled}
use Rattle.interpreter.specs.declared.deed.Query.TheVariants.{Limit, Value, Stored, Label as label_asked}
use Rattle.interpreter.specs.declared.deed.Role.{Role}
use Rattle.interpreter.specs.declared.deed.Role.TheVariants.{Setting as setting, Register as register, Only, Saving as saving, Label as label}
use Rattle.interpreter.specs.declared.deed.Saving as savings

-- check 2: "commas part the parameters"; none where nothing follows the header
unfoldable pub parameters : Text → List Text
parameters t = if empty t then [] otherwise map trim (cut_open (code ",") 0 t)

-- no "empty parameter"
abbrev pub none_empty : List Text → Bool
none_empty ps = every (λ p. not (empty p)) ps

-- "Number rows": those with a step
abbrev pub is_number : Kind → Bool
is_number bool = false
is_number (words ws) = false
is_number (number k low high) = true

-- ---- check 4: "-108 too many parameters, -109 too few"; a number row's query has "one optional parameter"

abbrev pub asks_limits : Kind → ℕ
asks_limits bool = 0
asks_limits (words ws) = 0
asks_limits (number k low high) = 1

unfoldable pub least : Role → Bool → ℕ
least (setting i) asked = if asked then 0 otherwise 1
least (register r) asked = if asked then 0 otherwise 1
least label asked = if asked then 0 otherwise 1
least (Only d) asked = 0
least (saving x) asked = if asked then 0 otherwise 1

unfoldable pub greatest : Role → Bool → ℕ
greatest (setting i) asked = if asked then asks_limits (kind_of i) otherwise 1
greatest (register r) asked = if asked then 0 otherwise 1
greatest label asked = if asked then 0 otherwise 1
greatest (Only d) asked = 0
greatest (saving x) asked = if asked then 0 otherwise 1

-- ---- checks 5 and 6

-- a parameter: a word by its place in the row's list, or a number
pub data Given : Type 0 where
  Word : ℕ → Given
  Figure : Decimal → Given

-- a word of the row, by its place in the row's list: "-141 if it .. isn't a word of that row"
unfoldable pub find_word : ℕ → List String → Text → Checked Given
find_word i [] t = refused 141
find_word i (w ∷ ws) t = if matches w t then passed (Word i) otherwise find_word (suc i) ws t

-- "a word; -141 if it has other bytes than letters, digits, underscore, or isn't a word of that row"
unfoldable pub read_word : List String → Text → Checked Given
read_word ws t = check 141 (every word_byte t) >> find_word 0 ws t

-- a number, by check 6
unfoldable pub read_figure : Quantity → Text → Checked Given
read_figure q t = read_number q t >>= λ d. passed (Figure d)

-- "First byte a letter: a word .. Digit, sign or point: a number; -104 if the row takes words only, or in any query. Any
-- other first byte: -104"
unfoldable pub parameter : List String → Bool → Quantity → Text → Checked Given
parameter ws numbers q t =
    if letter (first t) then read_word ws t
    otherwise (if digit (first t) || sign (first t) || point (first t) then (check 104 numbers >> read_figure q t) otherwise refused 104)

-- "Number rows also take MINimum and MAXimum, in the query too"
abbrev pub limit_words : List String
limit_words = "MINimum" ∷ "MAXimum" ∷ []

-- the words of a row: "A bool is ON, OFF, or a number"; those of the column Values; MINimum and MAXimum
abbrev pub words_of : Kind → List String
words_of bool = "OFF" ∷ "ON" ∷ []
words_of (words ws) = ws
words_of (number k low high) = limit_words

-- check 5: "-104 if the row takes words only"
abbrev pub takes_numbers : Kind → Bool
takes_numbers bool = true
takes_numbers (words ws) = false
takes_numbers (number k low high) = true

-- ---- check 7: a value is rounded, "and only then compared"

-- MINimum and MAXimum of a row
abbrev pub limit_at : Settings → ℕ → ℕ → ℤ
limit_at s i zero = lowest i
limit_at s i (suc n) = highest s i

-- the value that a parameter gives to setting i; for a bool it is switched on or off. A number for a row of words, the
-- fourth line, was refused by check 5
unfoldable pub value_given : Settings → ℕ → Kind → Given → ℤ
value_given s i bool (Word n) = pos n
value_given s i bool (Figure d) = if switched_on d then pos 1 otherwise pos 0
value_given s i (words ws) (Word n) = pos n
value_given s i (words ws) (Figure d) = pos 0
value_given s i (number k low high) (Word n) = limit_at s i n
value_given s i (number k low high) (Figure d) = rounded k d

-- "whether the exact value was on the step, below or above it" (02, #107): a number of a row that has a step tells it. Words,
-- MINimum and MAXimum are on the step, and so is whatever is given for a row that has none
abbrev pub side_given : Kind → Given → Side
side_given bool g = On
side_given (words ws) g = On
side_given (number k low high) (Word n) = On
side_given (number k low high) (Figure d) = side_in k d

-- check 7: "-222 outside the limits", and exam mode's -222 (02, #107)
abbrev pub put_given : Settings → ℕ → ℤ → Side → Checked Deed
put_given s i v x = check 222 (within s i v) >> check 222 (accepted s x) >> passed (Change (Put i v x))

unfoldable pub setting_deed : Settings → ℕ → Text → Checked Deed
setting_deed s i t =
    parameter (words_of (kind_of i)) (takes_numbers (kind_of i)) (quantity_of i) t >>= λ g.
    put_given s i (value_given s i (kind_of i) g) (side_given (kind_of i) g)

-- the query of a number row with MINimum or MAXimum; a number in a query was refused by check 5
abbrev pub limit_given : Settings → ℕ → Given → ℤ
limit_given s i (Word n) = limit_at s i n
limit_given s i (Figure d) = pos 0

unfoldable pub limit_deed : Settings → ℕ → Text → Checked Deed
limit_deed s i t = parameter limit_words false (quantity_of i) t >>= λ g. passed (Query (Limit i (limit_given s i g)))

-- "Numbers here use step 1 and no MIN or MAX", and measure nothing; a word was refused by check 5
abbrev pub register_given : Given → ℤ
register_given (Word n) = pos n
register_given (Figure d) = rounded 1 d

abbrev pub register_side : Given → Side
register_side (Word n) = On
register_side (Figure d) = side_in 1 d

-- check 7 on a register
unfoldable pub store_given : Register → ℤ → Side → Checked Deed
store_given r v x = check 222 (le_z (pos 0) v && le_z v (pos (widest r))) >> passed (Change (Store r (nat_abs v) x))

unfoldable pub register_deed : Register → Text → Checked Deed
register_deed r t = parameter [] true Nothing t >>= λ g. store_given r (register_given g) (register_side g)

-- a place of *SAV and *RCL (02, #108), rounded like a register: "a place outside 0 to 9 is -222"
unfoldable pub place_given : savings.Saving → ℤ → Checked Deed
place_given x v = check 222 (le_z (pos 0) v && le_z v (pos 9)) >> passed (Saving x (nat_abs v))

unfoldable pub saving_deed : savings.Saving → Text → Checked Deed
saving_deed x t = parameter [] true Nothing t >>= λ g. place_given x (register_given g)

-- DISPlay:TEXT (02, #109), in place of check 5: "a word or number on this row is -104"; -151, -150 and -223 "are tested in that order"
unfoldable pub label_deed : Text → Checked Deed
label_deed t =
    if is_quote (first t)
    then (check 151 (is_string t) >> check 150 (every may_stand (text_in t)) >> check 223 (leb (length (text_in t)) most_text) >> passed (Change labelled))
    otherwise refused 104

-- checks 5 to 7; a parameter is there where check 4 asked for one
unfoldable pub deed_of : Settings → Role → Bool → List Text → Checked Deed
deed_of s (setting i) true [] = passed (Query (Value i))
deed_of s (setting i) true (t ∷ ts) = limit_deed s i t
deed_of s (setting i) false [] = refused 109
deed_of s (setting i) false (t ∷ ts) = setting_deed s i t
deed_of s (register r) true ts = passed (Query (Stored r))
deed_of s (register r) false [] = refused 109
deed_of s (register r) false (t ∷ ts) = register_deed r t
deed_of s (Only d) asked ts = passed d
deed_of s (saving x) asked [] = refused 109
deed_of s (saving x) asked (t ∷ ts) = saving_deed x t
deed_of s label true ts = passed (Query label_asked)
deed_of s label false [] = refused 109
deed_of s label false (t ∷ ts) = label_deed t
