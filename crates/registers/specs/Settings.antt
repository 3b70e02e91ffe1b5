-- "The sixteen settings", and SYSTem:EXAM as the seventeenth (02, #107): headers, values, steps, limits and values at *RST, and how a
-- value is answered. Thirteen of them are there for each of two channels (02, #111): a setting is named by its slot, 0 to 16 as in the
-- table, 17 to 29 for channel 2. Checks 7 and 8, exam mode, and refusal 4 on the settings, by these limits.
-- And DISPlay:TEXT (02, #109), whose value is a text and stands beside the table.
-- A bool is 0 or 1, a word its place in its list from 0, and a number is counted in its steps.
use Rattle.std.specs.Prelude.{◌≡◌, Bool, true, false, not, ◌&&◌, ◌||◌, List, [], ◌∷◌, ◌++◌, map, ℕ, pred, leb, eqb, length, get_or, set, ℤ, pos, negsuc, neg_ℤ}
use Prim.Native.String.{String}
use Rattle.std.specs.Int.Signed.{le_z, lt_z}
use Rattle.registers.specs.Text.{Text, if◌then◌otherwise◌, below}
use Rattle.registers.specs.Label.{most_text, padded, held_in, possible_text}
use Rattle.registers.specs.Answer.{decimal, tenths, signed_text}
use Rattle.registers.specs.Words.{Node, must, may, short_form}
use Rattle.registers.specs.declared.rounding.Side.{Side}
use Rattle.registers.specs.declared.rounding.Side.TheVariants.{On, Below, Above}
use Rattle.registers.specs.declared.suffix.Quantity.{Quantity}
use Rattle.registers.specs.declared.suffix.Quantity.TheVariants.{Nothing, Volt, Ampere, Hertz, Second}
use Rattle.registers.specs.declared.settings.Settings.{Settings}
use Rattle.registers.specs.declared.settings.Values.{Values}
use Rattle.registers.specs.declared.settings.Values.TheVariants.{Bool as BoolValue, Word, Tenths, Whole}

-- what a row's values are
pub data Kind : Type 0 where
  bool : Kind
  words : List String → Kind
  number : ℕ → ℤ → ℤ → Kind  -- how many steps make one; the lowest and the highest value, in steps

-- a row of the table
pub record Setting : Type 0 where
  pub nodes : List Node
  pub kind : Kind
  pub quantity : Quantity  -- what its numbers measure (02, #101)
  pub reset : ℤ

abbrev pub row : List Node → Kind → Quantity → ℤ → Setting
row nodes kind quantity reset = record { nodes = nodes; kind = kind; quantity = quantity; reset = reset }

abbrev pub minus : ℕ → ℤ
minus n = neg_ℤ (pos n)

-- "Two dots stand for [SOURce:]CURRent:LIMit"
abbrev pub under_limit : List Node → List Node
under_limit nodes = may "SOURce" ∷ must "CURRent" ∷ must "LIMit" ∷ nodes

-- "The sixteen settings", in 01's order, and after them the one that 02 adds. The thirteen of a channel (02, #111) are the first three, and
-- the ten of the source
abbrev pub output_rows : List Setting
output_rows =
    row (must "OUTPut" ∷ may "STATe" ∷ []) bool Nothing (pos 0)
    ∷ row (must "OUTPut" ∷ must "PON" ∷ []) bool Nothing (pos 0)
    ∷ row (must "OUTPut" ∷ must "RELay" ∷ []) bool Nothing (pos 1)
    ∷ []

abbrev pub monitor_row : Setting
monitor_row = row (must "OUTPut" ∷ must "MONitor" ∷ must "MODE" ∷ []) (words ("CURRent" ∷ "SCURrent" ∷ "VOLTage" ∷ [])) Nothing (pos 2)

abbrev pub source_rows : List Setting
source_rows =
    row (may "SOURce" ∷ must "VOLTage" ∷ may "LEVel" ∷ may "IMMediate" ∷ may "AMPLitude" ∷ []) (number 10 (pos 0) (pos 240)) Volt (pos 0)
    ∷ row (may "SOURce" ∷ must "VOLTage" ∷ must "RANGe" ∷ []) (words ("R12V" ∷ "R24V" ∷ [])) Nothing (pos 0)
    ∷ row (may "SOURce" ∷ must "FREQuency" ∷ []) (number 10 (pos 400) (pos 5500)) Hertz (pos 500)
    ∷ row (under_limit (must "RMS" ∷ may "AMPLitude" ∷ [])) (number 10 (pos 1) (pos 20)) Ampere (pos 10)
    ∷ row (under_limit (must "RMS" ∷ must "MODE" ∷ [])) (words ("CONTinuous" ∷ "OFF" ∷ [])) Nothing (pos 1)
    ∷ row (under_limit (must "PEAK" ∷ must "MODE" ∷ [])) (words ("CONTinuous" ∷ "OFF" ∷ [])) Nothing (pos 1)
    ∷ row (under_limit (must "RMS" ∷ must "TIME" ∷ [])) (number 1 (pos 1) (pos 10)) Second (pos 1)
    ∷ row (under_limit (must "PEAK" ∷ must "TIME" ∷ [])) (number 1 (pos 1) (pos 10)) Second (pos 1)
    ∷ row (under_limit (must "PEAK" ∷ must "HIGH" ∷ [])) (number 10 (pos 5) (pos 80)) Ampere (pos 40)
    ∷ row (under_limit (must "PEAK" ∷ must "LOW" ∷ [])) (number 10 (minus 80) (minus 5)) Ampere (minus 40)
    ∷ []

abbrev pub single_rows : List Setting
single_rows =
    row (must "DISPlay" ∷ must "BRIGhtness" ∷ []) (number 1 (pos 0) (pos 99)) Nothing (pos 50)
    ∷ row (must "SYSTem" ∷ must "KLOCk" ∷ []) bool Nothing (pos 0)
    ∷ row (must "SYSTem" ∷ must "EXAM" ∷ []) bool Nothing (pos 0)
    ∷ []

unfoldable pub table : List Setting
table = output_rows ++ monitor_row ∷ source_rows ++ single_rows

-- how many rows there are
abbrev pub table_count : ℕ
table_count = 17

-- a bool that has no header stands past the table
abbrev pub past : Setting
past = row [] bool Nothing (pos 0)

-- ---- slots

-- "The thirteen rows of that kind exist per channel; monitor mode .., brightness, key lock, exam mode .. stay single" (02, #111): the
-- table's own rows, for channel 1 and what is single, and then those of channel 2
unfoldable pub slots : List Setting
slots = table ++ (output_rows ++ source_rows)

-- how many there are, and those that a rule names, by their slot
abbrev pub count : ℕ
count = 30

abbrev pub output : ℕ
output = 0

abbrev pub voltage : ℕ
voltage = 4

abbrev pub range : ℕ
range = 5

abbrev pub exam : ℕ
exam = 16

abbrev pub output2 : ℕ
output2 = 17

abbrev pub voltage2 : ℕ
voltage2 = 20

abbrev pub range2 : ℕ
range2 = 21

-- whether a slot is one of channel 2's
abbrev pub second : ℕ → Bool
second i = leb table_count i

-- the row of a slot; past the last a bool that has no header
unfoldable pub setting_at : ℕ → Setting
setting_at i = get_or slots i past

abbrev pub kind_of : ℕ → Kind
kind_of i = (setting_at i).kind

abbrev pub quantity_of : ℕ → Quantity
quantity_of i = (setting_at i).quantity

-- ---- the values of all settings

-- the value of a row, and other settings that differ in it alone
abbrev pub value_at : Settings → ℕ → ℤ
value_at s i = get_or s.values i (pos 0)

abbrev pub with_value : ℕ → ℤ → Settings → Settings
with_value i v s = record { values = set s.values i v; text = s.text }

-- the display's text, and other settings that differ in it alone
abbrev pub displayed : Settings → Text
displayed s = held_in s.text

abbrev pub with_text : Text → Settings → Settings
with_text t s = record { values = s.values; text = padded most_text t }

-- settings with as many values and bytes of text as their type says
pub record AsLong (s : Settings) : Type 0 where
  pub values : length s.values ≡ count
  pub text : length s.text ≡ most_text

-- "At *RST"; the text is "empty at *RST"
unfoldable pub at_reset : Settings
at_reset = record { values = map (λ (x : Setting). x.reset) slots; text = padded most_text [] }

-- ---- limits

-- the lowest and the highest value of a row, whatever the range
abbrev pub lowest_of : Kind → ℤ
lowest_of bool = pos 0
lowest_of (words ws) = pos 0
lowest_of (number k low high) = low

abbrev pub highest_of : Kind → ℤ
highest_of bool = pos 1
highest_of (words ws) = pos (pred (length ws))
highest_of (number k low high) = high

-- 12.0 V in steps
abbrev pub twelve_volts : ℤ
twelve_volts = pos 120

-- R12V is word 0 of a range and R24V word 1
unfoldable pub wide_range : Settings → ℕ → Bool
wide_range s r = le_z (pos 1) (value_at s r)

-- a voltage whose own channel's range is R12V
unfoldable pub narrow : Settings → ℕ → Bool
narrow s i = (eqb i voltage && not (wide_range s range)) || (eqb i voltage2 && not (wide_range s range2))

-- the lowest and the highest value of a row
unfoldable pub lowest : ℕ → ℤ
lowest i = lowest_of (kind_of i)

-- "0.0 to 12.0 or 24.0 by range"
unfoldable pub highest : Settings → ℕ → ℤ
highest s i = if narrow s i then twelve_volts otherwise highest_of (kind_of i)

-- check 7: "-222 outside the limits"
unfoldable pub within : Settings → ℕ → ℤ → Bool
within s i v = le_z (lowest i) v && le_z v (highest s i)

-- exam mode (02, #107): "when 1, an off-step number on a settings row of step 0.1 or 1 is -222"
unfoldable pub examined : Settings → Bool
examined s = le_z (pos 1) (value_at s exam)

abbrev pub on_step : Side → Bool
on_step On = true
on_step Below = false
on_step Above = false

unfoldable pub accepted : Settings → Side → Bool
accepted s x = on_step x || not (examined s)

-- a range while its own channel's voltage is above 12.0
abbrev pub above : Settings → ℕ → Bool
above s i = (eqb i range && lt_z twelve_volts (value_at s voltage)) || (eqb i range2 && lt_z twelve_volts (value_at s voltage2))

-- check 8: "-221: range R12V while the voltage is above 12.0"
unfoldable pub conflict : Settings → ℕ → ℤ → Bool
conflict s i v = le_z v (pos 0) && above s i

-- refusal 4: "a setting outside its limits", "a voltage above its range"; the text's limits too
unfoldable pub possible_values : Settings → Bool
possible_values s = below count (λ i. within s i (value_at s i))

unfoldable pub possible_settings : Settings → Bool
possible_settings s = possible_values s && possible_text s.text

-- a value is stored only where checks 7 and 8 let it pass
unfoldable pub stored : ℕ → ℤ → Settings → Settings
stored i v s = if within s i v && not (conflict s i v) then with_value i v s otherwise s

-- a text, as the record holds it, is stored only where it is within its limits
unfoldable pub text_stored : Text → Settings → Settings
text_stored t s = if possible_text t then record { values = s.values; text = t } otherwise s

-- ---- "Answers: 0 or 1; plain integers; one decimal for step 0.1 ..; words in short form"

-- the short form of a word by its place in its list
abbrev pub word_text : List String → ℤ → Text
word_text ws (pos n) = short_form (get_or ws n "")
word_text ws (negsuc n) = []

-- a row's value as it is answered
unfoldable pub answer_of : Kind → ℤ → Text
answer_of bool v = signed_text decimal v
answer_of (words ws) v = word_text ws v
answer_of (number k low high) v = signed_text (if eqb k 10 then tenths otherwise decimal) v

-- ---- what a row's values are, by name: 01's "Values" and "Step"

-- the columns Values and Step of 01's table, without the words and the limits
pub data Sort : Type 0 where
  bools : Sort
  some_words : Sort
  numbers : ℕ → Sort  -- how many steps make one

abbrev pub sort_of : Kind → Sort
sort_of bool = bools
sort_of (words ws) = some_words
sort_of (number k low high) = numbers k

-- what each name means: of step 0.1 ten make one
abbrev pub meant_values : Values → Sort
meant_values BoolValue = bools
meant_values Word = some_words
meant_values Tenths = numbers 10
meant_values Whole = numbers 1
