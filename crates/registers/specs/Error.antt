-- "Registers and queue": the errors that 01 and 02 raise, their numbers, the event bit of each, and their texts in SCPI-99. 222 stands for
-- -222.
use Rattle.std.specs.Prelude.{List, [], ◌∷◌, ◌++◌, ℕ, ◌^◌, ltb, eqb, Result, Ok, Err}
use Prim.Native.Char.{code}
use Prim.Native.String.{String}
use Rattle.registers.specs.Text.{Text, if◌then◌otherwise◌, bytes}
use Rattle.registers.specs.Check.{Checked, refused, passed}
use Rattle.registers.specs.Answer.{decimal}
use Rattle.registers.specs.declared.error.Error.{Error}
use Rattle.registers.specs.declared.error.Error.TheVariants.{InvalidCharacter, Syntax, DataType, ParameterNotAllowed, MissingParameter, UndefinedHeader, HeaderSuffix, InvalidCharacterInNumber, ExponentTooLarge, TooManyDigits, InvalidSuffix, SuffixNotAllowed, InvalidCharacterData, StringDataError, InvalidStringData, SettingsConflict, DataOutOfRange, TooMuchData, SaveRecallMemoryLost, InputBufferOverrun, QueryInterrupted, QueryUnterminated, QueryDeadlocked}

-- the number of each error that can be raised: 01's, and of 02 -131 (#101), -114 (#111), -150, -151 and -223 (#109), and -314 (#108)
abbrev pub number_of : Error → ℕ
number_of InvalidCharacter = 101
number_of Syntax = 102
number_of DataType = 104
number_of ParameterNotAllowed = 108
number_of MissingParameter = 109
number_of UndefinedHeader = 113
number_of HeaderSuffix = 114
number_of InvalidCharacterInNumber = 121
number_of ExponentTooLarge = 123
number_of TooManyDigits = 124
number_of InvalidSuffix = 131
number_of SuffixNotAllowed = 138
number_of InvalidCharacterData = 141
number_of StringDataError = 150
number_of InvalidStringData = 151
number_of SettingsConflict = 221
number_of DataOutOfRange = 222
number_of TooMuchData = 223
number_of SaveRecallMemoryLost = 314
number_of InputBufferOverrun = 363
number_of QueryInterrupted = 410
number_of QueryUnterminated = 420
number_of QueryDeadlocked = 430

-- what the result of a check means: a refusal by 01's number, or what the check found
abbrev pub meant : {A : Type 0} → Result A Error → Checked A
meant (Err e) = refused (number_of e)
meant (Ok a) = passed a

-- -350, which a full queue's sixteenth turns into
abbrev pub overflow : ℕ
overflow = 350

-- "A raised error sets one event bit by its hundreds: -1xx bit 5, -2xx bit 4, -3xx bit 3, -4xx bit 2"
unfoldable pub event_bit : ℕ → ℕ
event_bit n = if ltb n 200 then 2 ^ 5 otherwise (if ltb n 300 then 2 ^ 4 otherwise (if ltb n 400 then 2 ^ 3 otherwise 2 ^ 2))

-- the texts of SCPI-99
abbrev pub messages : List (ℕ × String)
messages =
    (0, "No error")
    ∷ (101, "Invalid character")
    ∷ (102, "Syntax error")
    ∷ (104, "Data type error")
    ∷ (108, "Parameter not allowed")
    ∷ (109, "Missing parameter")
    ∷ (113, "Undefined header")
    ∷ (114, "Header suffix out of range")
    ∷ (121, "Invalid character in number")
    ∷ (123, "Exponent too large")
    ∷ (124, "Too many digits")
    ∷ (131, "Invalid suffix")
    ∷ (138, "Suffix not allowed")
    ∷ (141, "Invalid character data")
    ∷ (150, "String data error")
    ∷ (151, "Invalid string data")
    ∷ (221, "Settings conflict")
    ∷ (222, "Data out of range")
    ∷ (223, "Too much data")
    ∷ (314, "Save/recall memory lost")
    ∷ (350, "Queue overflow")
    ∷ (363, "Input buffer overrun")
    ∷ (410, "Query INTERRUPTED")
    ∷ (420, "Query UNTERMINATED")
    ∷ (430, "Query DEADLOCKED")
    ∷ []

-- the text of a number; none for a number that has none
unfoldable pub message_in : List (ℕ × String) → ℕ → String
message_in [] n = ""
message_in (m ∷ ms) n = if eqb m.0 n then m.1 otherwise message_in ms n

-- SYSTem:ERRor? answers `-222,"Data out of range"`, or `0,"No error"`
unfoldable pub error_text : ℕ → Text
error_text n =
    (if eqb n 0 then [] otherwise code "-" ∷ []) ++ decimal n ++ code "," ∷ code "\"" ∷ bytes (message_in messages n) ++ code "\"" ∷ []
