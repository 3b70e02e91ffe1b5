-- An error is told by its number: a search by number over all errors finds each by its own, so that no two have the same.
use mathlib.Core.Path.{◌≡◌, refl, sym, ap, ◌∙◌}
use mathlib.Core.List.{List, [], ◌∷◌}
use Prim.Native.Nat.{ℕ}
use lib.Dec.{eqb}
use Rattle.registers.specs.Text.{if◌then◌otherwise◌}
use Rattle.registers.specs.Error.{number_of}
use Rattle.registers.specs.declared.error.Error.{Error}
use Rattle.registers.specs.declared.error.Error.TheVariants.{InvalidCharacter, Syntax, DataType, ParameterNotAllowed, MissingParameter, UndefinedHeader, HeaderSuffix, InvalidCharacterInNumber, ExponentTooLarge, TooManyDigits, InvalidSuffix, SuffixNotAllowed, InvalidCharacterData, StringDataError, InvalidStringData, SettingsConflict, DataOutOfRange, TooMuchData, SaveRecallMemoryLost, InputBufferOverrun, QueryInterrupted, QueryUnterminated, QueryDeadlocked}

errors : List Error
errors =
    InvalidCharacter
    ∷ Syntax
    ∷ DataType
    ∷ ParameterNotAllowed
    ∷ MissingParameter
    ∷ UndefinedHeader
    ∷ HeaderSuffix
    ∷ InvalidCharacterInNumber
    ∷ ExponentTooLarge
    ∷ TooManyDigits
    ∷ InvalidSuffix
    ∷ SuffixNotAllowed
    ∷ InvalidCharacterData
    ∷ StringDataError
    ∷ InvalidStringData
    ∷ SettingsConflict
    ∷ DataOutOfRange
    ∷ TooMuchData
    ∷ SaveRecallMemoryLost
    ∷ InputBufferOverrun
    ∷ QueryInterrupted
    ∷ QueryUnterminated
    ∷ QueryDeadlocked
    ∷ []

-- the first of some errors that has a number
error_in : List Error → ℕ → Error
unfolding if◌then◌otherwise◌
error_in [] n = InvalidCharacter
error_in (e ∷ es) n = if eqb (number_of e) n then e otherwise error_in es n

back : (e : Error) → error_in errors (number_of e) ≡ e
unfolding if◌then◌otherwise◌ errors error_in
back InvalidCharacter = refl
back Syntax = refl
back DataType = refl
back ParameterNotAllowed = refl
back MissingParameter = refl
back UndefinedHeader = refl
back HeaderSuffix = refl
back InvalidCharacterInNumber = refl
back ExponentTooLarge = refl
back TooManyDigits = refl
back InvalidSuffix = refl
back SuffixNotAllowed = refl
back InvalidCharacterData = refl
back StringDataError = refl
back InvalidStringData = refl
back SettingsConflict = refl
back DataOutOfRange = refl
back TooMuchData = refl
back SaveRecallMemoryLost = refl
back InputBufferOverrun = refl
back QueryInterrupted = refl
back QueryUnterminated = refl
back QueryDeadlocked = refl

pub number_of-injective : (a b : Error) → number_of a ≡ number_of b → a ≡ b
number_of-injective a b e = sym (back a) ∙ ap (error_in errors) e ∙ back b
