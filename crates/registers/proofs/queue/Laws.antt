-- Every error that can be raised may stand in the queue.
use mathlib.Core.Path.{◌≡◌, refl}
use mathlib.Core.Bool.{true}
use Rattle.registers.specs.Error.{number_of}
use Rattle.registers.specs.Queue.{may_be_queued, queueable}
use Rattle.registers.specs.declared.error.Error.{Error}
use Rattle.registers.specs.declared.error.Error.TheVariants.{InvalidCharacter, Syntax, DataType, ParameterNotAllowed, MissingParameter, UndefinedHeader, HeaderSuffix, InvalidCharacterInNumber, ExponentTooLarge, TooManyDigits, InvalidSuffix, SuffixNotAllowed, InvalidCharacterData, StringDataError, InvalidStringData, SettingsConflict, DataOutOfRange, TooMuchData, SaveRecallMemoryLost, InputBufferOverrun, QueryInterrupted, QueryUnterminated, QueryDeadlocked}

pub raised-queueable : (e : Error) → may_be_queued (number_of e) ≡ true
unfolding may_be_queued queueable
raised-queueable InvalidCharacter = refl
raised-queueable Syntax = refl
raised-queueable DataType = refl
raised-queueable ParameterNotAllowed = refl
raised-queueable MissingParameter = refl
raised-queueable UndefinedHeader = refl
raised-queueable HeaderSuffix = refl
raised-queueable InvalidCharacterInNumber = refl
raised-queueable ExponentTooLarge = refl
raised-queueable TooManyDigits = refl
raised-queueable InvalidSuffix = refl
raised-queueable SuffixNotAllowed = refl
raised-queueable InvalidCharacterData = refl
raised-queueable StringDataError = refl
raised-queueable InvalidStringData = refl
raised-queueable SettingsConflict = refl
raised-queueable DataOutOfRange = refl
raised-queueable TooMuchData = refl
raised-queueable SaveRecallMemoryLost = refl
raised-queueable InputBufferOverrun = refl
raised-queueable QueryInterrupted = refl
raised-queueable QueryUnterminated = refl
raised-queueable QueryDeadlocked = refl
