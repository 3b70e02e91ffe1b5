-- "What can happen to the box": the five events, the refusals of its table, and histories. By 02 (#108) the caller lends a memory to every
-- event but power-up: it is part of the box here, and a history tells where the caller changes it or lends another.
use Rattle.std.specs.Prelude.{◌≡◌, Bool, true, not, ◌&&◌, List, [], ◌∷◌, ◌++◌, ℕ, leb, length, drop}
use Rattle.registers.specs.Text.{Text, if◌then◌otherwise◌, empty}
use Rattle.registers.specs.Group.{widest_group}
use Rattle.registers.specs.Settings.{possible_settings, AsLong}
use Rattle.registers.specs.Status.{set_reported, status_byte, possible_registers, possible_trouble}
use Rattle.registers.specs.declared.status.RegisterSet.{RegisterSet}
use Rattle.interpreter.specs.Box.{Core, Box, box, raise, with_registers, with_memory, altered_in, answer_is, power_up, most_line, most_answer}
use Rattle.interpreter.specs.Line.{piece, newlines}

pub data Event : Type 0 where
  started : Event  -- power-up
  received : Text → Event  -- a piece
  take : Text → Event  -- with the lent buffer
  condition : RegisterSet → ℕ → Event  -- of a register set
  look : Event
  -- what the caller does to the store between two of these: the byte at a place becomes another
  altered : ℕ → ℕ → Event
  -- a piece, take, condition or look that was lent a store of the wrong length, and the buffer that it was lent
  mislent : Text → Event

-- the refusal's number in 01's table, or 0; the count, length or status byte; the lent buffer afterwards
pub record Result : Type 0 where
  pub number : ℕ
  pub value : ℕ
  pub buffer : Text

abbrev pub result_of : ℕ → ℕ → Text → Result
result_of n v t = record { number = n; value = v; buffer = t }

pub record Happened : Type 0 where
  pub result : Result
  pub box : Box

abbrev pub happened : Result → Box → Happened
happened r b = record { result = r; box = b }

-- "the waiting answer is copied to the start of a lent buffer and is then gone"; numbers 1 and 2
unfoldable pub taken : Text → Box → Happened
taken buffer b =
    let a = b.core.answer in
    if empty a then happened (result_of 2 0 buffer) (raise 420 b)
    otherwise (if leb (length a) (length buffer)
    then happened (result_of 0 (length a) (a ++ drop (length a) buffer)) (answer_is [] b)
    otherwise happened (result_of 1 (length a) buffer) b)

-- "the box reports the 16-bit operation condition register"; by 02 (#104) LOCK and WARNing have each "its own condition event"; number 3
unfoldable pub reported : RegisterSet → ℕ → Box → Happened
reported x n b =
    if leb n widest_group
    then happened (result_of 0 0 [])
    (box (with_registers (set_reported x n b.core.registers) b.core) b.trouble)
    otherwise happened (result_of 3 0 []) b

-- look: "the status byte, with bit 6 as below. It changes nothing"
abbrev pub seen : Box → ℕ
seen b = status_byte b.core.registers b.trouble (not (empty b.core.answer))

-- an event on a state that could be the box's: number 4, which is tested before numbers 1 to 3, is in State.Happens. "A store of the wrong
-- length makes every event but power-up refuse with a new number 5, as number 4"
unfoldable pub happens : Box → Event → Happened
happens b started = happened (result_of 0 0 []) (power_up b.core.memory)
happens b (received xs) = happened (result_of 0 (newlines xs) []) (piece b xs)
happens b (take buffer) = taken buffer b
happens b (condition x n) = reported x n b
happens b look = happened (result_of 0 (seen b) []) b
happens b (altered i x) = happened (result_of 0 0 []) (box (with_memory (altered_in i x b.core.memory) b.core) b.trouble)
happens b (mislent buffer) = happened (result_of 5 0 buffer) b

-- the buffer that an event lends; no event but take has one
abbrev pub lent : Event → Text
lent started = []
lent (received xs) = []
lent (take buffer) = buffer
lent (condition x n) = []
lent look = []
lent (altered i x) = []
lent (mislent buffer) = buffer

-- ---- number 4: the boxes that could be the box's own. State.possible_state says the same of a record

unfoldable pub possible_core : Core → Bool
possible_core c =
    possible_settings c.settings
    && (possible_registers c.registers && (leb (length c.line) most_line && leb (length c.answer) most_answer))

unfoldable pub possible : Box → Bool
possible b = possible_core b.core && possible_trouble b.trouble

-- a state that could be the box's, with settings as long as their type says
pub record Own (b : Box) : Type 0 where
  pub could : possible b ≡ true
  pub values : AsLong b.core.settings

-- ---- histories: events one after the other, the box that they leave and their results

unfoldable pub after : Box → List Event → Box
after b [] = b
after b (e ∷ es) = after (happens b e).box es

unfoldable pub results : Box → List Event → List Result
results b [] = []
results b (e ∷ es) = (happens b e).result ∷ results (happens b e).box es
