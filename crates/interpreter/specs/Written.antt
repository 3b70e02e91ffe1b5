-- Demand 3 of the program: what `serve` writes. Bytes are served in chunks one after the other, in whatever chunks and with whatever room for the
-- answers, and what is compared are the bytes written: those to a refused line and to the lines after it, and those where that line is cut.
use Rattle.std.specs.Prelude.{◌≡◌, true, List, [], ◌∷◌, ◌++◌, ℕ, length, take}
use Rattle.registers.specs.Text.{Text, every}
use Rattle.registers.specs.Settings.{AsLong}
use Rattle.interpreter.specs.Box.{Memory, right_size, Box, power_up}
use Rattle.interpreter.specs.Line.{piece}
use Rattle.interpreter.specs.Events.{received}
use Rattle.interpreter.specs.State.{box_of, possible_state, Started}
use Rattle.interpreter.specs.Server.{lines_of, heard_line, heard, answers_to, Serves}
use Rattle.interpreter.specs.Demand3.{cut_line, line_refusal, in_line, Fresh, Watch, neither, asked, cleared, then_watch, watch_event, Agree}
use Rattle.interpreter.specs.declared.state.State.{State}

-- ---- chunks served one after the other, each call known by its promise and by what its caller was told: how many bytes of the chunk were read, how many
-- of the lent output were written, and the output. The two texts are all bytes read and all bytes written. What of a chunk wasn't read may be handed
-- to the next call, or not

pub data Written (t : State) (n : Memory) : State → Memory → Text → Text → Type 0 where
  done : Written t n t n [] []
  chunk : {s u : State} {m k : Memory} {input output left text said : Text} {number read written : ℕ}
      → Serves s m input output number read written u k left → Written t n u k text said
      → Written t n s m (take read input ++ text) (take written left ++ said)

-- ---- what is answered depends on the bytes alone, not on the chunks or on the room

-- a state that could be the box's, with a store of the right length, in which no answer waits: a power-up hands back such a state, and so does every chunk
pub record Ready (s : State) (m : Memory) : Type 0 where
  pub could : possible_state s ≡ true
  pub values : AsLong s.settings
  pub sized : right_size m ≡ true
  pub quiet : (box_of s m).core.answer ≡ []

abbrev pub AnyChunks : Type 0
AnyChunks = (s t : State) (m n : Memory) (text said : Text) → Ready s m → Written t n s m text said
    → (box_of t n ≡ heard (box_of s m) (lines_of text)) × (said ≡ answers_to (box_of s m) (lines_of text))

-- ---- "any line in it that is refused at unit n+1, by a number other than -430": what is read before it, and its own bytes

-- the box as the line begins, and as its newline comes
abbrev pub beginning : Memory → Text → Box
beginning m before = heard (power_up m) (lines_of before)

abbrev pub ending : Memory → Text → Text → Box
ending m before line = piece (beginning m before) line

pub record SentLine (m : Memory) (before line : Text) : Type 0 where
  pub begins : Fresh (beginning m before).core
  pub alone : every in_line (received line ∷ []) ≡ true
  pub other : line_refusal (ending m before line) ≡ 430 → ⊥

-- a line begins at power-up, and where the bytes before it end with a newline
abbrev pub LinesBeginHeard : Type 0
LinesBeginHeard = (m : Memory) → Fresh (beginning m []).core × ((before : Text) → Fresh (beginning m (before ++ 10 ∷ [])).core)

-- "Compare the same history with that line cut to its first n units"
abbrev pub cut_text : Memory → Text → Text → Text
cut_text m before line = take (length (cut_line (ending m before line))) line

-- an input with a line in its midst
abbrev pub input : Text → Text → Text → Text
input before line later = before ++ (line ++ 10 ∷ later)

-- the box after the line and its newline, its answer written
abbrev pub after_line : Memory → Text → Text → Box
after_line m before line = heard_line (beginning m before) (line ++ 10 ∷ [])

-- ---- "If from there no unit asks *ESR?, *STB? or SYST:ERR? before the first *CLS that is obeyed"

-- what comes first in lines heard one after the other
unfoldable pub watch_heard : Box → List Text → Watch
watch_heard b [] = neither
watch_heard b (l ∷ ls) = then_watch (watch_event b (received l)) (watch_heard (heard_line b l) ls)

abbrev pub AgreeTexts : Watch → Text → Text → Type 0
AgreeTexts neither x y = x ≡ y
AgreeTexts cleared x y = x ≡ y
AgreeTexts asked x y = Unit {0}

-- both begin with these bytes
abbrev pub Begin : Text → Text → Text → Type 0
Begin a x y = (take (length a) x ≡ a) × (take (length a) y ≡ a)

-- the input with the line as it was sent left the box a and wrote these bytes, with the line cut the box b and those
pub record Demand3Written (m : Memory) (before line later : Text) (a b : Box) (these those : Text) : Type 0 where
  pub first : watch_heard (after_line m before line) (lines_of later) ≡ watch_heard (after_line m before (cut_text m before line)) (lines_of later)
  pub state : Agree (watch_heard (after_line m before line) (lines_of later)) a b
  -- all that is written agrees, unless a unit asked before the *CLS
  pub all : AgreeTexts (watch_heard (after_line m before line) (lines_of later)) these those
  -- "every answer taken agrees meanwhile": up to where a unit asks, all that is written
  pub meanwhile : (soon onward : Text) → later ≡ soon ++ onward → (watch_heard (after_line m before line) (lines_of soon) ≡ asked → ⊥)
      → Begin (answers_to (power_up m) (lines_of (input before line soon))) these those

-- each input in any chunks, with any room, from a power-up
abbrev pub Demand3OfProgram : Type 0
Demand3OfProgram =
    (m : Memory) (before line later these those : Text) → right_size m ≡ true → SentLine m before line
    → (s s' t t' : State) (n n' : Memory) → Started s → Started s'
    → Written t n s m (input before line later) these → Written t' n' s' m (input before (cut_text m before line) later) those
    → Demand3Written m before line later (box_of t n) (box_of t' n') these those
