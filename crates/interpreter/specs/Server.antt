-- A chunk served for a program, in the words of the events: each line is received, and an answer that then waits is taken.
use Rattle.std.specs.Prelude.{◌≡◌, true, false, List, [], ◌∷◌, ◌++◌, ℕ, ◌+◌, ◌≤◌, eqb, leb, length, take, drop}
use Rattle.registers.specs.Text.{Text, if◌then◌otherwise◌, empty}
use Rattle.interpreter.specs.Cuts.{join_first}
use Rattle.interpreter.specs.Box.{Memory, right_size, Box, answer_is, most_answer}
use Rattle.interpreter.specs.Events.{Event, Happened, happens, received, take as takes}
use Rattle.interpreter.specs.State.{box_of, possible_state}
use Rattle.interpreter.specs.declared.state.State.{State}

-- the bytes cut after every newline
unfoldable pub lines_of : Text → List Text
lines_of [] = []
lines_of (x ∷ xs) = if eqb x 10 then (x ∷ []) ∷ lines_of xs otherwise join_first x (lines_of xs)

-- how far it got: the box, the bytes read, the answers, and the output's bytes after them
pub record Service : Type 0 where
  pub box : Box
  pub read : ℕ
  pub answers : Text
  pub rest : Text

abbrev pub service : Box → ℕ → Text → Text → Service
service b n answers rest = record { box = b; read = n; answers = answers; rest = rest }

-- what the take left stands after the answers before it
abbrev pub took_after : ℕ → Text → Happened → Service
took_after n answers h =
    service h.box n (answers ++ take h.result.value h.result.buffer) (drop h.result.value h.result.buffer)

-- "takes after each line, skips lines without answer without a take"
unfoldable pub served_line : Service → Text → Service
served_line s line =
    let b = (happens s.box (received line)).box in
    if empty b.core.answer then service b (s.read + length line) s.answers s.rest
    otherwise took_after (s.read + length line) s.answers (happens b (takes s.rest))

-- while there is room for one answer more
unfoldable pub serves : Service → List Text → Service
serves s [] = s
serves s (line ∷ more) = if leb most_answer (length s.rest) then serves (served_line s line) more otherwise s

-- lines heard one after the other, whatever the room: each is received, and an answer that then waits is taken and gone. Calls
-- that serve a chunk, and then what was left of it, lead to this
abbrev pub heard_line : Box → Text → Box
heard_line b line = answer_is [] (happens b (received line)).box

unfoldable pub heard : Box → List Text → Box
heard b [] = b
heard b (line ∷ more) = heard (heard_line b line) more

-- what they answer, one after the other
unfoldable pub answers_to : Box → List Text → Text
answers_to b [] = []
answers_to b (line ∷ more) = (happens b (received line)).box.core.answer ++ answers_to (heard_line b line) more

-- the first n bytes end where a line does
abbrev pub WholeLines : ℕ → Text → Type 0
WholeLines n t = lines_of t ≡ lines_of (take n t) ++ lines_of (drop n t)

-- ---- the same as lists of events

-- further events, after a take into the lent bytes if an answer waits
abbrev pub taking_first : Box → Text → List Event → List Event
taking_first b room es = if empty b.core.answer then es otherwise takes room ∷ es

-- those of a chunk: each line is received, and an answer that then waits is taken into the rest of the output
unfoldable pub events_of : Service → List Text → List Event
events_of s [] = []
events_of s (line ∷ more) =
    if leb most_answer (length s.rest)
    then received line ∷ taking_first (happens s.box (received line)).box s.rest (events_of (served_line s line) more)
    otherwise []

-- those of lines heard, with the same bytes lent to every take
unfoldable pub hearing : Text → Box → List Text → List Event
hearing room b [] = []
hearing room b (line ∷ more) = received line ∷ taking_first (happens b (received line)).box room (hearing room (heard_line b line) more)

-- ---- what the function says

-- how a chunk begins
abbrev pub begun : State → Memory → Text → Service
begun s m output = service (box_of s m) 0 [] output

-- a chunk on a state s with a memory m lent: the refusal's number, the bytes read and written, the state t, the memory n, and the output left
pub record Serves (s : State) (m : Memory) (input output : Text) (number read written : ℕ) (t : State) (n : Memory) (left : Text) : Type 0 where
  pub possible : right_size m ≡ true → possible_state s ≡ true
      → (possible_state t ≡ true)
      × (number ≡ 0)
      × (written ≤ length left)
      × (service (box_of t n) read (take written left) (drop written left) ≡ serves (begun s m output) (lines_of input))
      × (right_size n ≡ true)
  pub impossible : right_size m ≡ true → possible_state s ≡ false → (t ≡ s) × (number ≡ 4) × (read ≡ 0) × (written ≡ 0) × (left ≡ output) × (n ≡ m)
  pub wrong : right_size m ≡ false → (t ≡ s) × (number ≡ 5) × (read ≡ 0) × (written ≡ 0) × (left ≡ output) × (n ≡ m)
