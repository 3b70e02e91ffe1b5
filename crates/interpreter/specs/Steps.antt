-- What a history makes the box do, step by step: each unit that is tried, each newline that discards an answer or ends an overlong line, each
-- take that finds no answer, each power-up. 02 speaks so of units, of their answers and of the errors raised (#111: Isolation.antt, #112:
-- Account.antt). A condition, a look and the bytes of a line that is under way run no unit and raise nothing, so they are no
-- steps; nor are an event that is lent a store of the wrong length, and what the caller does to the store (#108).
use Rattle.std.specs.Prelude.{◌≡◌, Bool, true, List, [], ◌∷◌, ◌++◌, ℕ, eqb}
use Rattle.registers.specs.Text.{Text, if◌then◌otherwise◌, empty}
use Rattle.registers.specs.Check.{Checked, refused, passed}
use Rattle.interpreter.specs.Box.{Memory, Box}
use Rattle.interpreter.specs.Line.{Obeyed, attempt, units_of, at_newline, byte}
use Rattle.interpreter.specs.Events.{Event, started, received, take, condition, look, altered, mislent, Result, happens, after}
use Rattle.interpreter.specs.Histories.{Recut}
use Rattle.interpreter.specs.State.{box_of, possible_state}
use Rattle.interpreter.specs.Calls.{Calls}
use Rattle.interpreter.specs.declared.state.State.{State}

pub data Step : Type 0 where
  powers_up : Box → Step
  discards : Box → Step  -- "At any newline .. a waiting answer is first discarded with -410"
  overruns : Box → Step  -- an overlong line: "at the newline -363 is raised and no unit runs"
  tries : List Text → Box → Text → Step  -- a unit, after a path; `attempt` tells whether it is obeyed
  finds_none : Box → Step  -- a take, refusal 2: "error -420 raised"

-- the box as the step comes
abbrev pub box_at : Step → Box
box_at (powers_up b) = b
box_at (discards b) = b
box_at (overruns b) = b
box_at (tries path b u) = b
box_at (finds_none b) = b

-- ---- lines

-- "The first refused unit .., and the rest of the line is dropped"
abbrev pub steps_next : (List Text → Box → List Step) → Checked Obeyed → List Step
steps_next go (refused n) = []
steps_next go (passed o) = go o.path o.box

unfoldable pub unit_steps : List Text → List Text → Box → List Step
unit_steps [] path b = []
unit_steps (u ∷ us) path b = tries path b u ∷ steps_next (λ p c. unit_steps us p c) (attempt path b u)

unfoldable pub line_steps : Text → Bool → Box → List Step
line_steps line overlong b = if overlong then overruns b ∷ [] otherwise unit_steps (units_of line) [] b

-- of the line that waits, at its newline
abbrev pub own_steps : Box → List Step
own_steps b = line_steps b.core.line b.core.overlong (at_newline b)

unfoldable pub end_steps : Box → List Step
end_steps b = (if empty b.core.answer then [] otherwise discards b ∷ []) ++ own_steps b

-- ---- histories

unfoldable pub byte_steps : Box → ℕ → List Step
byte_steps b x = if eqb x 10 then end_steps b otherwise []

unfoldable pub piece_steps : Box → Text → List Step
piece_steps b [] = []
piece_steps b (x ∷ xs) = byte_steps b x ++ piece_steps (byte b x) xs

unfoldable pub event_steps : Box → Event → List Step
event_steps b started = powers_up b ∷ []
event_steps b (received xs) = piece_steps b xs
event_steps b (take buffer) = if empty b.core.answer then finds_none b ∷ [] otherwise []
event_steps b (condition x n) = []
event_steps b look = []
event_steps b (altered i x) = []
event_steps b (mislent buffer) = []

unfoldable pub steps : Box → List Event → List Step
steps b [] = []
steps b (e ∷ es) = event_steps b e ++ steps (happens b e).box es

-- ---- their laws

-- part by part
abbrev pub StepsOfParts : Type 0
StepsOfParts = (b : Box) (es fs : List Event) → steps b (es ++ fs) ≡ steps b es ++ steps (after b es) fs

-- "however the bytes are cut"
abbrev pub StepsRecut : Type 0
StepsRecut = (b : Box) (h g : List Event) → Recut h g → steps b h ≡ steps b g

-- after calls of the public functions, known by their promises alone, the steps go on from the state that they handed back
abbrev pub StepsOfCalls : Type 0
StepsOfCalls = (s t : State) (m n : Memory) (es fs : List Event) (rs : List Result) → possible_state s ≡ true → Calls t n s m es rs
    → steps (box_of s m) (es ++ fs) ≡ steps (box_of s m) es ++ steps (box_of t n) fs

pub record StepLaws : Type 0 where
  pub parts : StepsOfParts
  pub recut : StepsRecut
  pub calls : StepsOfCalls
