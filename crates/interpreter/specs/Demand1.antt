-- Demand 1: each refusal is given exactly when 01 says, carries its number, and changes only what 01 lists for it.
use Rattle.std.specs.Prelude.{◌≡◌, true, false, List, [], ◌∷◌, ℕ, ◌≤◌, ltb, eqb, length}
use Prim.Native.Char.{code}
use Rattle.registers.specs.Text.{Text, if◌then◌otherwise◌, every, white, empty}
use Rattle.registers.specs.Check.{refused}
use Rattle.registers.specs.Group.{widest_group}
use Rattle.interpreter.specs.Cuts.{cut_open}
use Rattle.interpreter.specs.Box.{Memory, Box, raise, answer_is}
use Rattle.interpreter.specs.Unit.{raisable}
use Rattle.interpreter.specs.Line.{at_newline, attempt, refuse, run_units, finished}
use Rattle.interpreter.specs.Events.{Event, started, received, take, condition, look, altered, mislent, Result, result_of, Happened, happened, happens, lent}
use Rattle.interpreter.specs.Histories.{newline}
use Rattle.interpreter.specs.State.{box_of, admitted, rightly, Happens}
use Rattle.interpreter.specs.Demand3.{obeyed, refusal}
use Rattle.interpreter.specs.declared.state.State.{State}

-- ---- 01's table, its column "When": which number is given, 0 for none

unfoldable pub number_for : Box → Event → ℕ
number_for b started = 0
number_for b (received xs) = 0
number_for b (take buffer) = if empty b.core.answer then 2 otherwise (if ltb (length buffer) (length b.core.answer) then 1 otherwise 0)
number_for b (condition x n) = if ltb widest_group n then 3 otherwise 0
number_for b look = 0
number_for b (altered i x) = 0
number_for b (mislent buffer) = 5

-- "Number 4 is tested first", on the record's own numbers, and for "any but power-up"; by 02 (#108) number 5 before it
unfoldable pub refusal_of : State → Memory → Event → ℕ
refusal_of s m e = if rightly m e then (if admitted s e then number_for (box_of s m) e otherwise 4) otherwise 5

-- ---- its column "What it leaves", by the number. 1: "result gives the needed length"; 2: "error -420 raised"; else the state is
-- unchanged and the count, length or status byte is 0. The lent buffer is never touched

abbrev pub leaves : Box → Event → ℕ → Happened
leaves b e n = happened (result_of n (if eqb n 1 then length b.core.answer otherwise 0) (lent e)) (if eqb n 2 then raise 420 b otherwise b)

-- a call, known by its promise alone, left the result r, the state t and the lent memory n
pub record Refuses (s : State) (m : Memory) (e : Event) (r : Result) (t : State) (n : Memory) : Type 0 where
  pub number : r.number ≡ refusal_of s m e
  pub left : (refusal_of s m e ≡ 0 → ⊥) → happened r (box_of t n) ≡ leaves (box_of s m) e (refusal_of s m e)
  pub untouched : 4 ≤ refusal_of s m e → (t ≡ s) × (n ≡ m)

abbrev pub EventRefusals : Type 0
EventRefusals = (s t : State) (m n : Memory) (e : Event) (r : Result) → Happens s m e r t n → Refuses s m e r t n

-- ---- "The first refused unit raises one error and changes nothing else (but check 9 drops the answer), and the rest of the
-- line is dropped"

pub record UnitRefused (b after : Box) (n : ℕ) : Type 0 where
  pub of_unit : raisable n ≡ true
  pub raises : (n ≡ 430 → ⊥) → after ≡ raise n b
  pub drops : n ≡ 430 → after ≡ raise n (answer_is [] b)

abbrev pub UnitRefusals : Type 0
UnitRefusals = (u : Text) (us path : List Text) (b : Box) (n : ℕ) → attempt path b u ≡ refused n → UnitRefused b (run_units (u ∷ us) path b) n

-- ---- the newline's own refusals, once "a waiting answer is first discarded with -410" and the line's bytes are gone (`at_newline`)

-- what a line's units leave: those that are obeyed run, and the one after them, if there is one, raises its error
abbrev pub units_leave : List Text → Box → Box
units_leave us b =
    let c = run_units (obeyed us [] b) [] b in
    let n = refusal us [] b in
    if eqb n 0 then c otherwise refuse n c

-- a newline found the box b and left another
pub record LineRefused (b after : Box) : Type 0 where
  -- "at the newline -363 is raised and no unit runs"
  pub overlong : b.core.overlong ≡ true → after ≡ raise 363 (at_newline b)
  -- "A blank line that isn't overlong does nothing else"
  pub blank : b.core.overlong ≡ false → every white b.core.line ≡ true → after ≡ at_newline b
  -- "Otherwise the line is cut at every `;`"; a unit raises no -363 and no -410
  pub units : b.core.overlong ≡ false → every white b.core.line ≡ false
      → after ≡ finished (units_leave (cut_open (code ";") 0 b.core.line) (at_newline b))
  pub of_unit : let n = refusal (cut_open (code ";") 0 b.core.line) [] (at_newline b) in (n ≡ 0 → ⊥) → raisable n ≡ true

abbrev pub LineRefusals : Type 0
LineRefusals = (b : Box) → LineRefused b (happens b newline).box

pub record Demand1 : Type 0 where
  pub events : EventRefusals
  pub units : UnitRefusals
  pub lines : LineRefusals
