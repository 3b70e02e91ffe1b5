-- 02, #112, "No error unaccounted for": what the steps of a history (Steps.antt) do to its error queue, and the account of them. It looks at
-- the steps alone, and at the numbers that wait as each comes; nothing is counted up in the box.
use Rattle.std.specs.Prelude.{◌≡◌, Bool, true, false, not, ◌||◌, List, [], ◌∷◌, ◌++◌, ℕ, ltb, eqb, length, take}
use Rattle.registers.specs.Text.{if◌then◌otherwise◌, every, only}
use Rattle.registers.specs.Check.{Checked, refused, passed}
use Rattle.registers.specs.Error.{overflow}
use Rattle.registers.specs.Queue.{most}
use Rattle.interpreter.specs.Cuts.{last, front}
use Rattle.interpreter.specs.Box.{Memory, Box, power_up}
use Rattle.interpreter.specs.Unit.{Read, read_unit}
use Rattle.interpreter.specs.Line.{Obeyed, attempt}
use Rattle.interpreter.specs.Events.{Event, Result, after}
use Rattle.interpreter.specs.State.{box_of, possible_state, Started}
use Rattle.interpreter.specs.Calls.{Calls}
use Rattle.interpreter.specs.Steps.{Step, powers_up, discards, overruns, tries, finds_none, box_at, steps}
use Rattle.interpreter.specs.declared.state.State.{State}
use Rattle.interpreter.specs.declared.deed.Deed.{Deed}
use Rattle.interpreter.specs.declared.deed.Deed.TheVariants.{Change, Complete, Clear, Query, Inquire, Saving}
use Rattle.interpreter.specs.declared.deed.Inquiry as inquiries
use Rattle.interpreter.specs.declared.deed.Inquiry.TheVariants.{StandardEvents, StatusByte, NextError}

-- ---- what a step does to the error queue

pub data Act : Type 0 where
  raises : ℕ → Act  -- an error is raised; "a -350 put in by overflow isn't itself raised"
  reads : Act  -- SYSTem:ERRor? removes the oldest entry, if there is one
  starts : Act  -- "a power-up or an obeyed *CLS"
  leaves : Act  -- none of these

abbrev pub inquiry_act : inquiries.Inquiry → Act
inquiry_act StandardEvents = leaves
inquiry_act StatusByte = leaves
inquiry_act NextError = reads

abbrev pub deed_act : Deed → Act
deed_act (Change x) = leaves
deed_act Complete = leaves
deed_act Clear = starts
deed_act (Query q) = leaves
deed_act (Inquire q) = inquiry_act q
deed_act (Saving x p) = leaves

abbrev pub read_act : Checked Read → Act
read_act (refused n) = leaves
read_act (passed r) = deed_act r.deed

-- a unit that is refused raises its number, and does nothing else; one that is obeyed does its deed
abbrev pub unit_act : Act → Checked Obeyed → Act
unit_act a (refused n) = raises n
unit_act a (passed o) = a

unfoldable pub act_of : Step → Act
act_of (powers_up b) = starts
act_of (discards b) = raises 410
act_of (overruns b) = raises 363
act_of (tries path b u) = unit_act (read_act (read_unit b.core.settings path u)) (attempt path b u)
act_of (finds_none b) = raises 420

-- the numbers that wait, and those that wait as a step comes
abbrev pub queue : Box → List ℕ
queue b = b.trouble.queue

abbrev pub waits : Step → List ℕ
waits s = queue (box_at s)

-- ---- the account, which a power-up or an obeyed *CLS starts anew

-- "Call lost one raised while sixteen wait, and also the sixteenth entry at that moment unless it is -350". Entries come last into the queue, so
-- the sixteenth is the last raised of those not lost (`Accounted.sixteenth` states that it is)
abbrev pub kept_by : Act → List ℕ → List ℕ → List ℕ
kept_by (raises n) q ks = if ltb (length q) most then ks ++ n ∷ [] otherwise (if eqb (last q) overflow then ks otherwise front ks)
kept_by reads q ks = ks
kept_by starts q ks = []
kept_by leaves q ks = ks

-- "the errors raised, without the lost ones", in order
unfoldable pub kept : List ℕ → List Step → List ℕ
kept ks [] = ks
kept ks (s ∷ ss) = kept (kept_by (act_of s) (waits s) ks) ss

-- ---- the same by what comes after each error, between two starts: one is lost where sixteen wait as it is raised, and where sixteen wait as
-- the next one is raised, since it is the sixteenth then

-- sixteen wait
abbrev pub full_at : List ℕ → Bool
full_at q = not (ltb (length q) most)

-- whether sixteen wait as the next error is raised
abbrev pub full_by : Act → List ℕ → Bool → Bool
full_by (raises n) q later = full_at q
full_by reads q later = later
full_by starts q later = false
full_by leaves q later = later

unfoldable pub full_at_next : List Step → Bool
full_at_next [] = false
full_at_next (s ∷ ss) = full_by (act_of s) (waits s) (full_at_next ss)

-- the errors raised that are not lost
abbrev pub unlost_by : Act → List ℕ → Bool → List ℕ → List ℕ
unlost_by (raises n) q next later = if full_at q || next then later otherwise n ∷ later
unlost_by reads q next later = later
unlost_by starts q next later = later
unlost_by leaves q next later = later

unfoldable pub unlost : List Step → List ℕ
unlost [] = []
unlost (s ∷ ss) = unlost_by (act_of s) (waits s) (full_at_next ss) (unlost ss)

-- "before the next of either": no power-up and no obeyed *CLS
abbrev pub goes_on : Act → Bool
goes_on (raises n) = true
goes_on reads = true
goes_on starts = false
goes_on leaves = true

-- ---- what was read, and what waits

-- "those read by SYSTem:ERRor?": "an entry counts as read when it is removed"
abbrev pub read_by : Act → List ℕ → List ℕ → List ℕ
read_by (raises n) q rs = rs
read_by reads q rs = rs ++ take 1 q
read_by starts q rs = []
read_by leaves q rs = rs

unfoldable pub read_in : List ℕ → List Step → List ℕ
read_in rs [] = rs
read_in rs (s ∷ ss) = read_in (read_by (act_of s) (waits s) rs) ss

-- "with every -350 struck"
abbrev pub struck : List ℕ → List ℕ
struck ns = only (λ n. not (eqb n overflow)) ns

-- ---- the law

-- after these steps since a start these numbers wait
pub record Accounted (since : List Step) (waiting : List ℕ) : Type 0 where
  -- "the errors raised, without the lost ones, are those read by SYSTem:ERRor? followed by those waiting, with every -350 struck from both"
  pub all : kept [] since ≡ struck (read_in [] since) ++ struck waiting
  -- the errors without the lost ones are also those that `unlost` tells
  pub lost : every (λ s. goes_on (act_of s)) since ≡ true → kept [] since ≡ unlost since
  -- where sixteen wait, the sixteenth, unless it is -350, is the last raised of those not lost
  pub sixteenth : length waiting ≡ most → (last waiting ≡ overflow → ⊥) → kept [] since ≡ front (kept [] since) ++ last waiting ∷ []

-- the numbers that wait at a moment of a history: as the first of the later steps comes, or in the end
abbrev pub waiting_at : List Step → List ℕ → List ℕ
waiting_at [] q = q
waiting_at (s ∷ ss) q = waits s

-- "From a power-up .. to any moment": a history from power-up, between any two of its steps
abbrev pub SincePowerUp : Type 0
SincePowerUp = (m : Memory) (es : List Event) (since later : List Step) → steps (power_up m) es ≡ since ++ later
    → Accounted since (waiting_at later (queue (after (power_up m) es)))

-- "From a power-up or an obeyed *CLS to any moment": in a history from any state at all
abbrev pub SinceStart : Type 0
SinceStart = (b : Box) (es : List Event) (before since later : List Step) (start : Step) → act_of start ≡ starts
    → steps b es ≡ before ++ start ∷ (since ++ later)
    → Accounted since (waiting_at later (queue (after b es)))

-- the same of calls of the public functions, known by their promises alone: the numbers that wait in the state that they hand back
abbrev pub SincePowerUpOfCalls : Type 0
SincePowerUpOfCalls = (s t : State) (m n : Memory) (es : List Event) (rs : List Result) → Started s → Calls t n s m es rs
    → (since later : List Step) → steps (power_up m) es ≡ since ++ later
    → Accounted since (waiting_at later (queue (box_of t n)))

abbrev pub SinceStartOfCalls : Type 0
SinceStartOfCalls = (s t : State) (m n : Memory) (es : List Event) (rs : List Result) → possible_state s ≡ true → Calls t n s m es rs
    → (before since later : List Step) (start : Step) → act_of start ≡ starts
    → steps (box_of s m) es ≡ before ++ start ∷ (since ++ later)
    → Accounted since (waiting_at later (queue (box_of t n)))

pub record NoneUnaccounted : Type 0 where
  pub power_up : SincePowerUp
  pub start : SinceStart
  pub power_up_of_calls : SincePowerUpOfCalls
  pub start_of_calls : SinceStartOfCalls
