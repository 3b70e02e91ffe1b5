-- Demands 2 and 3 of calls of the public functions, which are known by their promises alone.
use Rattle.std.specs.Prelude.{◌≡◌, true, List, [], ◌∷◌, ◌++◌, ℕ, ◌≤◌, ◌<◌, length, drop}
use Rattle.registers.specs.Text.{Text, every}
use Rattle.registers.specs.Settings.{count, value_at, displayed, AsLong, within}
use Rattle.registers.specs.Label.{most_text, may_stand}
use Rattle.interpreter.specs.Box.{Memory}
use Rattle.interpreter.specs.Events.{Event, Result, after}
use Rattle.interpreter.specs.Histories.{newline, Recut, is_take, is_piece, no_piece, how_many, chosen, summed}
use Rattle.interpreter.specs.State.{box_of, possible_state, Started}
use Rattle.interpreter.specs.Calls.{Calls}
use Rattle.interpreter.specs.Demand2.{InRange, Which, answer_to, Asks, queried, sent_back, Premises, Back}
use Rattle.interpreter.specs.Demand3.{as_sent, as_cut, ALine, Demand3}
use Rattle.interpreter.specs.declared.state.State.{State}

-- calls led from s to t. The state s could be the box's, and has settings as long as their type says: a power-up hands back such a state
pub record Ran (s : State) (m : Memory) (t : State) (n : Memory) (es : List Event) (rs : List Result) : Type 0 where
  pub could : possible_state s ≡ true
  pub values : AsLong s.settings
  pub calls : Calls t n s m es rs

-- ---- demand 2

abbrev pub LimitsOfCalls : Type 0
LimitsOfCalls = (s t : State) (m n : Memory) (es : List Event) (rs : List Result) → Ran s m t n es rs
    → (i : ℕ) → i < count → within t.settings i (value_at t.settings i) ≡ true

abbrev pub TextOfCalls : Type 0
TextOfCalls = (s t : State) (m n : Memory) (es : List Event) (rs : List Result) → Ran s m t n es rs
    → (every may_stand (displayed t.settings) ≡ true) × (length (displayed t.settings) ≤ most_text)

abbrev pub RangeOfCalls : Type 0
RangeOfCalls = (s t : State) (m n : Memory) (es : List Event) (rs : List Result) → Ran s m t n es rs
    → InRange t.settings

-- the same bytes in other pieces
abbrev pub PiecesOfCalls : Type 0
PiecesOfCalls = (s t t' : State) (m n n' : Memory) (h g : List Event) (rs qs : List Result) → Ran s m t n h rs → Ran s m t' n' g qs → Recut h g
    → (box_of t n ≡ box_of t' n')
    × (chosen no_piece h rs ≡ chosen no_piece g qs)
    × (summed (chosen is_piece h rs) ≡ summed (chosen is_piece g qs))

-- after the newline of a query alone in its line
abbrev pub AnsweredOfCalls : Type 0
AnsweredOfCalls = (s t : State) (m n : Memory) (i : Which) (before h : List Event) (rs : List Result) → Ran s m t n h rs → Recut h (queried before)
    → Asks i (after (box_of s m) before)
    → (box_of t n).core.answer ≡ answer_to i (after (box_of s m) before).core.settings ++ 10 ∷ []

-- r is what the take between the two lines told the caller
abbrev pub RoundTripOfCalls : Type 0
RoundTripOfCalls = (s t : State) (m n : Memory) (i : Which) (a buffer : Text) (before early late h : List Event) (rs more : List Result) (r : Result)
    → Ran s m t n h rs
    → Recut h (sent_back before early buffer late ++ newline ∷ [])
    → drop (how_many is_take (queried before ++ early)) (chosen is_take h rs) ≡ r ∷ more
    → Premises (box_of s m) i a buffer r before early late
    → Back (after (box_of s m) before) (after (box_of s m) (sent_back before early buffer late)) (box_of t n)

pub record Demand2OfCalls : Type 0 where
  pub limits : LimitsOfCalls
  pub text : TextOfCalls
  pub range : RangeOfCalls
  pub pieces : PiecesOfCalls
  pub answered : AnsweredOfCalls
  pub round_trip : RoundTripOfCalls

-- ---- demand 3: calls from two power-ups; nothing else is asked of the two first states

abbrev pub Demand3OfCalls : Type 0
Demand3OfCalls =
    (m : Memory) (before during later h h' : List Event) → ALine m before during
    → Recut h (as_sent before during ++ later) → Recut h' (as_cut m before during ++ later)
    → (s s' t t' : State) (n n' : Memory) (rs rs' : List Result) → Started s → Started s' → Calls t n s m h rs → Calls t' n' s' m h' rs'
    → Demand3 m before during later (box_of t n) (box_of t' n') (λ p. chosen p h rs) (λ p. chosen p h' rs')
