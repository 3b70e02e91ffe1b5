-- Two results that meet the statement of an event are equal, and the two states are the same, places beyond a stored length apart.
use mathlib.Core.Path.{◌≡◌, refl, sym, ap, ap₂, ◌∙◌}
use mathlib.Core.Bool.{Bool, true, false, false≢true}
use mathlib.Core.List.{List}
use Rattle.std.specs.Prelude.{Result as Outcome, Ok, Err}
use Prim.Native.Nat.{ℕ, ◌≤◌}
use native.Mathlib.Omega.{arith}
use lib.Dec.{eqb, leb}
use lib.ListN.{length, take}
use lib.Seq.{length-take-le}
use Rattle.registers.specs.Text.{if◌then◌otherwise◌}
use Rattle.registers.specs.Group.{widest_group}
use Rattle.registers.specs.Queue.{most}
use Rattle.registers.specs.declared.status.RegisterSet.{RegisterSet}
use Rattle.interpreter.specs.Box.{Memory, Box, right_size, most_line, most_answer}
use Rattle.interpreter.specs.Events.{Event, condition, Result, Happened, happens, reported}
use Rattle.interpreter.specs.State.{number_of, value_of, box_of, possible_state, admitted, rightly, Happens, Started}
use Rattle.interpreter.specs.declared.state.State.{State}
use Rattle.interpreter.specs.declared.state.Refusal.{Refusal}
use Rattle.interpreter.specs.declared.state.Refusal.TheVariants.{BufferTooShort, NoAnswer, ConditionTooWide, ImpossibleState, WrongStore}
use Rattle.interpreter.proofs.state.Records.{short-from}

-- no two kinds of refusal have the same number, and no two outcomes the same number and value
refusal_of : ℕ → ℕ → Refusal
refusal_of k n =
    if eqb k 1 then BufferTooShort n
    otherwise (if eqb k 2 then NoAnswer
    otherwise (if eqb k 3 then ConditionTooWide
    otherwise (if eqb k 4 then ImpossibleState otherwise WrongStore)))

outcome_of : ℕ → ℕ → Outcome ℕ Refusal
outcome_of k n = if eqb k 0 then Ok n otherwise Err (refusal_of k n)

outcome-back : (o : Outcome ℕ Refusal) → outcome_of (number_of o) (value_of o) ≡ o
unfolding outcome_of refusal_of if◌then◌otherwise◌
outcome-back (Ok n) = refl
outcome-back (Err (BufferTooShort n)) = refl
outcome-back (Err NoAnswer) = refl
outcome-back (Err ConditionTooWide) = refl
outcome-back (Err ImpossibleState) = refl
outcome-back (Err WrongStore) = refl

pub outcome-unique : (o o' : Outcome ℕ Refusal) → number_of o ≡ number_of o' → value_of o ≡ value_of o' → o ≡ o'
outcome-unique o o' e f = sym (outcome-back o) ∙ ap₂ outcome_of e f ∙ outcome-back o'

-- a condition's outcome and a chunk's have no value: their number alone tells them, since it isn't 1, whose refusal holds a length
done_of : ℕ → Outcome (Unit {0}) Refusal
done_of k = if eqb k 0 then Ok tt otherwise Err (refusal_of k 0)

done-back : (o : Outcome (Unit {0}) Refusal) → (number_of o ≡ 1 → ⊥) → done_of (number_of o) ≡ o
unfolding done_of refusal_of if◌then◌otherwise◌
done-back (Ok x) h = refl
done-back (Err (BufferTooShort n)) h = absurd (h refl)
done-back (Err NoAnswer) h = refl
done-back (Err ConditionTooWide) h = refl
done-back (Err ImpossibleState) h = refl
done-back (Err WrongStore) h = refl

pub done-unique : (o o' : Outcome (Unit {0}) Refusal) → number_of o ≡ number_of o' → (number_of o ≡ 1 → ⊥) → o ≡ o'
done-unique o o' e h = sym (done-back o h) ∙ ap done_of e ∙ done-back o' (λ q. h (e ∙ q))

reported-other : (x : RegisterSet) (v : ℕ) (b : Box) → (reported x v b).result.number ≡ 1 → ⊥
unfolding reported if◌then◌otherwise◌
reported-other x v b h = on (leb v widest_group) refl
  where
    on : (t : Bool) → leb v widest_group ≡ t → ⊥
    on true e = false≢true (ap (λ (k : ℕ). eqb k 1) (rw e at h))
    on false e = false≢true (ap (λ (k : ℕ). eqb k 1) (rw e at h))

pub condition-other : (s : State) (m : Memory) (x : RegisterSet) (v : ℕ) (r : Result) (t : State) (n : Memory) → Happens s m (condition x v) r t n → r.number ≡ 1 → ⊥
unfolding happens
condition-other s m x v r t n p h = on (right_size m) refl (possible_state s) refl
  where
    on : (a : Bool) → right_size m ≡ a → (b : Bool) → possible_state s ≡ b → ⊥
    on true l true q = reported-other x v (box_of s m) (sym (ap (λ (y : Happened). y.result.number) (p.possible l q).1) ∙ h)
    on true l false q = false≢true (ap (λ (k : ℕ). eqb k 1) (sym (ap (λ (y : Result). y.number) (p.impossible l q).1) ∙ h))
    on false l b q = false≢true (ap (λ (k : ℕ). eqb k 1) (sym (ap (λ (y : Result). y.number) (p.wrong l).1) ∙ h))

-- an event's result, its state's meaning, and that both states could be the box's or neither
pub happens-unique : (s : State) (m : Memory) (e : Event) (r r' : Result) (t t' : State) (n n' : Memory) → Happens s m e r t n → Happens s m e r' t' n'
    → (r ≡ r') × (box_of t n ≡ box_of t' n') × (possible_state t ≡ possible_state t')
happens-unique s m e r r' t t' n n' p q = on (rightly m e) refl (admitted s e) refl
  where
    on : (a : Bool) → rightly m e ≡ a → (b : Bool) → admitted s e ≡ b → (r ≡ r') × (box_of t n ≡ box_of t' n') × (possible_state t ≡ possible_state t')
    on true l true h =
        let same = (p.possible l h).1 ∙ sym (q.possible l h).1 in
        (ap (λ (x : Happened). x.result) same, ap (λ (x : Happened). x.box) same, (p.possible l h).0 ∙ sym (q.possible l h).0)
    on true l false h =
        let x = p.impossible l h in
        let y = q.impossible l h in
        let same = x.0 ∙ sym y.0 in
        (x.1 ∙ sym y.1, ap₂ box_of same (x.2 ∙ sym y.2), ap possible_state same)
    on false l b h =
        let x = p.wrong l in
        let y = q.wrong l in
        let same = x.0 ∙ sym y.0 in
        (x.1 ∙ sym y.1, ap₂ box_of same (x.2 ∙ sym y.2), ap possible_state same)

pub started-unique : (t t' : State) → Started t → Started t' → (m : Memory) → box_of t m ≡ box_of t' m
started-unique t t' p q m = p.first m ∙ sym (q.first m)

-- the arrays of a state are as long as the code makes them
pub record Arrays (s : State) : Type 0 where
  pub line : length s.line ≡ most_line
  pub answer : length s.answer ≡ most_answer
  pub errors : length s.status.errors ≡ most

front_long : (l : List ℕ) (n k : ℕ) → length l ≡ k → n ≤ k → length (take n l) ≡ n
front_long l n k e h = length-take-le n l (omega (arith, e, h))

-- two states that could be the box's and mean the same have the same stored lengths, so that they differ only beyond them
pub lengths-unique : (s t : State) (m n : Memory) → Arrays s → Arrays t → possible_state s ≡ true → possible_state t ≡ true → box_of s m ≡ box_of t n
    → (s.filled ≡ t.filled) × (s.waiting ≡ t.waiting) × (s.status.queued ≡ t.status.queued)
lengths-unique s t m n a b p q e =
    let w = short-from s p in
    let x = short-from t q in (
      sym (front_long s.line s.filled most_line a.line w.filled)
          ∙ ap (λ (y : Box). length y.core.line) e
          ∙ front_long t.line t.filled most_line b.line x.filled,
      sym (front_long s.answer s.waiting most_answer a.answer w.waiting)
          ∙ ap (λ (y : Box). length y.core.answer) e
          ∙ front_long t.answer t.waiting most_answer b.answer x.waiting,
      sym (front_long s.status.errors s.status.queued most a.errors w.queued)
          ∙ ap (λ (y : Box). length y.trouble.queue) e
          ∙ front_long t.status.errors t.status.queued most b.errors x.queued,
    )
