-- Demand 1, of the public functions: the number that an event is refused by is the one of 01's table, and it leaves what the table
-- lists. By cases over the events for numbers 1 to 3; number 5 is tested first, then number 4, and none of the others is 4 or more.
use mathlib.Core.Path.{◌≡◌, refl, sym, ◌∙◌, ap}
use mathlib.Core.Bool.{Bool, true, false, not, false≢true}
use Prim.Native.Nat.{ℕ, ◌≤◌}
use native.Mathlib.Omega.{arith}
use lib.Dec.{leb, ltb}
use lib.ListN.{length}
use borrow.Author.Tests.{le-leb, lt-leb, ltb-true, ltb-false}
use Rattle.registers.specs.Text.{if◌then◌otherwise◌, empty}
use Rattle.registers.specs.Group.{widest_group}
use Rattle.interpreter.specs.Box.{Memory, Box}
use Rattle.interpreter.specs.Events.{Event, started, received, take, condition, look, altered, mislent, Result, Happened, taken, reported, happens}
use Rattle.interpreter.specs.State.{box_of, admitted, rightly}
use Rattle.interpreter.specs.Demand1.{number_for, refusal_of, leaves, Refuses, EventRefusals}
use Rattle.interpreter.proofs.Choices.{if-elim, if₂, if-opposite}

-- ---- numbers 1 to 3

-- what happened bears number n, and is what the table lists for it
abbrev Listed : Box → Event → Happened → ℕ → Type 0
Listed b e h n = (h.result.number ≡ n) × ((n ≡ 0 → ⊥) → h ≡ leaves b e n)

none : (b : Box) (e : Event) (h : Happened) → h.result.number ≡ 0 → Listed b e h 0
none b e h q = (q, λ z. absurd (z refl))

leb-not : (m n : ℕ) → leb m n ≡ not (ltb n m)
leb-not m n = go (ltb n m) refl
  where
    go : (t : Bool) → ltb n m ≡ t → leb m n ≡ not t
    go true q = lt-leb m n (ltb-true n m q)
    go false q = le-leb m n (ltb-false n m q)

listed : (b : Box) (e : Event) → Listed b e (happens b e) (number_for b e)
unfolding happens number_for taken reported if◌then◌otherwise◌
listed b started = none b started _ refl
listed b (received xs) = none b (received xs) _ refl
listed b (take buffer) =
    let a = b.core.answer in
    let e = take buffer in
    if₂ (Listed b e) (empty a) (refl, λ _. refl)
    (if-opposite (Listed b e) (leb (length a) (length buffer)) (ltb (length buffer) (length a)) (leb-not (length a) (length buffer))
    (none b e _ refl) (refl, λ _. refl))
listed b (condition x n) =
    if-opposite (Listed b (condition x n)) (leb n widest_group) (ltb widest_group n) (leb-not n widest_group)
    (none b (condition x n) _ refl) (refl, λ _. refl)
listed b look = none b look _ refl
listed b (altered i x) = none b (altered i x) _ refl
listed b (mislent buffer) = (refl, λ _. refl)

-- ---- number 5 first, then number 4

below-four : (m : Memory) (b : Box) (e : Event) → rightly m e ≡ true → 4 ≤ number_for b e → ⊥
unfolding number_for
below-four m b started q z = omega (arith, z)
below-four m b (received xs) q z = omega (arith, z)
below-four m b (take buffer) q z =
    if-elim (λ n. 4 ≤ n → ⊥) (empty b.core.answer) (λ _ z. omega (arith, z)) (λ _.
    if-elim (λ n. 4 ≤ n → ⊥) (ltb (length buffer) (length b.core.answer)) (λ _ z. omega (arith, z)) (λ _ z. omega (arith, z))) z
below-four m b (condition x n) q z = if-elim (λ n. 4 ≤ n → ⊥) (ltb widest_group n) (λ _ z. omega (arith, z)) (λ _ z. omega (arith, z)) z
below-four m b look q z = omega (arith, z)
below-four m b (altered i x) q z = omega (arith, z)
below-four m b (mislent buffer) q z = false≢true q

pub event-refusals : EventRefusals
unfolding refusal_of if◌then◌otherwise◌
event-refusals s t m k e r h = go (rightly m e) refl (admitted s e) refl
  where
    go : (o : Bool) → rightly m e ≡ o → (p : Bool) → admitted s e ≡ p → Refuses s m e r t k
    go true l true q =
        let o = (h.possible l q).1 in
        let w = listed (box_of s m) e in
        let n : refusal_of s m e ≡ number_for (box_of s m) e = rw (l, q) refl in
        record {
          number = ap (λ (x : Happened). x.result.number) o ∙ w.0 ∙ sym n;
          left = λ some. rw n (o ∙ w.1 (λ z. some (n ∙ z)));
          untouched = λ z. absurd (below-four m (box_of s m) e l (rw n at z));
        }
    go true l false q =
        let o = h.impossible l q in
        let n : refusal_of s m e ≡ 4 = rw (l, q) refl in
        record {
          number = ap (λ (x : Result). x.number) o.1 ∙ sym n;
          left = λ _. rw (n, o.0, o.1, o.2);
          untouched = λ _. (o.0, o.2);
        }
    go false l p q =
        let o = h.wrong l in
        let n : refusal_of s m e ≡ 5 = rw l refl in
        record {
          number = ap (λ (x : Result). x.number) o.1 ∙ sym n;
          left = λ _. rw (n, o.0, o.1, o.2);
          untouched = λ _. (o.0, o.2);
        }
