-- What a caller may know of a take from its promise alone: that the answer lies within the lent buffer, and how much room is enough.
use mathlib.Core.Path.{◌≡◌, refl, ap}
use mathlib.Core.Bool.{Bool, true, false}
use Prim.Native.Nat.{◌≤◌}
use native.Mathlib.Omega.{arith}
use lib.Dec.{leb}
use lib.ListN.{length, length-take}
use borrow.Author.Tests.{leb-true, leb-false}
use Rattle.registers.specs.Text.{Text, empty}
use Rattle.interpreter.specs.Box.{Memory, right_size, most_answer}
use Rattle.interpreter.specs.Events.{take, Result, Happened, happens, taken}
use Rattle.interpreter.specs.State.{box_of, possible_state, Happens}
use Rattle.interpreter.specs.declared.state.State.{State}
use Rattle.interpreter.proofs.Choices.{if-elim}
use Rattle.interpreter.proofs.state.Records.{short-from}

-- both laws, of a result
abbrev Fits : Text → Result → Type 0
Fits buffer r = (r.number ≡ 0 → r.value ≤ length buffer) × (most_answer ≤ length buffer → r.number ≡ 1 → ⊥)

module _ (s t : State) (m n : Memory) (buffer : Text) (r : Result) (w : Happens s m (take buffer) r t n) where
  fits : (p : Bool) → possible_state s ≡ p → right_size m ≡ true → Fits buffer r
  unfolding happens taken
  fits true p size =
      let a = (box_of s m).core.answer in
      let most = (short-from s p).waiting in
      let short : length a ≤ most_answer = rw length-take (omega arith) in
      rw (ap (λ (h : Happened). h.result) (w.possible size p).1)
      (if-elim (λ (h : Happened). Fits buffer h.result) (empty a) (λ _. (λ z. omega (arith, z), λ _ z. omega (arith, z))) (λ _.
      if-elim (λ (h : Happened). Fits buffer h.result) (leb (length a) (length buffer))
      (λ e. (λ _. leb-true (length a) (length buffer) e, λ _ z. omega (arith, z)))
      (λ e. let h = leb-false (length a) (length buffer) e in (λ z. omega (arith, z), λ k _. omega (arith, h, k, short)))))
  fits false p size = rw (w.impossible size p).1 (λ z. omega (arith, z), λ _ z. omega (arith, z))

  sized : (q : Bool) → right_size m ≡ q → Fits buffer r
  sized true size = fits (possible_state s) refl size
  sized false size = rw (w.wrong size).1 (λ z. omega (arith, z), λ _ z. omega (arith, z))

  -- with number 0 the answer lies within the buffer
  pub answer-within : r.number ≡ 0 → r.value ≤ length buffer
  answer-within = (sized (right_size m) refl).0

  -- a buffer with room for the longest answer is never too short
  pub never-short : most_answer ≤ length buffer → r.number ≡ 1 → ⊥
  never-short = (sized (right_size m) refl).1
