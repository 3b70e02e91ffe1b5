-- Demand 1, of a newline: a line that has units leaves what those before the first refused one leave, and then that one's error. By
-- induction over the units: a unit that is obeyed goes on with the rest at the box that it left.
use mathlib.Core.Path.{◌≡◌, refl, sym, ◌∙◌, ap}
use mathlib.Core.Bool.{true, false≢true}
use mathlib.Core.List.{List, [], ◌∷◌}
use Prim.Native.Nat.{ℕ}
use Prim.Native.Char.{code}
use lib.Dec.{eqb}
use borrow.Author.Tests.{ne_eqb}
use Rattle.registers.specs.Text.{Text, if◌then◌otherwise◌, empty}
use Rattle.registers.specs.Check.{Checked, refused, passed}
use Rattle.registers.specs.Queue.{may_be_queued, queueable}
use Rattle.interpreter.specs.Cuts.{cut_open}
use Rattle.interpreter.specs.Box.{Box}
use Rattle.interpreter.specs.Unit.{raisable}
use Rattle.interpreter.specs.Line.{at_newline, Obeyed, refuse, attempt, next, run_units, interrupted, finished, units_of, run_line, end_line, byte, piece}
use Rattle.interpreter.specs.Events.{happens}
use Rattle.interpreter.specs.Demand3.{obeyed_next, obeyed, refusal_next, refusal}
use Rattle.interpreter.specs.Demand1.{LineRefusals}
use Rattle.interpreter.proofs.Checks.{at-refused}
use Rattle.interpreter.proofs.Choices.{if-elim}
use Rattle.interpreter.proofs.demands.harm.UnitRefusals.{attempt-known}

-- no unit is refused by 0
not-zero : (n : ℕ) → raisable n ≡ true → n ≡ 0 → ⊥
unfolding may_be_queued queueable
not-zero n e z = false≢true (ap raisable (sym z) ∙ e)

abbrev Stopped : ℕ → Box → Box
Stopped n b = if eqb n 0 then b otherwise refuse n b

module _ (u : Text) (us path : List Text) (b : Box) where
  -- a line's first unit, and the rest of the line
  next-leaves : ((p : List Text) (c : Box) → run_units us p c ≡ Stopped (refusal us p c) (run_units (obeyed us p c) p c))
      → (r : Checked Obeyed) → attempt path b u ≡ r
      → next (λ p c. run_units us p c) b r
      ≡ Stopped (refusal_next (λ p c. refusal us p c) r) (run_units (obeyed_next (λ p c. obeyed us p c) u r) path b)
  unfolding run_units if◌then◌otherwise◌
  next-leaves ih (refused n) e = rw (ne_eqb n 0 (not-zero n (at-refused (attempt-known path b u) e)))
  next-leaves ih (passed o) e = rw e (ih o.path o.box)

  next-raisable : ((p : List Text) (c : Box) → (refusal us p c ≡ 0 → ⊥) → raisable (refusal us p c) ≡ true)
      → (r : Checked Obeyed) → attempt path b u ≡ r → let n = refusal_next (λ p c. refusal us p c) r in (n ≡ 0 → ⊥) → raisable n ≡ true
  next-raisable ih (refused n) e h = at-refused (attempt-known path b u) e
  next-raisable ih (passed o) e h = ih o.path o.box h

units-leave : (us path : List Text) (b : Box) → run_units us path b ≡ Stopped (refusal us path b) (run_units (obeyed us path b) path b)
unfolding run_units obeyed refusal if◌then◌otherwise◌
units-leave [] path b = refl
units-leave (u ∷ us) path b = next-leaves u us path b (λ p c. units-leave us p c) (attempt path b u) refl

refusal-raisable : (us path : List Text) (b : Box) → (refusal us path b ≡ 0 → ⊥) → raisable (refusal us path b) ≡ true
unfolding refusal
refusal-raisable [] path b h = absurd (h refl)
refusal-raisable (u ∷ us) path b h = next-raisable u us path b (λ p c k. refusal-raisable us p c k) (attempt path b u) refl h

-- the answer that waited is gone
answer-gone : (b : Box) → empty (at_newline b).core.answer ≡ true
unfolding interrupted
answer-gone b = if-elim (λ (c : Box). empty c.core.answer ≡ true) (empty b.core.answer) (λ e. e) (λ _. refl)

pub line-refusals : LineRefusals
unfolding happens piece byte end_line run_line interrupted units_of finished run_units if◌then◌otherwise◌
line-refusals b =
    let c = at_newline b in
    record {
      overlong = λ o. rw o;
      blank = λ o w. rw (o, w, answer-gone b);
      units = λ o w. rw (o, w) (ap finished (units-leave (cut_open (code ";") 0 b.core.line) [] c));
      of_unit = refusal-raisable (cut_open (code ";") 0 b.core.line) [] c;
    }
