-- What every deed and every error keeps, a unit keeps, and so do a line's units and the whole line: for any property of a box, by the chain
-- of a unit's checks and by induction over the units.
use mathlib.Core.Path.{◌≡◌, refl}
use mathlib.Core.Bool.{true}
use mathlib.Core.List.{List, [], ◌∷◌}
use Prim.Native.Nat.{ℕ}
use lib.Dec.{eqb}
use Rattle.registers.specs.Text.{Text, empty}
use Rattle.registers.specs.Check.{Checked, refused, passed}
use Rattle.registers.specs.Queue.{may_be_queued, queueable}
use Rattle.registers.proofs.Tests.{and_both}
use Rattle.interpreter.specs.Box.{Box, answer_is, raise}
use Rattle.interpreter.specs.Unit.{raisable, Read, read_unit}
use Rattle.interpreter.specs.UnitParts.{Allowed, AllowedText}
use Rattle.interpreter.specs.Perform.{perform}
use Rattle.interpreter.specs.Line.{Obeyed, attempt, refuse, next, run_units, finished, run_line, end_line, at_newline}
use Rattle.interpreter.specs.declared.deed.Deed.{Deed}
use Rattle.interpreter.proofs.Choices.{if-elim}
use Rattle.interpreter.proofs.Checks.{Holds, passes, hold-bind, holds-from}
use Rattle.interpreter.proofs.unit.Allowed.{read-allowed, text-allowed, read_known}
use Rattle.interpreter.proofs.perform.Permitted.{Lets, hold-permitted}

-- what a unit raises may stand in the queue
pub raisable-queueable : (n : ℕ) → raisable n ≡ true → may_be_queued n ≡ true
raisable-queueable n e = (and_both (may_be_queued n) _ e).0

module _ (P : Box → Type 0)
    (performs : (d : Deed) (t : Text) (b : Box) → Allowed b.core.settings d → AllowedText d t → Lets d b.core → P b → Holds P (perform d t b))
    (raises : (n : ℕ) (b : Box) → may_be_queued n ≡ true → P b → P (raise n b))
    (drops : (b : Box) → P b → P (answer_is [] b)) where
  abbrev Keeps : Obeyed → Type 0
  Keeps o = P o.box

  attempt-keeps : (path : List Text) (b : Box) (u : Text) → P b → Holds Keeps (attempt path b u)
  unfolding attempt
  attempt-keeps path b u f =
      let s = b.core.settings in
      hold-bind (λ (r : Read). Allowed s r.deed × AllowedText r.deed r.text) Keeps _ _
      (holds-from (read_unit s path u) (λ r e. (read-allowed s path u e, text-allowed s path u e)) (λ n e. read_known s path u e)) (λ r a.
      hold-permitted r.deed b.core Keeps _ (λ l.
      hold-bind P Keeps _ _ (performs r.deed r.text b a.0 a.1 l f) (λ c g. passes g)))

  refuse-keeps : (n : ℕ) (b : Box) → may_be_queued n ≡ true → P b → P (refuse n b)
  unfolding refuse
  refuse-keeps n b e f = raises n _ e (if-elim P (eqb n 430) (λ _. drops b f) (λ _. f))

  next-keeps : (go : List Text → Box → Box) → ((p : List Text) (c : Box) → P c → P (go p c))
      → (b : Box) → P b → (r : Checked Obeyed) → Holds Keeps r → P (next go b r)
  next-keeps go ih b f (refused n) h = refuse-keeps n b (raisable-queueable n h.of) f
  next-keeps go ih b f (passed o) h = ih o.path o.box h.of

  pub units-keep : (us path : List Text) (b : Box) → P b → P (run_units us path b)
  unfolding run_units
  units-keep [] path b f = f
  units-keep (u ∷ us) path b f =
      next-keeps (λ p c. run_units us p c) (λ p c g. units-keep us p c g) b f (attempt path b u) (attempt-keeps path b u f)

  -- where an answer is kept too, whatever it is
  module _ (answers : (a : Text) (b : Box) → P b → P (answer_is a b)) where
    finished-keeps : (b : Box) → P b → P (finished b)
    unfolding finished
    finished-keeps b f = if-elim P (empty b.core.answer) (λ _. f) (λ _. answers _ b f)

    pub line-keeps : (b : Box) → P (at_newline b) → P (end_line b)
    unfolding end_line run_line may_be_queued queueable
    line-keeps b f =
        if-elim P b.core.overlong (λ _. raises 363 (at_newline b) refl f) (λ _. finished-keeps _ (units-keep _ _ (at_newline b) f))
