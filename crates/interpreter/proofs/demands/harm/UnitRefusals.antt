-- Demand 1, of a unit: each check of the chain refuses only by numbers that a unit can raise, and so does the whole chain; a refused
-- unit raises its number, drops the units after it, and with -430 the answer.
use mathlib.Core.Path.{refl}
use mathlib.Core.List.{List}
use Prim.Native.Nat.{ℕ}
use borrow.Author.Tests.{eq-eqb, ne_eqb}
use Rattle.registers.specs.Text.{Text, if◌then◌otherwise◌}
use Rattle.registers.specs.Queue.{may_be_queued, queueable}
use Rattle.interpreter.specs.Box.{Core, Box}
use Rattle.interpreter.specs.Unit.{read_unit}
use Rattle.interpreter.specs.Reply.{reply}
use Rattle.interpreter.specs.Perform.{set_up, perform}
use Rattle.interpreter.specs.Line.{refuse, attempt, run_units}
use Rattle.interpreter.specs.Demand1.{UnitRefusals}
use Rattle.interpreter.specs.declared.deed.Saving as savings
use Rattle.interpreter.specs.declared.deed.Saving.TheVariants.{Save, Recall}
use Rattle.interpreter.specs.declared.deed.Deed.{Deed}
use Rattle.interpreter.specs.declared.deed.Deed.TheVariants.{Change, Complete, Clear, Query, Inquire, Saving}
use Rattle.interpreter.proofs.Checks.{Holds, Any, passes, hold-bind, hold-check, holds-from, at-refused}
use Rattle.interpreter.proofs.unit.Allowed.{read_known}
use Rattle.interpreter.proofs.perform.Permitted.{hold-permitted}

reply-known : (t : Text) (c : Core) → Holds Any (reply t c)
unfolding reply may_be_queued queueable
reply-known t c = hold-check Any 430 _ _ refl (λ _. passes tt)

setup-known : (x : savings.Saving) (p : ℕ) (c : Core) → Holds Any (set_up x p c)
unfolding set_up may_be_queued queueable
setup-known Save p c = passes tt
setup-known Recall p c = hold-check Any 314 _ _ refl (λ _. passes tt)

perform-known : (d : Deed) (t : Text) (b : Box) → Holds Any (perform d t b)
unfolding perform
perform-known (Change x) t b = passes tt
perform-known Complete t b = passes tt
perform-known Clear t b = passes tt
perform-known (Query q) t b = hold-bind Any Any _ _ (reply-known _ _) (λ c _. passes tt)
perform-known (Inquire q) t b = hold-bind Any Any _ _ (reply-known _ _) (λ c _. passes tt)
perform-known (Saving x p) t b = hold-bind Any Any _ _ (setup-known x p b.core) (λ c _. passes tt)

pub attempt-known : (path : List Text) (b : Box) (u : Text) → Holds Any (attempt path b u)
unfolding attempt
attempt-known path b u =
    let s = b.core.settings in
    hold-bind Any Any _ _ (holds-from (read_unit s path u) (λ r _. tt) (λ n e. read_known s path u e)) (λ r _.
    hold-permitted r.deed b.core Any _ (λ _.
    hold-bind Any Any _ _ (perform-known r.deed r.text b) (λ c _. passes tt)))

pub unit-refusals : UnitRefusals
unfolding run_units refuse if◌then◌otherwise◌
unit-refusals u us path b n e =
    record {
      of_unit = at-refused (attempt-known path b u) e;
      raises = λ other. rw (e, ne_eqb n 430 other);
      drops = λ z. rw (e, eq-eqb n 430 z);
    }
