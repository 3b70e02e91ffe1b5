-- Check 9's error drops the answer so far, any other leaves it (present/Laws).
use mathlib.Core.Path.{◌≡◌, refl}
use Prim.Native.Nat.{zero-le}
use native.Mathlib.Omega.{arith}
use lib.ListN.{length, take}
use Rattle.registers.specs.declared.error.Error.TheVariants.{QueryDeadlocked}
use Rattle.registers.proofs.error.Numbers.{number_of-injective}
use Rattle.interpreter.specs.PresentParts.{raised_with}
use Rattle.registers.specs.Queue.{most}
use Rattle.interpreter.proofs.present.Laws.{raised-short, refused-dropped, refused-kept}
use borrow.Author.Rules.{rules}
use Rattle.interpreter.proofs.present.Present.refuse.Goals as goal

pub returns-in-QueryDeadlocked : goal.returns-in-QueryDeadlocked
returns-in-QueryDeadlocked c =
    let a = c.args in
    let p = a.self in
    let long : length p.status.errors ≡ most = search rules in
    let is = c.in-QueryDeadlocked.is in
    let raised = c.raise-left.ensures in record {
      box = λ out m. rw raised (refused-dropped a.error p m long (rw is refl) (take p.answered out) out);
      queued = λ h. rw raised (raised-short a.error p long h);
      room = zero-le;
    }

pub returns-in_default : goal.returns-in_default
unfolding raised_with
returns-in_default c =
    let a = c.args in
    let p = a.self in
    let long : length p.status.errors ≡ most = search rules in
    let raised = c.raise-left.ensures in record {
      box = λ out m. rw raised (refused-kept a.error p m long (λ z. c.in_default.not-QueryDeadlocked (number_of-injective a.error QueryDeadlocked z)) (take p.answered out));
      queued = λ h. rw raised (raised-short a.error p long h);
      room = rw raised (omega arith);
    }
