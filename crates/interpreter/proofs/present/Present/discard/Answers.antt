-- Where no answer waits nothing is changed; otherwise -410 is raised and the answer is gone (present/Laws).
use mathlib.Core.Path.{◌≡◌, refl}
use lib.ListN.{length}
use borrow.Author.Rules.{rules}
use Rattle.registers.specs.Queue.{most}
use Rattle.registers.specs.declared.error.Error.TheVariants.{QueryInterrupted}
use Rattle.interpreter.proofs.present.Laws.{raised-short, none-waits, one-waits}
use Rattle.interpreter.proofs.present.Present.discard.Goals as goal

pub returns-then-self-eq0 : goal.returns-then-self-eq0
returns-then-self-eq0 c =
    let p = c.args.self in
    let none = c.if-self-eq0.true in
    record { queued = λ h. h; gone = none; box = λ out m _. none-waits p out m none }

pub returns : goal.returns
returns c =
    let p = c.args.self in
    let long : length p.status.errors ≡ most = search rules in
    let raised = c.raise-left.ensures in record {
      queued = λ h. rw raised (raised-short QueryInterrupted p long h);
      gone = refl;
      box = λ out m room. rw raised (one-waits p out m long room c.if-self-eq0.false);
    }
