-- A blank line does nothing (line/Newline); any other is run.
use mathlib.Core.Path.{◌≡◌, refl, sym}
use mathlib.Core.Bool.{Bool, true, false, not}
use native.Mathlib.Omega.{arith}
use lib.Dec.{eqb}
use lib.ListN.{length, take}
use borrow.Author.Tests.{eqb-true}
use Rattle.registers.proofs.Tests.{and_both}
use Rattle.interpreter.specs.Box.{memory}
use Rattle.interpreter.proofs.line.Newline.{blank, line-blank}
use Rattle.interpreter.proofs.flow.Flow.run_held.Goals as goal

whole : (o : Bool) → not o ≡ true → o ≡ false
whole false e = refl
whole true e = sym e

pub run_line-self-requires : goal.run_line-self-requires
run_line-self-requires c = c.requires

pub returns-then-self-white_end : goal.returns-then-self-white_end
returns-then-self-white_end c =
    let a = c.args in
    let f = a.self.now in
    let held = take f.filled a.line.now in
    let end = c.white_end.result in
    let none = c.requires in
    let both = and_both (not f.overlong) (eqb end (length held)) c.if-self-white_end.true in
    let box = line-blank f.present held f.overlong (memory a.store.now) (whole f.overlong both.0) (blank held end c.white_end.ensures (eqb-true end (length held) both.1)) in
    (record { queued = f.queue_fits; room = f.answer_fits; box = rw none box }, record { filled = refl; overlong = refl; read = refl; count = refl })

pub returns : goal.returns
returns c = (c.run_line-self.ensures, record { filled = refl; overlong = refl; read = refl; count = refl })
