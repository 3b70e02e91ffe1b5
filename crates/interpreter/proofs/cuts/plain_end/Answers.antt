use mathlib.Core.Path.{◌≡◌, refl}
use lib.ListN.{length}
use native.Mathlib.Omega.{arith}
use borrow.Author.Rules.{rules}
use Rattle.interpreter.proofs.cuts.Search.{way-plain}
use Rattle.interpreter.proofs.cuts.plain_end.Goals as goal

pub loop-i-init : goal.loop-i-init
loop-i-init c = record { within = search rules; is = refl }

pub loop-i-preserved : goal.loop-i-preserved
loop-i-preserved c = way-plain _ _ _ _ c.loop-i.invariant (omega arith) c.if-b-separator.false

pub returns : goal.returns
returns c =
    let w = c.loop-i.invariant.within in
    let e : length c.args.text.now ≡ c.loop-i.i = omega arith in
    rw e c.loop-i.invariant
