use mathlib.Core.Path.{◌≡◌, ◌∙◌}
use lib.ListN.{length}
use native.Mathlib.Omega.{arith}
use Rattle.interpreter.proofs.cuts.Search.{separated, way_on, way-stop, way_end}
use Rattle.interpreter.proofs.cuts.part_end.Goals as goal

pub loop-i-init : goal.loop-i-init
loop-i-init c = c.plain_end-i.ensures

pub returns-then-is_none-b : goal.returns-then-is_none-b
returns-then-is_none-b c = way-stop _ _ _ _ _ c.loop-i.invariant (omega arith) (separated _ _ _ _ c.is_none.ensures ∙ c.if-is_none-b.true)

pub loop-i-preserved : goal.loop-i-preserved
loop-i-preserved c = rw c.quote_next-mark.ensures (way_on _ _ _ _ _ c.loop-i.invariant (omega arith) (separated _ _ _ _ c.is_none.ensures ∙ c.if-is_none-b.false))

pub returns : goal.returns
returns c =
    let w = c.loop-i.invariant.within in
    let e : length c.args.text.now ≡ c.loop-i.i = omega arith in
    (e ∙ (way_end _ _ _ _ _ c.loop-i.invariant (omega arith)).0, omega arith)
