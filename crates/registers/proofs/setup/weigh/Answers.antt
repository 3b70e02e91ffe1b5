use native.Mathlib.Omega.{arith}
use Rattle.registers.proofs.setup.Weighing.{weigh-on, weigh-end}
use Rattle.registers.proofs.setup.weigh.Goals as goal

pub loop-i-preserved : goal.loop-i-preserved
loop-i-preserved c =
    let byte = c.type_inv.text c.loop-i.i in
    weigh-on _ c.loop-i.sum c.loop-i.i c.from.result c.loop-i.invariant (omega arith) c.requires c.from.ensures (omega arith)

pub returns : goal.returns
returns c = weigh-end _ c.loop-i.sum c.loop-i.i 0 c.loop-i.invariant (omega arith)
