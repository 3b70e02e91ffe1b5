use native.Mathlib.Omega.{arith}
use Rattle.interpreter.proofs.unit.Bytes.{all-allowed, more-allowed}
use Rattle.interpreter.proofs.unit.all_allowed.Goals as goal

pub loop-b-preserved : goal.loop-b-preserved
loop-b-preserved c = more-allowed c.args.unit.now c.loop-b.b-index c.loop-b.all (omega arith) c.loop-b.invariant

pub returns : goal.returns
returns c = all-allowed c.args.unit.now c.loop-b.b-index c.loop-b.all (omega arith) c.loop-b.invariant
