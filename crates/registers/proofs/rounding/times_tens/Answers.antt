use Prim.Native.Nat.{◌*◌}
use mathlib.Core.Path.{ap, ◌∙◌}
use native.Mathlib.Omega.{arith}
use Rattle.registers.proofs.rounding.Tens.{raise-turn, raise-beyond}
use Rattle.registers.proofs.rounding.times_tens.Goals as goal

pub returns-then-y-ge-BEYOND : goal.returns-then-y-ge-BEYOND
returns-then-y-ge-BEYOND c = raise-beyond c.args.x _ c.args.n c.loop-turn.invariant c.if-y-ge-BEYOND.true (omega arith)

pub loop-turn-preserved : goal.loop-turn-preserved
loop-turn-preserved c = ap (λ y. y * 10) c.loop-turn.invariant ∙ raise-turn c.args.x _
