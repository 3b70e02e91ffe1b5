use mathlib.Core.Path.{◌≡◌}
use mathlib.Core.Bool.{Bool, true, false}
use Prim.Native.Nat.{ℕ, ◌*◌}
use native.Mathlib.Omega.{arith}
use mir.Val.{bool_byte}
use Rattle.registers.specs.Text.{if◌then◌otherwise◌}
use Rattle.registers.specs.Status.{weight_if}
use Rattle.registers.proofs.status.bit_if.Goals as goal

times : (on : Bool) (weight : ℕ) → bool_byte on * weight ≡ weight_if on weight
unfolding if◌then◌otherwise◌
times true weight = omega arith
times false weight = omega arith

pub returns-clause-value : goal.returns-clause-value
returns-clause-value c = rw c.from.ensures (times c.args.on c.args.weight)
