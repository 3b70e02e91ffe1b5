use mathlib.Core.Path.{ap}
use mathlib.Core.Bool.{not}
use Rattle.registers.specs.Rounding.{switched_on}
use Rattle.registers.proofs.rounding.Held.{held-zero}
use Rattle.registers.proofs.rounding.switches_on.Goals as goal

pub returns : goal.returns
unfolding switched_on
returns c = ap not (held-zero c.args.d c.size_of-sized.result (rw c.from.ensures at c.size_of-sized.ensures))
