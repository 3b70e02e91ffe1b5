use native.Mathlib.Omega.{arith}
use Rattle.std.proofs.lemmas.Int.{ints}
use Rattle.registers.proofs.setup.Blocks.{unshift-is}
use Rattle.registers.proofs.setup.unshift.Goals as goal

pub returns : goal.returns
returns c = grind (arith, ints, unshift-is)
