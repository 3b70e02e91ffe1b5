use Rattle.registers.proofs.rounding.Sides.{Lowering}
use Rattle.registers.proofs.rounding.over_tens.Given as goal

abbrev pub invariant-loop-turn : goal.invariant-loop-turn
invariant-loop-turn l = Lowering l.x l.y l._turn l.exact
