use Rattle.interpreter.proofs.name.Laws.{Spelled}
use Rattle.interpreter.proofs.name.read_stem.Given as goal

abbrev pub invariant-loop-i : goal.invariant-loop-i
invariant-loop-i l = Spelled l.text l.key l.i
