-- Invariant: the sum so far and the bytes from `i` on make the whole sum (`Weighing`).
use Rattle.registers.proofs.setup.Weighing.{Weighing}
use Rattle.registers.proofs.setup.weigh.Given as goal

abbrev pub invariant-loop-i : goal.invariant-loop-i
invariant-loop-i l = Weighing l.text l.sum l.i
