-- Invariant: cuts/Search's `OnWay` with no quote open.
use Rattle.interpreter.specs.CutsParts.{OnWay}
use Rattle.interpreter.proofs.cuts.plain_end.Given as goal

abbrev pub invariant-loop-i : goal.invariant-loop-i
invariant-loop-i l = OnWay l.separator l.text l.at l.i 0
