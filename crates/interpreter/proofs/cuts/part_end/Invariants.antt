-- Invariant: cuts/Search's `OnWay`, from here on the separator is where it is from the start.
use Rattle.interpreter.specs.CutsParts.{open_mark, OnWay}
use Rattle.interpreter.proofs.cuts.part_end.Given as goal

abbrev pub invariant-loop-i : goal.invariant-loop-i
invariant-loop-i l = OnWay l.separator l.text l.at l.i (open_mark l.mark)
