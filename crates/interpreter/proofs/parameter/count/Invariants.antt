-- Invariant: parameter/Counting's `Counting`, how many parts have begun before this byte, whether the last has a visible byte, and which
-- quote is open.
use Rattle.interpreter.specs.CutsParts.{open_mark}
use Rattle.interpreter.proofs.parameter.Counting.{Counting}
use Rattle.interpreter.proofs.parameter.count.Given as goal

abbrev pub invariant-loop-b : goal.invariant-loop-b
invariant-loop-b l = Counting l.text l.parts l.visible (open_mark l.mark) l.b-index
