use Rattle.registers.specs.Text.{word_byte}
use Rattle.registers.proofs.text.Laws.{OnWay}
use Rattle.interpreter.proofs.name.word_bytes.Given as goal

abbrev pub invariant-loop-i : goal.invariant-loop-i
invariant-loop-i l = OnWay word_byte l.text 0 l.i
