-- label/Laws' `Reading`: the bytes taken so far and what is left mean what the whole string means.
use Rattle.registers.proofs.label.Laws.{Reading}
use Rattle.registers.proofs.label.read.Given as goal

abbrev pub invariant-loop-byte : goal.invariant-loop-byte
invariant-loop-byte l = Reading l.rest l.quote l.bytes l.count l.allowed l.pending l.good l.byte-index
