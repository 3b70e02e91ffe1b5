-- Invariant: rows/Start's `Marking`, going on from the letters so far gives the mark of all names, and they are below 256.
use Rattle.interpreter.proofs.rows.Start.{Marking}
use Rattle.interpreter.proofs.rows.mark.Given as goal

abbrev pub invariant-loop-key : goal.invariant-loop-key
invariant-loop-key l = Marking l.star l.names l.letters l.key-index
