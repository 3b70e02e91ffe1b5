-- Invariant: the rows below `row` are filled, and zeros stand after them (`Filling`). Then the text and the sum.
use Rattle.registers.proofs.setup.Blocks.{Filling}
use Rattle.registers.proofs.setup.block_of.Given as goal

abbrev pub invariant-loop-row : goal.invariant-loop-row
invariant-loop-row l = Filling l.fn.settings l.block l.row
