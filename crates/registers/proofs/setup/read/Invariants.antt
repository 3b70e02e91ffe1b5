-- Invariant: the values below `row` are those that the bytes say, and the others as at *RST (`Reading`).
use Rattle.registers.proofs.setup.Blocks.{Reading}
use Rattle.registers.proofs.setup.read.Given as goal

abbrev pub invariant-loop-row : goal.invariant-loop-row
invariant-loop-row l = Reading l.body l.settings.values l.row
