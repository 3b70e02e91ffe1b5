use Rattle.interpreter.proofs.table.Cells.{word-byte}
use Rattle.interpreter.proofs.table.Table.word_cell.Goals as goal

pub returns : goal.returns
returns c = rw c.args.self.now.has_01s_rows (word-byte _ _ c.requires.0 c.requires.1)
