use Rattle.interpreter.proofs.table.Cells.{row-byte}
use Rattle.interpreter.proofs.table.Table.row_cell.Goals as goal

pub returns : goal.returns
returns c = rw c.args.self.now.has_01s_rows (row-byte _ _ c.requires.0 c.requires.1)
