use Rattle.interpreter.proofs.table.Cells.{start-byte}
use Rattle.interpreter.proofs.table.Table.start_row.Goals as goal

pub returns : goal.returns
returns c = rw c.args.self.now.has_01s_rows (start-byte c.args.mark c.requires)
