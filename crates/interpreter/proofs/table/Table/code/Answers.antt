use borrow.Author.Rules.{rules}
use Rattle.interpreter.proofs.table.Cells.{code-byte}
use Rattle.interpreter.proofs.table.Table.code.Goals as goal

pub returns : goal.returns
returns c = rw c.args.self.now.has_01s_rows (code-byte c.args.b (search rules))
