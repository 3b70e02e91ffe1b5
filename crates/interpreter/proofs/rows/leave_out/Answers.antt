use borrow.Author.Tests.{lt-ltb, le-ltb}
use Rattle.registers.specs.Text.{if◌then◌otherwise◌}
use Rattle.interpreter.specs.RowsParts.{left_out}
use Rattle.interpreter.proofs.rows.leave_out.Goals as goal

pub returns-then-node-lt-OPTIONAL : goal.returns-then-node-lt-OPTIONAL
unfolding left_out if◌then◌otherwise◌
returns-then-node-lt-OPTIONAL c = rw (lt-ltb _ _ c.if-node-lt-OPTIONAL.true)

pub returns : goal.returns
unfolding left_out if◌then◌otherwise◌
returns c = rw (le-ltb _ _ c.if-node-lt-OPTIONAL.false)
