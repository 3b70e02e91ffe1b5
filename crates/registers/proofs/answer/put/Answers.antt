use mathlib.Core.Path.{sym}
use lib.Seq.{set_out}
use Rattle.registers.proofs.answer.put.Goals as goal

pub returns-else-at-tail : goal.returns-else-at-tail
returns-else-at-tail c = sym (set_out _ _ _ c.if-at-tail.false)
