use Rattle.registers.specs.Settings.{narrow}
use Rattle.registers.proofs.settings.Settings.is_narrow.Goals as goal

pub returns-then-is_narrow_in : goal.returns-then-is_narrow_in
unfolding narrow
returns-then-is_narrow_in c = rw (c.if-is_narrow_in.true, ← c.if-is_narrow_in.ensures)

pub returns-else-is_narrow_in : goal.returns-else-is_narrow_in
unfolding narrow
returns-else-is_narrow_in c = rw (← c.if-is_narrow_in.ensures) c.is_narrow_in-else-is_narrow_in.ensures
