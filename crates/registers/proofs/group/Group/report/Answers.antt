use mathlib.Core.Path.{refl}
use Rattle.registers.specs.Group.{condition_is, events_after, rises, falls}
use Rattle.registers.proofs.group.Group.report.Goals as goal

pub returns : goal.returns
unfolding condition_is events_after rises falls
returns c = refl
