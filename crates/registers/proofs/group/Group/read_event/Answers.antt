use mathlib.Core.Path.{refl}
use Rattle.registers.specs.Group.{event_read}
use Rattle.registers.proofs.group.Group.read_event.Goals as goal

pub returns : goal.returns
unfolding event_read
returns c = refl
