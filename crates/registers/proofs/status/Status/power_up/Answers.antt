use Rattle.registers.specs.Status.{at_start}
use Rattle.registers.proofs.status.Status.power_up.Goals as goal

pub returns : goal.returns
unfolding at_start
returns c = rw c.power_up-group.ensures
