use Rattle.registers.specs.Status.{cleared_in}
use Rattle.registers.proofs.status.Status.clear.Goals as goal

pub returns : goal.returns
unfolding cleared_in
returns c = rw c.all_read-self.ensures
