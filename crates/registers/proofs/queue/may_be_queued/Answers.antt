use Rattle.registers.specs.Queue.{may_be_queued, queueable}
use Rattle.registers.proofs.queue.may_be_queued.Goals as goal

pub returns : goal.returns
unfolding may_be_queued queueable
returns c = c.contains.ensures.value
