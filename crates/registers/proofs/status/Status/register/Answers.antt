-- A case for each register; the definition computes to the field once the case is known, for a set's registers by what `group`
-- promises.
use Rattle.registers.specs.Status.{register_in}
use Rattle.registers.proofs.status.Status.register.Goals as goal

pub returns-in-Ese : goal.returns-in-Ese
unfolding register_in
returns-in-Ese c = rw c.in-Ese.is

pub returns-in-Sre : goal.returns-in-Sre
unfolding register_in
returns-in-Sre c = rw c.in-Sre.is

pub returns-in-Enable : goal.returns-in-Enable
unfolding register_in
returns-in-Enable c = rw (c.in-Enable.is, c.group.ensures)

pub returns-in-Ntr : goal.returns-in-Ntr
unfolding register_in
returns-in-Ntr c = rw (c.in-Ntr.is, c.group-in-Ntr.ensures)

pub returns-in-Ptr : goal.returns-in-Ptr
unfolding register_in
returns-in-Ptr c = rw (c.in-Ptr.is, c.group-in-Ptr.ensures)
