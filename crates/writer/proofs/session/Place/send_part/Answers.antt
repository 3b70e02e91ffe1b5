-- By whether the line has ended.
use Rattle.registers.specs.Text.{if◌then◌otherwise◌}
use Rattle.writer.specs.Marking.{place_sent}
use Rattle.writer.proofs.session.Place.send_part.Goals as goal

pub returns-then-ended : goal.returns-then-ended
unfolding place_sent if◌then◌otherwise◌
returns-then-ended c = rw c.if-ended.true

pub returns-else-ended : goal.returns-else-ended
unfolding place_sent if◌then◌otherwise◌
returns-else-ended c = rw c.if-ended.false
