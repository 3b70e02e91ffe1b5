-- The loop over a piece. Invariant: session/Feeding's `Feeding`, what is left of the piece leads where all of it does. Measure: the bytes left; a turn
-- reads the first byte of a line, what is sent up to its newline, or a byte at least of what is recorded.
use lib.ListN.{length}
use Rattle.writer.proofs.session.Feeding.{Feeding}
use Rattle.writer.proofs.session.feed_all.Given as goal

abbrev pub invariant-loop-rest : goal.invariant-loop-rest
invariant-loop-rest l = Feeding l.initial.marker l.initial.store l.initial.room l.bytes l.store l.room l.marker l.rest

abbrev pub decreases-loop-rest : goal.decreases-loop-rest
decreases-loop-rest l = length l.rest
