-- Invariant: the bytes read so far are fed (flow/Laws' `Feeding`). Measure: the bytes that are not read yet; each line has at least one.
use Prim.Native.Nat.{◌-◌}
use lib.ListN.{length}
use Rattle.interpreter.proofs.flow.Laws.{Feeding}
use Rattle.interpreter.proofs.flow.Flow.feed.Given as goal

abbrev pub invariant-loop-self : goal.invariant-loop-self
invariant-loop-self l = Feeding l.initial.self l.initial.line l.initial.out l.initial.store l.bytes l.line l.out l.store l.self

abbrev pub decreases-loop-self : goal.decreases-loop-self
decreases-loop-self l = length l.bytes - l.self.read
