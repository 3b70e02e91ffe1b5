-- The loop over a chunk's lines. Invariant: server/Laws' `Serving`, the service as it stands comes to the same end as the chunk's from
-- its beginning. Measure: the bytes of the input that are not read yet.
use mathlib.Core.List.{[]}
use Prim.Native.Nat.{◌-◌}
use lib.ListN.{length}
use Rattle.interpreter.specs.Box.{memory}
use Rattle.interpreter.specs.FlowParts.{flow_box}
use Rattle.interpreter.specs.Server.{service}
use Rattle.interpreter.proofs.server.Laws.{Serving}
use Rattle.interpreter.proofs.server.lines.Given as goal

abbrev pub invariant-loop-flow : goal.invariant-loop-flow
invariant-loop-flow l = Serving (service (flow_box l.initial.flow l.initial.line l.initial.out (memory l.initial.store)) 0 [] l.initial.output) (length l.initial.output) l.input l.line l.out l.store l.output l.flow l.written

abbrev pub decreases-loop-flow : goal.decreases-loop-flow
decreases-loop-flow l = length l.input - l.flow.read
