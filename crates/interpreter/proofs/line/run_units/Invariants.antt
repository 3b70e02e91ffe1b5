-- The loop over a line's units. Invariant: line/Units' `Going`, the units that are left do to the box as it stands what all of them do
-- from the start. Measure: the bytes of the line that are left.
use mathlib.Core.List.{[]}
use Prim.Native.Nat.{◌-◌}
use lib.ListN.{length}
use Rattle.interpreter.specs.Box.{memory}
use Rattle.interpreter.specs.PresentParts.{box_in}
use Rattle.interpreter.proofs.line.Units.{Going}
use Rattle.interpreter.proofs.line.run_units.Given as goal

abbrev pub invariant-loop-path : goal.invariant-loop-path
invariant-loop-path l = Going (box_in l.initial.running.present [] (memory l.initial.store)) l.line l.path l.out l.store l.running l.at

abbrev pub decreases-loop-path : goal.decreases-loop-path
decreases-loop-path l = length l.line - l.at
