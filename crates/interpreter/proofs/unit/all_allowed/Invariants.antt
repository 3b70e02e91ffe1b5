-- Invariant: the bytes looked at and those that are left are allowed where all are.
use mathlib.Core.Path.{◌≡◌}
use mathlib.Core.Bool.{◌&&◌}
use lib.ListN.{drop}
use Rattle.registers.specs.Text.{every}
use Rattle.interpreter.specs.Unit.{allowed}
use Rattle.interpreter.proofs.unit.all_allowed.Given as goal

abbrev pub invariant-loop-b : goal.invariant-loop-b
invariant-loop-b l = (l.all && every allowed (drop l.b-index l.unit)) ≡ every allowed l.unit
