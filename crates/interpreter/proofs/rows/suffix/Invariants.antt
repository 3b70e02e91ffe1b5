-- Invariant: from this place on the names have the suffix that all have.
use mathlib.Core.Path.{◌≡◌}
use lib.ListN.{drop}
use Rattle.interpreter.specs.RowsParts.{class_in}
use Rattle.interpreter.proofs.rows.suffix.Given as goal

abbrev pub invariant-loop-key : goal.invariant-loop-key
invariant-loop-key l = class_in (drop l.key-index l.names) ≡ class_in l.names
