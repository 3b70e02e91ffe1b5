-- Invariant: what is left of the text has the same end as it, trimmed. Measure: its length, which goes down by one at each white byte.
use mathlib.Core.Path.{◌≡◌}
use lib.ListN.{length}
use Rattle.interpreter.specs.Cuts.{trim_end, trim}
use Rattle.interpreter.proofs.unit.trimmed.Given as goal

abbrev pub invariant-loop-rest : goal.invariant-loop-rest
invariant-loop-rest l = trim_end l.rest ≡ trim l.text

abbrev pub decreases-loop-rest : goal.decreases-loop-rest
decreases-loop-rest l = length l.rest
