-- The loop over the reads. Invariant: since power-up the lines of some bytes were heard (`HeardSince`); what one read gave is heard after
-- that (`since-on`).
use Rattle.interpreter.specs.Box.{memory}
use Rattle.bench24.specs.Heard.{HeardSince}
use Rattle.bench24.proofs.Bench.run.Given as goal

abbrev pub invariant-loop : goal.invariant-loop
invariant-loop g l = HeardSince (memory l.fn.store) l.bench.state (memory l.bench.store)
