-- The loop over what was read. Invariant: proofs/Hearing's `Hearing`, all but the rest was heard in whole lines. Measure: the bytes
-- left; each call of the chunk server reads at least one, since the output has room for an answer (`shorter`).
use lib.ListN.{length}
use Rattle.interpreter.specs.Box.{memory}
use Rattle.bench24.proofs.Hearing.{Hearing}
use Rattle.bench24.proofs.Bench.serve_all.Given as goal

abbrev pub invariant-loop-rest : goal.invariant-loop-rest
invariant-loop-rest g l = Hearing l.initial.self.state (memory l.initial.self.store) l.input l.self.state (memory l.self.store) l.rest

abbrev pub decreases-loop-rest : goal.decreases-loop-rest
decreases-loop-rest g l = length l.rest
