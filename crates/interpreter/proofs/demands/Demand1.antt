-- Demand 1, proved: the refusals of the public functions, of units and of newlines.
use Rattle.interpreter.specs.Demand1.{Demand1}
use Rattle.interpreter.proofs.demands.harm.FunctionRefusals.{event-refusals}
use Rattle.interpreter.proofs.demands.harm.UnitRefusals.{unit-refusals}
use Rattle.interpreter.proofs.demands.harm.LineRefusals.{line-refusals}

pub demand1 : Demand1
demand1 = record { events = event-refusals; units = unit-refusals; lines = line-refusals }
