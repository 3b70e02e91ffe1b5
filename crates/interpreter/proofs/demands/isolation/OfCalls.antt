-- Calls of the public functions are histories (demands/calls), so that what is isolated there is isolated in calls.
use mathlib.Core.Path.{subst₂}
use Rattle.interpreter.specs.Isolation.{Agree, IsolationOfCalls}
use Rattle.interpreter.proofs.demands.calls.OfCalls.{box-is}
use Rattle.interpreter.proofs.demands.isolation.Histories.{isolation}

pub isolation-of-calls : IsolationOfCalls
isolation-of-calls m m' g g' h h' a r r' k k' s s' t t' n n' rs rs' first first' calls calls' =
    subst₂ Agree (box-is s t m n h rs first calls) (box-is s' t' m' n' h' rs' first' calls') (isolation m m' g g' h h' a r r' k k').left
