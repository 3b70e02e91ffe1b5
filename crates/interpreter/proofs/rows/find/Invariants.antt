-- The search over the rows and, in one, over its nodes. Outer invariant: rows/Search's `Seeking`, no row before this one fits. Inner
-- invariant: `Trying`, the nodes before this one are taken or left out.
use Rattle.interpreter.proofs.rows.Search.{Seeking, Trying}
use Rattle.interpreter.proofs.rows.find.Given as goal

abbrev pub invariant-loop-passed : goal.invariant-loop-passed
invariant-loop-passed l = Trying l.star l.asked l.names l.n l.row l.at l.passed

abbrev pub invariant-rows : goal.invariant-rows
invariant-rows l = Seeking l.star l.names l.asked l.row
