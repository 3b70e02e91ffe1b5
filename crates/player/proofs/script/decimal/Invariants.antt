-- The loop over a number's digits. Invariant: script/Laws' `Reading`, the digits left, read after the number so far, spell what the whole text
-- does.
use Rattle.player.proofs.script.Laws.{Reading}
use Rattle.player.proofs.script.decimal.Given as goal

abbrev pub invariant-loop-b : goal.invariant-loop-b
invariant-loop-b l = Reading l.text l.n l.b-index
