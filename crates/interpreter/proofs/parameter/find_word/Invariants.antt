-- The search over the words that may be given: parameter/Words' `Searching`, what is found among those that are not tried yet is what is
-- found among all.
use Rattle.interpreter.proofs.parameter.Words.{Searching}
use Rattle.interpreter.proofs.parameter.find_word.Given as goal

abbrev pub invariant-loop-n : goal.invariant-loop-n
invariant-loop-n l = Searching l.words.first l.words.count l.text l.n
