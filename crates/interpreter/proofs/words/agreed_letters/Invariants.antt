-- The walk ends at the word's end, at the first byte that differs, or at the text's end. Invariant: words/Letters' `Agreeing`, the first
-- n bytes are the word's letters and the rest is to be compared.
use Rattle.interpreter.proofs.words.Letters.{Agreeing}
use Rattle.interpreter.proofs.words.agreed_letters.Given as goal

abbrev pub invariant-loop-n : goal.invariant-loop-n
invariant-loop-n l = Agreeing l.text l.word l.n
