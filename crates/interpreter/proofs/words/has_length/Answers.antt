use native.Mathlib.Omega.{arith}
use Rattle.interpreter.specs.WordsParts.{form_length}
use mathlib.Core.Path.{sym}
use Rattle.interpreter.proofs.words.has_length.Goals as goal

pub word_cell-short-requires : goal.word_cell-short-requires
word_cell-short-requires c = (c.requires, omega arith)

pub word_cell-long-requires : goal.word_cell-long-requires
word_cell-long-requires c = (c.requires, omega arith)

pub returns : goal.returns
unfolding form_length
returns c = rw (sym c.word_cell-short.ensures, sym c.word_cell-long.ensures)
