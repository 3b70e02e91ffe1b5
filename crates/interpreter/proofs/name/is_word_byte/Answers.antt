use Rattle.registers.specs.Text.{word_byte}
use Rattle.interpreter.proofs.name.is_word_byte.Goals as goal

pub returns : goal.returns
unfolding word_byte
returns c = rw (c.is_letter.ensures, c.is_digit.ensures)
