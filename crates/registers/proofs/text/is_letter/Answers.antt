use Rattle.registers.specs.Text.{letter, small}
use Rattle.registers.proofs.text.is_letter.Goals as goal

pub returns : goal.returns
unfolding letter small
returns c = c.is_ascii_alphabetic.ensures.value
