use Rattle.registers.specs.Text.{digit}
use Rattle.registers.proofs.text.is_digit.Goals as goal

pub returns : goal.returns
unfolding digit
returns c = c.is_ascii_digit.ensures.value
