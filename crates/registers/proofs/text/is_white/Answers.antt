use mathlib.Core.Path.{refl}
use Rattle.registers.specs.Text.{white}
use Rattle.registers.proofs.text.is_white.Goals as goal

pub returns : goal.returns
unfolding white
returns c = refl
