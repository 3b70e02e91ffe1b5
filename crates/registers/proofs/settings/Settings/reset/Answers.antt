use mathlib.Core.Path.{refl}
use Rattle.registers.specs.Label.{padded}
use Rattle.registers.specs.Settings.{slots, table, at_reset}
use Rattle.registers.proofs.settings.Settings.reset.Goals as goal

pub returns : goal.returns
unfolding at_reset slots table padded
returns c = refl
