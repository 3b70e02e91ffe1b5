use Rattle.registers.specs.Settings.{possible_settings}
use Rattle.registers.proofs.settings.Settings.possible.Goals as goal

pub returns-then-values_possible : goal.returns-then-values_possible
unfolding possible_settings
returns-then-values_possible c = rw (← c.if-values_possible.ensures) c.possible.ensures

pub returns-else-values_possible : goal.returns-else-values_possible
unfolding possible_settings
returns-else-values_possible c = rw (← c.if-values_possible.ensures) c.if-values_possible.false
