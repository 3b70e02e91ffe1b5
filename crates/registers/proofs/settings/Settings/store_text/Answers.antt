use Rattle.registers.specs.Text.{if◌then◌otherwise◌}
use Rattle.registers.specs.Settings.{text_stored}
use Rattle.registers.proofs.settings.Settings.store_text.Goals as goal

pub returns-then-possible : goal.returns-then-possible
unfolding text_stored if◌then◌otherwise◌
returns-then-possible c = rw (← c.if-possible.ensures)

pub returns-else-possible : goal.returns-else-possible
unfolding text_stored if◌then◌otherwise◌
returns-else-possible c = rw (← c.if-possible.ensures)
