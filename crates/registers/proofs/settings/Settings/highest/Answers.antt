use borrow.Author.Rules.{rules}
use Rattle.registers.specs.Text.{if◌then◌otherwise◌}
use Rattle.registers.specs.Settings.{highest}
use Rattle.registers.proofs.settings.Laws.{highest-at}
use Rattle.registers.proofs.settings.Settings.highest.Goals as goal

pub returns-then-is_narrow : goal.returns-then-is_narrow
unfolding highest if◌then◌otherwise◌
returns-then-is_narrow c = rw (← c.if-is_narrow.ensures)

pub returns : goal.returns
unfolding highest if◌then◌otherwise◌
returns c = rw (← c.if-is_narrow.ensures) (search (rules, highest-at))
