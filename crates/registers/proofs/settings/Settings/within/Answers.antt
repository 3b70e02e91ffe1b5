use borrow.Author.Rules.{rules}
use Rattle.registers.specs.Settings.{within}
use Rattle.registers.proofs.settings.Settings.within.Goals as goal

pub returns : goal.returns
unfolding within
returns c = search rules
