use borrow.Author.Rules.{rules}
use Rattle.registers.proofs.settings.Laws.{lowest-at}
use Rattle.registers.proofs.settings.Settings.lowest.Goals as goal

pub returns : goal.returns
returns c = search (rules, lowest-at)
