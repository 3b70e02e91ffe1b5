use borrow.Author.Rules.{rules}
use Rattle.registers.proofs.settings.Laws.{values-at, quantity-at}
use Rattle.registers.proofs.settings.kind_at.Goals as goal

pub returns-clause-values : goal.returns-clause-values
returns-clause-values c = search (rules, values-at)

pub returns-clause-quantity : goal.returns-clause-quantity
returns-clause-quantity c = search (rules, quantity-at)
