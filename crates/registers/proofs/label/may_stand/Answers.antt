use Rattle.std.proofs.Common.{rules}
use borrow.Author.Tests.{tests}
use Rattle.registers.specs.Label.{may_stand}
use Rattle.registers.proofs.label.may_stand.Goals as goal

pub returns-after-matches : goal.returns-after-matches
unfolding may_stand
returns-after-matches c = search (tests, rules)

pub returns-else-matches : goal.returns-else-matches
unfolding may_stand
returns-else-matches c = search (tests, rules)
