use borrow.Author.Tests.{ne_eqb}
use Rattle.std.proofs.Common.{rules, tests}
use Rattle.registers.specs.Text.{if◌then◌otherwise◌}
use Rattle.interpreter.specs.Cuts.{quote_next}
use Rattle.interpreter.proofs.cuts.Quote.read.Goals as goal

pub returns-in-34 : goal.returns-in-34
unfolding quote_next if◌then◌otherwise◌
returns-in-34 c = rw c.in-34.is

pub returns-in-39 : goal.returns-in-39
unfolding quote_next if◌then◌otherwise◌
returns-in-39 c = rw c.in-39.is

pub returns-in_default : goal.returns-in_default
unfolding quote_next if◌then◌otherwise◌
returns-in_default c = rw (ne_eqb c.args.b 34 (search (rules, tests)), ne_eqb c.args.b 39 (search (rules, tests)))
