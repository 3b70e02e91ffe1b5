use borrow.Author.Tests.{ne_eqb}
use Rattle.registers.specs.Text.{if◌then◌otherwise◌}
use Rattle.writer.proofs.lines.ChannelTryFromU8.try_from.Goals as goal

pub returns-in-1 : goal.returns-in-1
unfolding if◌then◌otherwise◌
returns-in-1 c = rw c.in-1.is

pub returns-in-2 : goal.returns-in-2
unfolding if◌then◌otherwise◌
returns-in-2 c = rw c.in-2.is

pub returns-in_default : goal.returns-in_default
unfolding if◌then◌otherwise◌
returns-in_default c = let r = c.in_default.in_default-own.rest in rw (ne_eqb c.args.number 1 r.0.1, ne_eqb c.args.number 2 r.1)
