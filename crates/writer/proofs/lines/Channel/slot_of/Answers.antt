-- By the arms, one after the other.
use borrow.Author.Tests.{lt-ltb, le-ltb}
use Rattle.registers.specs.Text.{if◌then◌otherwise◌}
use Rattle.interpreter.specs.Rows.{monitor, second_of}
use Rattle.writer.specs.Lines.{slot_of}
use Rattle.writer.proofs.lines.Channel.slot_of.Goals as goal

pub returns-in-Second : goal.returns-in-Second
unfolding slot_of second_of if◌then◌otherwise◌
returns-in-Second c = rw (c.in-Second.is, lt-ltb c.args.row monitor c.if-row-lt-MONITOR.true)

pub returns-in-Second-2 : goal.returns-in-Second-2
unfolding slot_of second_of if◌then◌otherwise◌
returns-in-Second-2 c = rw (c.in-Second.is, le-ltb c.args.row monitor c.if-row-lt-MONITOR.false, c.if-row.true)

pub returns-in-Second-3 : goal.returns-in-Second-3
unfolding slot_of second_of if◌then◌otherwise◌
returns-in-Second-3 c = rw (c.in-Second.is, le-ltb c.args.row monitor c.if-row-lt-MONITOR.false, c.if-row.false)

pub returns-in-First : goal.returns-in-First
unfolding slot_of if◌then◌otherwise◌
returns-in-First c = rw c.in-First.is
