use borrow.Author.Tests.{lt-ltb, le-ltb}
use Rattle.registers.specs.Text.{if◌then◌otherwise◌}
use Rattle.registers.specs.Error.{event_bit}
use Rattle.registers.proofs.error.event_bit.Goals as goal

pub returns-then-number-lt200 : goal.returns-then-number-lt200
unfolding event_bit if◌then◌otherwise◌
returns-then-number-lt200 c = rw (lt-ltb _ 200 c.if-number-lt200.true)

pub returns-then-number-lt300 : goal.returns-then-number-lt300
unfolding event_bit if◌then◌otherwise◌
returns-then-number-lt300 c = rw (le-ltb _ 200 c.if-number-lt200.false, lt-ltb _ 300 c.if-number-lt300.true)

pub returns-then-number-lt400 : goal.returns-then-number-lt400
unfolding event_bit if◌then◌otherwise◌
returns-then-number-lt400 c = rw (le-ltb _ 200 c.if-number-lt200.false, le-ltb _ 300 c.if-number-lt300.false, lt-ltb _ 400 c.if-number-lt400.true)

pub returns-else-number-lt400 : goal.returns-else-number-lt400
unfolding event_bit if◌then◌otherwise◌
returns-else-number-lt400 c = rw (le-ltb _ 200 c.if-number-lt200.false, le-ltb _ 300 c.if-number-lt300.false, le-ltb _ 400 c.if-number-lt400.false)
