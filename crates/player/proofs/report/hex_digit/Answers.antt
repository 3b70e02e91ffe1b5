use Rattle.std.proofs.Common.{lt-ltb, le-ltb}
use Rattle.registers.specs.Text.{if◌then◌otherwise◌}
use Rattle.player.proofs.report.hex_digit.Goals as goal

pub returns-then-half-lt10 : goal.returns-then-half-lt10
unfolding if◌then◌otherwise◌
returns-then-half-lt10 c = rw (lt-ltb c.args.half 10 c.if-half-lt10.true)

pub returns-else-half-lt10 : goal.returns-else-half-lt10
unfolding if◌then◌otherwise◌
returns-else-half-lt10 c = rw (le-ltb c.args.half 10 c.if-half-lt10.false)
