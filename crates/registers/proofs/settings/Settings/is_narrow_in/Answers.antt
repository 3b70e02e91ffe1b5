use lib.IntN.{pos}
use mir.Syntax.{w32}
use mir.Facts.{to_z-of_z}
use borrow.Author.Tests.{eq-eqb}
use borrow.Author.Rules.{rules}
use Rattle.registers.specs.Settings.{wide_range, value_at}
use Rattle.registers.proofs.Tests.{lt_z-not}
use Rattle.registers.proofs.settings.Settings.is_narrow_in.Goals as goal

pub returns-then-slot-channel : goal.returns-then-slot-channel
unfolding wide_range
returns-then-slot-channel c =
    let back = to_z-of_z {w = w32} {z = c.value.result} (search rules) in
    rw (eq-eqb _ _ c.if-slot-channel.true, back, c.value.ensures) (lt_z-not (value_at c.args.self c.args.channel.range) (pos 1))
