use mathlib.Core.Path.{refl, sym}
use mathlib.Core.Bool.{false}
use mir.Syntax.{w32}
use mir.Facts.{to_z-of_z}
use Rattle.std.proofs.Math.Bool.{and-true}
use Rattle.registers.specs.Settings.{conflict}
use Rattle.registers.proofs.Tests.{and-fails}
use Rattle.registers.proofs.settings.Settings.conflicts.Goals as goal

pub returns-then-is_above : goal.returns-then-is_above
unfolding conflict
returns-then-is_above c = rw (to_z-of_z {w = w32} c.ranges.value, ← c.if-is_above.ensures) (sym (and-true _))

pub returns-else-is_above : goal.returns-else-is_above
unfolding conflict
returns-else-is_above c = rw (c.if-is_above.false, ← c.if-is_above.ensures) (sym (and-fails _ false refl))
