use mathlib.Core.Path.{◌≡◌, ◌∙◌}
use native.Mathlib.Omega.{arith}
use Rattle.std.proofs.lemmas.Int.{ints}
use lib.IntN.{pos, ◌+ℤ◌}
use mir.Syntax.{w32, w64}
use mir.Val.{to_z, of_z}
use mir.Facts.{to_z-of_z}
use Rattle.registers.proofs.setup.Blocks.{shift-is}
use Rattle.registers.proofs.setup.shift.Goals as goal

pub returns : goal.returns
returns c =
    let a = c.args.value in
    let from : c.from.result ≡ a = c.from.ensures ∙ to_z-of_z {w = w32} c.ranges.value in
    let sum : to_z w64 (of_z w64 (to_z w64 (of_z w64 c.from.result) +ℤ pos 256)) ≡ (a +ℤ pos 256) = omega (arith, ints, from) in
    c.unwrap_or.ensures ∙ shift-is a _ c.try_from.result c.ranges.value sum c.try_from.ensures
