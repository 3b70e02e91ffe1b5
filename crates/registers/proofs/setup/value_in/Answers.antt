use mathlib.Core.Path.{◌∙◌}
use mir.Syntax.{w32}
use mir.Facts.{to_z-of_z}
use borrow.Author.Rules.{rules}
use Rattle.registers.proofs.setup.Blocks.{value-read}
use Rattle.registers.proofs.setup.value_in.Goals as goal

pub returns : goal.returns
returns c =
    let back = to_z-of_z {w = w32} {z = c.unshift.result} (search rules) in
    back ∙ c.unshift.ensures ∙ value-read c.args.block.now c.args.row c.from_le_bytes.result c.from_le_bytes.ensures
