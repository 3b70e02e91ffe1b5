-- A case for each: the mark stands there, or not.
use mathlib.Core.Path.{◌∙◌}
use Rattle.registers.proofs.setup.Blocks.{said-marked, said-unmarked}
use Rattle.registers.proofs.setup.settings_in.Goals as goal

pub returns-then-starts_with : goal.returns-then-starts_with
returns-then-starts_with c = let told = c.if-starts_with.ensures in c.read.ensures ∙ said-marked _ c.requires told.value

pub returns : goal.returns
returns c = let told = c.if-starts_with.ensures in c.read-2.ensures ∙ said-unmarked _ c.requires told.value
