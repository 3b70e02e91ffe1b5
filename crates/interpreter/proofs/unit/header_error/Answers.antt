use mathlib.Core.Path.{sym, ◌∙◌}
use Rattle.registers.specs.Text.{if◌then◌otherwise◌}
use Rattle.interpreter.specs.UnitParts.{header_refusal}
use Rattle.interpreter.proofs.unit.header_error.Goals as goal

pub returns-then-all_allowed : goal.returns-then-all_allowed
unfolding header_refusal if◌then◌otherwise◌
returns-then-all_allowed c = rw (sym c.all_allowed.ensures ∙ c.if-all_allowed.true)

pub returns : goal.returns
unfolding header_refusal if◌then◌otherwise◌
returns c = rw (sym c.all_allowed.ensures ∙ c.if-all_allowed.false)
