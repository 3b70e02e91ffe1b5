use mathlib.Core.Path.{sym, ◌∙◌}
use borrow.Author.Tests.{not-true, not-false}
use Rattle.registers.specs.Check.{check, ◌>>◌}
use Rattle.interpreter.specs.UnitParts.{decided_text}
use Rattle.interpreter.proofs.unit.decide_text.Goals as goal

pub returns-then-not-all_allowed : goal.returns-then-not-all_allowed
unfolding decided_text check ◌>>◌
returns-then-not-all_allowed c = rw (sym c.all_allowed.ensures ∙ not-true _ c.if-not-all_allowed.true-raw)

pub returns : goal.returns
unfolding decided_text check ◌>>◌
returns c = rw (sym c.all_allowed.ensures ∙ not-false _ c.if-not-all_allowed.false-raw) c.decide.ensures
