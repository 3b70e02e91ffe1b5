-- What is outside the limits is refused, a query asks for the value, and exam mode refuses what is off the step.
use mathlib.Core.Path.{sym, ◌∙◌}
use borrow.Author.Rules.{rules}
use Rattle.registers.specs.Check.{◌>>◌, check}
use Rattle.interpreter.specs.ParameterParts.{put_fit}
use Rattle.interpreter.proofs.parameter.Decisions.{back}
use Rattle.interpreter.proofs.parameter.decide_value.Goals as goal

pub returns-in_default : goal.returns-in_default
unfolding put_fit
returns-in_default c = rw c.in_default.is

pub returns-then-asked : goal.returns-then-asked
unfolding put_fit
returns-then-asked c = rw (c.in-Some.is, c.if-asked.true, back c.in-Some.value (search rules))

pub returns-then-not-accepts : goal.returns-then-not-accepts
unfolding put_fit check ◌>>◌
returns-then-not-accepts c = rw (c.in-Some.is, c.if-asked.false, sym c.accepts.ensures ∙ c.if-not-accepts.true)

pub returns : goal.returns
unfolding put_fit check ◌>>◌
returns c = rw (c.in-Some.is, c.if-asked.false, sym c.accepts.ensures ∙ c.if-not-accepts.false, back c.in-Some.value (search rules))
