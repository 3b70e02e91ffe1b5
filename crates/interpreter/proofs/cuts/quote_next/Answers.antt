use mathlib.Core.Path.{sym, ◌∙◌}
use borrow.Author.Tests.{eq-eqb, ne_eqb}
use Rattle.registers.specs.Text.{if◌then◌otherwise◌}
use Rattle.interpreter.specs.Cuts.{quote_next}
use Rattle.interpreter.proofs.cuts.Search.{is-open}
use Rattle.interpreter.proofs.cuts.quote_next.Goals as goal

pub returns-in-Some : goal.returns-in-Some
unfolding quote_next if◌then◌otherwise◌
returns-in-Some c = rw (c.in-Some.is, is-open c.in-Some.quote, eq-eqb _ _ (c.if-b-byte.true ∙ c.byte.ensures))

pub returns-in-Some-2 : goal.returns-in-Some-2
unfolding quote_next if◌then◌otherwise◌
returns-in-Some-2 c = rw (c.in-Some.is, is-open c.in-Some.quote, ne_eqb _ _ (λ e. c.if-b-byte.false (e ∙ sym c.byte.ensures)))
