-- Neither has a query; otherwise the whole number is the place (parameter/Decisions).
use borrow.Author.Rules.{rules}
use Rattle.registers.specs.Check.{◌>>=◌}
use Rattle.interpreter.specs.ParameterParts.{saving_to}
use Rattle.interpreter.proofs.parameter.Decisions.{place-whole}
use Rattle.interpreter.proofs.parameter.decide_place.Goals as goal

pub returns-then-asked : goal.returns-then-asked
unfolding saving_to
returns-then-asked c = rw c.if-asked.true

pub returns-in_err-whole : goal.returns-in_err-whole
unfolding ◌>>=◌
returns-in_err-whole c =
    let says = rw (← c.in_err-whole.ensures) at (place-whole c.args.saving c.args.text.now) in
    rw c.if-asked.false (search rules)

pub returns : goal.returns
unfolding ◌>>=◌
returns c = rw (c.if-asked.false, ← place-whole c.args.saving c.args.text.now, ← c.in_ok-whole.ensures, c.from-place.ensures)
