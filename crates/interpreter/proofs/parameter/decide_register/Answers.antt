-- A query asks for the register; otherwise its whole number is stored (parameter/Decisions).
use borrow.Author.Rules.{rules}
use Rattle.registers.specs.Check.{◌>>=◌}
use Rattle.interpreter.specs.ParameterParts.{register_to}
use Rattle.interpreter.proofs.parameter.Decisions.{register-whole}
use Rattle.interpreter.proofs.parameter.decide_register.Goals as goal

pub returns-then-asked : goal.returns-then-asked
unfolding register_to
returns-then-asked c = rw c.if-asked.true

pub returns-in_err-whole : goal.returns-in_err-whole
unfolding ◌>>=◌
returns-in_err-whole c =
    let says = rw (← rw c.widest.ensures at c.in_err-whole.ensures) at (register-whole c.args.register c.args.text.now) in
    rw c.if-asked.false (search rules)

pub returns : goal.returns
unfolding ◌>>=◌
returns c = rw (c.if-asked.false, ← register-whole c.args.register c.args.text.now, ← rw c.widest.ensures at c.in_ok-whole.ensures)
