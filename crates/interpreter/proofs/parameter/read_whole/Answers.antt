-- A word is barred; a number is rounded within 0 and the highest, or is outside (parameter/Decisions).
use mathlib.Core.Path.{sym, ap, ◌∙◌}
use borrow.Author.Rules.{rules}
use Rattle.registers.specs.Text.{letter}
use Rattle.interpreter.proofs.parameter.Decisions.{back, word-barred, whole-refused, whole-natural, whole-within, whole-outside}
use Rattle.interpreter.proofs.parameter.read_whole.Goals as goal

pub returns-then-is_letter : goal.returns-then-is_letter
returns-then-is_letter c = word-barred c.args.highest c.args.text.now (sym (c.is_letter.ensures ∙ ap letter c.byte_at.ensures) ∙ c.if-is_letter.true)

pub returns-in_err-d : goal.returns-in_err-d
returns-in_err-d c =
    let starts = sym (c.is_letter.ensures ∙ ap letter c.byte_at.ensures) ∙ c.if-is_letter.false in
    let says = whole-refused c.args.highest c.args.text.now (c.in_err-d.ensures starts) in
    search rules

pub returns-in_default : goal.returns-in_default
returns-in_default c =
    let starts = sym (c.is_letter.ensures ∙ ap letter c.byte_at.ensures) ∙ c.if-is_letter.false in
    let near = rw (back c.from.result c.from.type_inv ∙ c.from.ensures) at c.round_in-rounded.ensures in
    whole-outside c.args.highest c.args.text.now (c.in_ok-d.ensures starts) near c.in_default.is

pub overflow_cast-result : goal.overflow_cast-result
overflow_cast-result c =
    let starts = sym (c.is_letter.ensures ∙ ap letter c.byte_at.ensures) ∙ c.if-is_letter.false in
    let near = rw (back c.from.result c.from.type_inv ∙ c.from.ensures) at c.round_in-rounded.ensures in
    rw (back c.in-Some.value (search rules))
    (whole-natural c.args.highest c.args.text.now (c.in_ok-d.ensures starts) near (search rules) c.in-Some.value c.in-Some.is)

pub returns : goal.returns
returns c =
    let starts = sym (c.is_letter.ensures ∙ ap letter c.byte_at.ensures) ∙ c.if-is_letter.false in
    let near = rw (back c.from.result c.from.type_inv ∙ c.from.ensures) at c.round_in-rounded.ensures in
    rw (back c.in-Some.value (search rules))
    (whole-within c.args.highest c.args.text.now (c.in_ok-d.ensures starts) near c.in-Some.value c.in-Some.is)
