-- By the first byte: a letter starts a word, which is searched for, and any other byte is left to `read_figure`.
use mathlib.Core.Path.{sym, ap, ◌∙◌}
use borrow.Author.Rules.{rules}
use Rattle.registers.specs.Text.{letter}
use Rattle.interpreter.specs.WordsParts.{words_in}
use Rattle.interpreter.proofs.parameter.Words.{starts-word, no-letter}
use Rattle.interpreter.proofs.parameter.read_parameter.Goals as goal

pub returns-in_err-word : goal.returns-in_err-word
returns-in_err-word c =
    let a = c.args in
    let starts = sym (c.is_letter.ensures ∙ ap letter c.byte_at.ensures) ∙ c.if-is_letter.true in
    let says = c.in_err-word.ensures ∙ starts-word (words_in a.takes.words) a.takes.numbers a.text.now starts in
    search rules

pub returns-then-is_letter : goal.returns-then-is_letter
returns-then-is_letter c =
    let a = c.args in
    let starts = sym (c.is_letter.ensures ∙ ap letter c.byte_at.ensures) ∙ c.if-is_letter.true in
    c.in_ok-word.ensures ∙ starts-word (words_in a.takes.words) a.takes.numbers a.text.now starts

pub returns-in_err-d : goal.returns-in_err-d
returns-in_err-d c =
    let a = c.args in
    let starts = sym (c.is_letter.ensures ∙ ap letter c.byte_at.ensures) ∙ c.if-is_letter.false in
    let says = c.in_err-d.ensures starts ∙ no-letter (words_in a.takes.words) a.takes.numbers a.text.now starts in
    search rules

pub returns : goal.returns
returns c =
    let a = c.args in
    let starts = sym (c.is_letter.ensures ∙ ap letter c.byte_at.ensures) ∙ c.if-is_letter.false in
    c.in_ok-d.ensures starts ∙ no-letter (words_in a.takes.words) a.takes.numbers a.text.now starts
