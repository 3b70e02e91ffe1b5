-- A number's words are its limits, the lowest first; any other setting's words are counted (parameter/ByKind).
use mathlib.Core.Path.{sym, ◌∙◌}
use native.Mathlib.Omega.{arith}
use mir.Syntax.{w32}
use mir.Facts.{to_z_pos}
use Rattle.registers.specs.Settings.{kind_of}
use Rattle.interpreter.proofs.parameter.Decisions.{back}
use Rattle.interpreter.proofs.parameter.ByKind.{word_number, word-other, limit-other}
use Rattle.interpreter.proofs.parameter.word_value.Goals as goal

pub returns-then-not-is_number : goal.returns-then-not-is_number
returns-then-not-is_number c =
    let a = c.args in
    let other = sym c.is_number.ensures ∙ c.if-not-is_number.true in
    to_z_pos w32 {n = a.word} (omega arith) ∙ word-other a.settings a.row a.word (kind_of a.row) other

pub returns-then-word-eq0 : goal.returns-then-word-eq0
returns-then-word-eq0 c =
    let a = c.args in
    let number = sym c.is_number.ensures ∙ c.if-not-is_number.false in
    rw c.if-word-eq0.true
    (back c.lowest.result c.lowest.type_inv ∙ c.lowest.ensures ∙ word_number a.settings a.row 0 (kind_of a.row) number)

pub returns : goal.returns
returns c =
    let a = c.args in
    let number = sym c.is_number.ensures ∙ c.if-not-is_number.false in
    back c.highest.result c.highest.type_inv
    ∙ c.highest.ensures
    ∙ limit-other a.settings a.row a.word c.if-word-eq0.false
    ∙ word_number a.settings a.row a.word (kind_of a.row) number
