-- A case for each way out (quoted/Laws): asked, no string, not closed, a byte that is not accepted, too long, and set.
use mathlib.Core.Path.{◌≡◌, ◌∙◌, ap}
use mathlib.Core.Bool.{false, not}
use Rattle.interpreter.specs.Cuts.{quote_next}
use Rattle.interpreter.specs.ParameterParts.{label_to}
use Rattle.interpreter.proofs.quoted.Laws.{starts, no-string, not-closed, not-allowed, too-long, is_set}
use Rattle.interpreter.proofs.quoted.decide.Goals as goal

pub returns-then-asked : goal.returns-then-asked
unfolding label_to
returns-then-asked c = rw c.if-asked.true

pub returns-then-is_none : goal.returns-then-is_none
returns-then-is_none c =
    no-string _ _ c.if-asked.false (starts _ _ (c.read.ensures ∙ ap (quote_next 0) c.byte_at.ensures) ∙ c.is_none.ensures ∙ ap not c.if-is_none.true)

pub returns-then-not-label : goal.returns-then-not-label
returns-then-not-label c =
    let sets : c.args.asked ≡ false = c.if-asked.false in
    let opens = starts _ _ (c.read.ensures ∙ ap (quote_next 0) c.byte_at.ensures) ∙ c.is_none.ensures ∙ ap not c.if-is_none.false in
    not-closed _ _ sets opens c.read-label.result c.read-label.ensures c.if-not-label.true

pub returns-then-not-label-2 : goal.returns-then-not-label-2
returns-then-not-label-2 c =
    let sets : c.args.asked ≡ false = c.if-asked.false in
    let opens = starts _ _ (c.read.ensures ∙ ap (quote_next 0) c.byte_at.ensures) ∙ c.is_none.ensures ∙ ap not c.if-is_none.false in
    not-allowed _ _ sets opens c.read-label.result c.read-label.ensures c.if-not-label.false c.if-not-label-2.true

pub returns-then-label-gt-TEXT : goal.returns-then-label-gt-TEXT
returns-then-label-gt-TEXT c =
    let sets : c.args.asked ≡ false = c.if-asked.false in
    let opens = starts _ _ (c.read.ensures ∙ ap (quote_next 0) c.byte_at.ensures) ∙ c.is_none.ensures ∙ ap not c.if-is_none.false in
    too-long _ _ sets opens c.read-label.result c.read-label.ensures c.if-not-label.false c.if-not-label-2.false c.if-label-gt-TEXT.true

pub returns : goal.returns
returns c =
    let sets : c.args.asked ≡ false = c.if-asked.false in
    let opens = starts _ _ (c.read.ensures ∙ ap (quote_next 0) c.byte_at.ensures) ∙ c.is_none.ensures ∙ ap not c.if-is_none.false in
    is_set _ _ sets opens c.read-label.result c.read-label.ensures c.if-not-label.false c.if-not-label-2.false c.if-label-gt-TEXT.false
