-- A turn of the loop, and what comes of it after the last byte, are laws of parameter/Counting.
use mathlib.Core.Path.{sym, ◌∙◌}
use borrow.Author.Tests.{eqb-true, eqb-false}
use Rattle.interpreter.proofs.cuts.Search.{separated}
use Rattle.interpreter.proofs.parameter.Counting.{counting-start, counting-empty, counting-comma, counting-byte, counting-last, counting-end, counting-none}
use Rattle.interpreter.proofs.parameter.count.Goals as goal

pub returns-then-is_empty : goal.returns-then-is_empty
returns-then-is_empty c = counting-none c.args.text.now (eqb-true _ 0 (sym c.if-is_empty.ensures))

pub loop-b-init : goal.loop-b-init
loop-b-init c = counting-start c.args.text.now

pub returns-then-not-visible : goal.returns-then-not-visible
returns-then-not-visible c = counting-empty c.loop-b.invariant c.loop-b-test.true (separated _ _ _ _ c.is_none.ensures ∙ c.if-is_none-b.true) c.if-not-visible.true

pub loop-b-preserved-then-is_none-b : goal.loop-b-preserved-then-is_none-b
loop-b-preserved-then-is_none-b c = counting-comma c.loop-b.invariant c.loop-b-test.true (separated _ _ _ _ c.is_none.ensures ∙ c.if-is_none-b.true) c.if-not-visible.false

pub loop-b-preserved : goal.loop-b-preserved
loop-b-preserved c =
    rw (c.quote_next-mark.ensures, c.is_white.ensures)
    (counting-byte c.loop-b.invariant c.loop-b-test.true (separated _ _ _ _ c.is_none.ensures ∙ c.if-is_none-b.false))

pub returns-then-not-visible-2 : goal.returns-then-not-visible-2
returns-then-not-visible-2 c = counting-last c.loop-b.invariant (eqb-false _ 0 (sym c.if-is_empty.ensures)) c.loop-b-test.false c.if-not-visible-2.true

pub returns : goal.returns
returns c = counting-end c.loop-b.invariant (eqb-false _ 0 (sym c.if-is_empty.ensures)) c.loop-b-test.false c.if-not-visible-2.false
