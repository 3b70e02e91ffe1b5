use Rattle.std.proofs.Common.{◌∙◌}
use Rattle.player.proofs.script.Laws.{nothing-spelt, reading-start, reading-more, reading-stop, reading-end}
use Rattle.player.proofs.script.decimal.Goals as goal

pub returns-then-is_empty : goal.returns-then-is_empty
returns-then-is_empty c = nothing-spelt c.args.text.now c.if-is_empty.ensures

pub loop-b-init : goal.loop-b-init
loop-b-init c = reading-start c.args.text.now c.if-is_empty.ensures

pub returns-in_err-n : goal.returns-in_err-n
returns-in_err-n c = c.from_residual.ensures ∙ reading-stop c.loop-b.invariant c.loop-b-test.true c.in_err-n.ensures

pub loop-b-preserved : goal.loop-b-preserved
loop-b-preserved c = reading-more c.loop-b.invariant c.loop-b-test.true c.in_ok-n.n c.in_ok-n.ensures

pub returns : goal.returns
returns c = reading-end c.loop-b.invariant c.loop-b-test.false
