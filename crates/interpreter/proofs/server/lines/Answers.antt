use mathlib.Core.Path.{◌≡◌, refl}
use native.Mathlib.Omega.{arith}
use lib.ListN.{length}
use Rattle.interpreter.proofs.Lists.{pasted}
use borrow.Author.Rules.{rules}
use Rattle.interpreter.specs.Box.{most_answer}
use Rattle.interpreter.proofs.server.Laws.{serve-begun, more-input, serve-further, serve-on, serve-end}
use Rattle.interpreter.proofs.server.lines.Goals as goal

pub loop-flow-init : goal.loop-flow-init
loop-flow-init c =
    let a = c.args in
    serve-begun a.flow a.line.now a.out.now a.store.now a.input.now a.output.now c.requires

pub overflow_sub-output : goal.overflow_sub-output
overflow_sub-output c = let wrote = c.loop-flow.invariant.wrote in omega arith

pub feed_line-requires : goal.feed_line-requires
feed_line-requires c = c.loop-flow.invariant.read-in

pub loop-flow-smaller : goal.loop-flow-smaller
loop-flow-smaller c =
    let g = c.loop-flow.invariant in let k = serve-further _ _ _ _ _ _ _ _ _ g c.loop-flow-test.true _ _ _ _ c.feed_line.ensures in
    let n = more-input _ _ _ _ _ _ _ _ _ g c.loop-flow-test.true in
    omega arith

pub loop-flow-preserved : goal.loop-flow-preserved
loop-flow-preserved c =
    let outs : length c.feed_line.new.out ≡ most_answer = search rules in
    serve-on _ _ _ _ _ _ _ _ _ c.loop-flow.invariant c.loop-flow-test.true _ _ _ _ c.feed_line.ensures outs _ _ refl (pasted _ _ _ _ _ c.copy_from_slice.ensures.after) _ c.forget_answer.ensures

pub shape_of-output : goal.shape_of-output
shape_of-output c = let now = c.loop-flow.invariant.outputs in omega arith

pub returns : goal.returns
returns c = serve-end _ _ _ _ _ _ _ _ _ c.loop-flow.invariant _ _ _ _ _ refl c.loop-flow-test.false
