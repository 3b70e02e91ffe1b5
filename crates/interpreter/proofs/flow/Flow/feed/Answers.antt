use native.Mathlib.Omega.{arith}
use Rattle.interpreter.proofs.flow.Laws.{feed-begun, feed-further, feed-on, feed-end}
use Rattle.interpreter.proofs.flow.Flow.feed.Goals as goal

pub loop-self-init : goal.loop-self-init
loop-self-init c =
    let a = c.args in
    feed-begun a.self a.line.now a.out.now a.store.now a.bytes.now c.requires

pub feed_line-requires : goal.feed_line-requires
feed_line-requires c = c.loop-self.invariant.within

pub loop-self-smaller : goal.loop-self-smaller
loop-self-smaller c =
    let more = c.loop-self-test.true in
    let k = feed-further _ _ _ _ _ _ _ _ _ c.loop-self.invariant more _ _ _ _ c.feed_line.ensures in
    omega arith

pub loop-self-preserved : goal.loop-self-preserved
loop-self-preserved c =
    feed-on _ _ _ _ _ _ _ _ _ c.loop-self.invariant c.loop-self-test.true _ _ _ _ c.feed_line.ensures

pub returns : goal.returns
returns c = feed-end _ _ _ _ _ _ _ _ _ c.loop-self.invariant c.loop-self-test.false
