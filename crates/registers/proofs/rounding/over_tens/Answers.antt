use native.Mathlib.Omega.{arith}
use Rattle.registers.proofs.rounding.Sides.{lower-start, lower-turn, lower-small, lower-up, lower-on, lower-above}
use Rattle.registers.proofs.rounding.over_tens.Goals as goal

pub loop-turn-init : goal.loop-turn-init
loop-turn-init c = lower-start c.args.x

pub loop-turn-preserved : goal.loop-turn-preserved
loop-turn-preserved c = lower-turn c.loop-turn.invariant

pub overflow_add-result : goal.overflow_add-result
overflow_add-result c = let s = lower-small c.loop-turn.invariant in omega arith

pub returns-then-last-ge5 : goal.returns-then-last-ge5
returns-then-last-ge5 c = lower-up c.loop-turn.invariant (omega arith) c.if-last-ge5.true

pub returns-then-exact-last : goal.returns-then-exact-last
returns-then-exact-last c = lower-on c.loop-turn.invariant (omega arith) (omega arith) c.if-exact-last.true

pub returns : goal.returns
returns c = lower-above c.loop-turn.invariant (omega arith) (omega arith) c.if-exact-last.false
