use Rattle.interpreter.proofs.rows.Start.{marking-start, marking-on, marking-end}
use native.Mathlib.Omega.{arith}
use Rattle.interpreter.proofs.rows.mark.Goals as goal

pub loop-key-init : goal.loop-key-init
loop-key-init c = rw c.from-letters.ensures (marking-start _ _)

pub overflow_mul-letters : goal.overflow_mul-letters
overflow_mul-letters c = let m = c.loop-key.invariant.few in omega arith

pub overflow_add-letters : goal.overflow_add-letters
overflow_add-letters c = let m = c.loop-key.invariant.few in omega arith

pub loop-key-preserved : goal.loop-key-preserved
loop-key-preserved c = marking-on c.loop-key.invariant c.loop-key-test.true

pub returns : goal.returns
returns c = marking-end c.loop-key.invariant c.loop-key-test.false
