use native.Mathlib.Omega.{arith}
use Rattle.registers.proofs.label.Laws.{reading-start, reading-quote, reading-byte, reading-end}
use Rattle.registers.proofs.label.read.Goals as goal

pub loop-byte-init : goal.loop-byte-init
loop-byte-init c = reading-start _ _

pub loop-byte-preserved-then-pending-b : goal.loop-byte-preserved-then-pending-b
loop-byte-preserved-then-pending-b c = reading-quote c.loop-byte.invariant (omega arith) c.if-pending-b.true

pub overflow_add-count : goal.overflow_add-count
overflow_add-count c = let few = c.loop-byte.invariant.few in omega arith

pub loop-byte-preserved : goal.loop-byte-preserved
loop-byte-preserved c = rw (c.put.ensures, c.may_stand-allowed.ensures) (reading-byte c.loop-byte.invariant (omega arith) c.if-pending-b.false)

pub returns : goal.returns
returns c = reading-end _ c.loop-byte.invariant (omega arith) c.byte_at-quote.ensures c.rest-rest.ensures
