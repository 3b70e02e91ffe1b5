use Rattle.std.proofs.Common.{◌≡◌, length, arith}
use native.Mathlib.Nat.{add-zero}
use lib.Seq.{take_all}
use Rattle.registers.proofs.answer.Laws.{laid_none, laid_more}
use Rattle.registers.proofs.answer.text_at.Goals as goal

pub loop-i-init : goal.loop-i-init
loop-i-init c = rw add-zero (laid_none _ _)

pub loop-i-preserved : goal.loop-i-preserved
loop-i-preserved c = laid_more c.args.at c.args.text.now c.loop-i.i (omega arith) c.loop-i.invariant c.put.ensures

pub returns : goal.returns
returns c =
    let all : c.loop-i.i ≡ length c.args.text.now = omega arith in
    rw (all, take_all (length c.args.text.now) c.args.text.now (omega arith)) at c.loop-i.invariant
