use Rattle.registers.proofs.setup.Weighing.{short-fails, check-is}
use Rattle.registers.proofs.setup.holds.Goals as goal

pub returns-then-block-ne-BLOCK : goal.returns-then-block-ne-BLOCK
returns-then-block-ne-BLOCK c = short-fails _ c.if-block-ne-BLOCK.true

pub returns : goal.returns
returns c =
    let split = c.in-Some.ensures.cases in
    check-is _ c.in-Some.contents.now c.in-Some.sum.now _ _ c.if-block-ne-BLOCK.false split.0 split.1 c.weigh.ensures c.from_le_bytes.ensures
