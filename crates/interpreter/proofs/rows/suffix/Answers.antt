use Rattle.interpreter.proofs.rows.Suffixes.{class-hit, class-skip, class-end}
use Rattle.interpreter.proofs.rows.suffix.Goals as goal

pub returns-then-class-ne0 : goal.returns-then-class-ne0
returns-then-class-ne0 c = class-hit _ _ c.loop-key-test.true c.if-class-ne0.true c.loop-key.invariant

pub loop-key-preserved : goal.loop-key-preserved
loop-key-preserved c = class-skip _ _ c.loop-key-test.true c.if-class-ne0.false c.loop-key.invariant

pub returns : goal.returns
returns c = class-end _ _ c.loop-key-test.false c.loop-key.invariant
