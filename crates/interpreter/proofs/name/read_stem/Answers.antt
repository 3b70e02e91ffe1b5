use Rattle.interpreter.proofs.table.Codes.{code-small}
use Rattle.interpreter.proofs.name.Laws.{spelled_none, spelled-on, spelled-stop, spelled-end}
use Rattle.interpreter.proofs.name.read_stem.Goals as goal

pub loop-i-init : goal.loop-i-init
loop-i-init c = spelled_none _

pub returns-then-c-eq0 : goal.returns-then-c-eq0
returns-then-c-eq0 c = spelled-stop c.loop-i.invariant c.loop-i-test.true _ c.code-c.ensures c.if-c-eq0.true

pub with_code-key-requires : goal.with_code-key-requires
with_code-key-requires c = rw c.code-c.ensures (code-small _)

pub loop-i-preserved : goal.loop-i-preserved
loop-i-preserved c = rw c.with_code-key.ensures (spelled-on c.loop-i.invariant c.loop-i-test.true _ c.code-c.ensures c.if-c-eq0.false)

pub returns : goal.returns
returns c = spelled-end c.loop-i.invariant c.loop-i-test.false
