use Rattle.bench24.proofs.Hearing.{since-begun, since-on}
use Rattle.bench24.proofs.Bench.run.Goals as goal

pub loop-init : goal.loop-init
loop-init g c = since-begun _ _ c.power_up.ensures

pub returns-then-is_err : goal.returns-then-is_err
returns-then-is_err g c = since-on _ _ _ _ _ _ _ _ c.loop.invariant c.serve_read.ensures

pub loop-preserved : goal.loop-preserved
loop-preserved g c = since-on _ _ _ _ _ _ _ _ c.loop.invariant c.serve_read.ensures
