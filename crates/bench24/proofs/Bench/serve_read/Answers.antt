-- What the read answered is the number of the buffer's bytes that are served: none, or all of those.
use mathlib.Core.Path.{sym, ◌∙◌}
use Rattle.bench24.proofs.Hearing.{none-heard}
use Rattle.bench24.proofs.Bench.serve_read.Goals as goal

pub returns-then-n-eq0 : goal.returns-then-n-eq0
returns-then-n-eq0 g c = none-heard _ _ _ _ c.args.self.now.possible (sym c.count-n.ensures.value ∙ c.if-n-eq0.true)
