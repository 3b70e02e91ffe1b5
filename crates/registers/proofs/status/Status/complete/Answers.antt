use mathlib.Core.Path.{refl}
use Rattle.registers.specs.Status.{events_in}
use Rattle.registers.proofs.status.Status.complete.Goals as goal

pub returns : goal.returns
unfolding events_in
returns c = refl
