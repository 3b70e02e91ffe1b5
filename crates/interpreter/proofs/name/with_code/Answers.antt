use mathlib.Core.Path.{refl}
use Rattle.interpreter.specs.NameParts.{with_code}
use Rattle.interpreter.proofs.name.with_code.Goals as goal

pub returns : goal.returns
unfolding with_code
returns c = refl
