use mathlib.Core.Path.{sym}
use native.Mathlib.Omega.{arith}
use Rattle.registers.proofs.status.Laws.{oldest-none, oldest-some}
use Rattle.registers.proofs.status.Status.read_oldest.Goals as goal

pub returns-then-self-gt0 : goal.returns-then-self-gt0
returns-then-self-gt0 c = rw c.shifted-self.ensures (sym (oldest-some c.args.self (λ e. omega arith)))

pub returns-else-self-gt0 : goal.returns-else-self-gt0
returns-else-self-gt0 c = sym (oldest-none c.args.self (omega arith))
