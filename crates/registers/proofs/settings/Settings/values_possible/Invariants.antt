-- Every slot so far is within its limits. One outside decides at once.
use mathlib.Core.Path.{◌≡◌}
use mathlib.Core.Bool.{true}
use Rattle.registers.specs.Text.{below}
use Rattle.registers.specs.Settings.{within, value_at}
use Rattle.registers.proofs.settings.Settings.values_possible.Given as goal

abbrev pub invariant-loop-slot : goal.invariant-loop-slot
invariant-loop-slot l = below l.slot (λ i. within l.fn.self i (value_at l.fn.self i)) ≡ true
