use native.Mathlib.Omega.{arith}
use Rattle.registers.proofs.rounding.Sides.{held_up, held_down}
use Rattle.registers.proofs.rounding.size_of.Goals as goal

pub returns-then-down-up : goal.returns-then-down-up
returns-then-down-up c =
    let a = c.args in
    held_up a.x a.up a.down c.times_tens.result (omega arith) c.times_tens.ensures

pub returns : goal.returns
returns c =
    let a = c.args in
    let l = c.over_tens-low in
    held_down a.x a.up a.down c.min.result l.result (omega arith) l.ensures (omega arith)
