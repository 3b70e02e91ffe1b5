use Prim.Native.Nat.{◌^◌}
use Rattle.registers.proofs.rounding.Held.{fit-yes, fit-no}
use Rattle.registers.proofs.rounding.round_in.Goals as goal

pub returns-then-from-v : goal.returns-then-from-v
returns-then-from-v c =
    let a = c.args in
    let r = c.ranges in
    fit-yes (10 ^ a.tens) a.d a.low a.high r.low r.high c.steps-stepped.result c.steps-stepped.ensures c.from.ensures c.from-2.ensures c.if-from-v.true

pub returns : goal.returns
returns c =
    let a = c.args in
    let r = c.ranges in
    fit-no (10 ^ a.tens) a.d a.low a.high r.low r.high c.steps-stepped.result c.steps-stepped.ensures c.from.ensures c.from-2.ensures c.if-from-v.false
