-- A setting's slot has its number; what the rows after the slots are for is computed (deed/Laws).
use mathlib.Core.Path.{◌≡◌}
use Prim.Native.Nat.{◌+◌, ◌-◌}
use native.Mathlib.Omega.{arith}
use Rattle.registers.specs.Settings.{count}
use Rattle.interpreter.specs.Rows.{other_rows}
use Rattle.interpreter.proofs.deed.Laws.{role-setting, role-other}
use Rattle.interpreter.proofs.deed.role_of.Goals as goal

pub returns-then-place-lt-COUNT : goal.returns-then-place-lt-COUNT
returns-then-place-lt-COUNT c = role-setting c.args.place c.if-place-lt-COUNT.true

pub returns : goal.returns
unfolding other_rows
returns c =
    let place = c.args.place in
    let whole : count + (place - count) ≡ place = let k = c.if-place-lt-COUNT.false in omega arith in
    rw whole at (role-other (place - count) (let k = c.if-place-lt-COUNT.false in omega (arith, c.requires)))
