use mathlib.Core.Path.{ap}
use native.Mathlib.Omega.{arith}
use mir.Syntax.{w32}
use mir.Facts.{to_z-of_z}
use borrow.Author.Rules.{rules}
use Rattle.registers.specs.declared.settings.Settings.{Settings}
use Rattle.registers.proofs.setup.Laws.{reset-long}
use Rattle.registers.proofs.setup.Blocks.{read-begun, read-on, read-end}
use Rattle.registers.proofs.setup.read.Goals as goal

pub loop-row-init : goal.loop-row-init
loop-row-init c = read-begun _ _ (rw c.reset-settings.ensures reset-long) (ap (λ (s : Settings). s.values) c.reset-settings.ensures)

pub loop-row-preserved : goal.loop-row-preserved
loop-row-preserved c =
    let l = c.loop-row in
    let back = to_z-of_z {w = w32} {z = c.value_in.result} (search rules) in
    rw back (read-on _ l.settings.values l.row c.value_in.result l.invariant (omega arith) c.value_in.ensures)

pub returns : goal.returns
returns c = read-end c.args.rows _ c.loop-row.settings.values _ c.loop-row.row c.loop-row.invariant (omega arith) c.copy_from_slice.ensures.after
