use mathlib.Core.Path.{sym}
use native.Mathlib.Omega.{arith}
use mir.Syntax.{w32}
use mir.Facts.{to_z-of_z}
use borrow.Author.Rules.{rules}
use Rattle.registers.proofs.settings.Laws.{outside-fails, all-within}
use Rattle.registers.proofs.settings.Settings.values_possible.Goals as goal

pub returns-then-not-within : goal.returns-then-not-within
returns-then-not-within c =
    let back = to_z-of_z {w = w32} {z = c.value.result} (search rules) in
    outside-fails c.args.self c.loop-slot.slot (omega arith) (sym (rw (back, c.value.ensures) at c.if-not-within.ensures))

pub returns : goal.returns
returns c = all-within c.args.self c.loop-slot.slot (omega arith) c.loop-slot.invariant
