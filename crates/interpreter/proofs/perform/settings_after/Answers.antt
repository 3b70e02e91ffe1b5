-- A value is stored and a reset resets, as the settings' own methods promise; every other deed leaves the settings (perform/Laws).
use mathlib.Core.Path.{◌∙◌}
use Rattle.registers.specs.Label.{text_in}
use mir.Facts.{to_z-of_z}
use mir.Val.{SFits}
use mir.Syntax.{w32}
use Rattle.registers.proofs.settings.Laws.{stored-yes}
use Rattle.interpreter.proofs.perform.Laws.{same-settings, no-change, label-stored}
use borrow.Author.Rules.{rules}
use borrow.Enum.Refused.{opened}
use Rattle.interpreter.proofs.perform.settings_after.Goals as goal

pub returns-in-Change-Put : goal.returns-in-Change-Put
returns-in-Change-Put c =
    let x = c.in-Change-Put in
    let put = rw x.is at x.field-0-is in
    let h : SFits w32 x.value = record { sfits = search rules } in
    let p = rw (x.is, put) at c.requires in
    rw (x.is, put, c.store.ensures, to_z-of_z {w = w32} h) (stored-yes x.row x.value c.args.settings p.0.1 p.1)

pub returns-in-Change-Reset : goal.returns-in-Change-Reset
returns-in-Change-Reset c =
    let x = c.in-Change-Reset in
    let reset = rw x.is at x.field-0-is in
    rw (x.is, reset) c.reset.ensures

pub returns-in-Change-Label : goal.returns-in-Change-Label
returns-in-Change-Label c =
    let x = c.in-Change-Label in
    let label = rw x.is at x.field-0-is in
    let p = rw (x.is, label) at c.requires in
    rw (x.is, label) (c.store_text.ensures ∙ label-stored c.args.settings (text_in c.args.string.now) _ p.2.0 c.read-label.ensures.bytes)

pub returns-in_default : goal.returns-in_default
returns-in_default c =
    let other = rw c.in_default.is at c.in_default.in_default-own.keys4 in
    rw c.in_default.is (same-settings c.in_default.field-0 other _ c.args.settings)

pub returns-in_default-2 : goal.returns-in_default-2
returns-in_default-2 c = no-change c.args.deed (opened c.in_default.in_default-own.keys2) _ c.args.settings
