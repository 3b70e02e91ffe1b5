-- By whether the values differ (lines/Laws).
use mathlib.Core.Path.{◌≡◌, sym, ◌∙◌}
use mathlib.Core.List.{append-nil}
use mir.Syntax.{w32}
use mir.Val.{SFits, to_z, of_z}
use mir.Facts.{to_z-of_z}
use Rattle.registers.specs.Text.{if◌then◌otherwise◌}
use Rattle.registers.specs.Settings.{value_at}
use Rattle.writer.proofs.lines.Laws.{wanted-value, bits-apart, bits-alike}
use Rattle.writer.proofs.lines.Draft.push_row.Goals as goal

pub push_line-requires : goal.push_line-requires
push_line-requires c =
    let h : SFits w32 c.value-value.result = record { sfits = c.value-value.type_inv } in
    let is : to_z w32 (of_z w32 c.value-value.result) ≡ value_at c.args.wanted c.args.slot = to_z-of_z {w = w32} h ∙ c.value-value.ensures in
    (rw is (wanted-value c.args.wanted c.requires.1 c.args.slot c.requires.0), c.requires.2)

pub returns-then-value : goal.returns-then-value
unfolding if◌then◌otherwise◌
returns-then-value c =
    let h : SFits w32 c.value-value.result = record { sfits = c.value-value.type_inv } in
    let is : to_z w32 (of_z w32 c.value-value.result) ≡ value_at c.args.wanted c.args.slot = to_z-of_z {w = w32} h ∙ c.value-value.ensures in
    rw (bits-apart c.value.ensures c.value-value.ensures c.if-value.true) (rw is at c.push_line.ensures)

pub returns-else-value : goal.returns-else-value
unfolding if◌then◌otherwise◌
returns-else-value c =
    rw (bits-alike c.value.ensures c.value-value.ensures c.value.type_inv c.value-value.type_inv c.if-value.false) (sym (append-nil c.args.self.now))
