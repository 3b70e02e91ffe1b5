-- The rows' lines, and behind them the text's, if it differs.
use mathlib.Core.Path.{◌≡◌, ap}
use native.Mathlib.Numerals.{add-one}
use native.Mathlib.Omega.{arith}
use lib.IntN.{pos}
use lib.Signed.{le_z}
use lib.ListN.{length}
use mir.Syntax.{w32}
use mir.Val.{SFits}
use mir.Facts.{to_z-of_z}
use Rattle.registers.specs.Settings.{table_count}
use Rattle.writer.specs.Lines.{lines_to}
use Rattle.writer.specs.LinesParts.{channel_number}
use Rattle.writer.proofs.Slots.{slot-at-below}
use Rattle.writer.proofs.lines.Laws.{slot-found, lines-short, lines-alone, lines-label}
use Rattle.writer.proofs.lines.Draft.of.Goals as goal

pub loop-place-init : goal.loop-place-init
unfolding lines_to
loop-place-init c = c.new-draft.ensures

pub push_row-requires : goal.push_row-requires
push_row-requires c =
    let a = c.args in
    let n = channel_number a.channel in
    let h : SFits w32 c.value-wide.result = record { sfits = c.value-wide.type_inv } in
    let e = slot-found a.wanted n c.loop-place.place c.slot_of.ensures c.value-wide.ensures (ap (le_z (pos 1)) (to_z-of_z {w = w32} h)) c.row_at.ensures c.slot_of-slot.ensures in
    let l = lines-short a.present a.wanted n c.requires c.loop-place.place (omega arith) in
    let d : length c.loop-place.draft ≡ length (lines_to a.present a.wanted n c.loop-place.place) = ap length c.loop-place.invariant in
    (rw e (slot-at-below a.wanted n c.loop-place.place c.loop-place-test.true), c.requires, omega arith)

pub loop-place-preserved : goal.loop-place-preserved
unfolding lines_to
loop-place-preserved c =
    let a = c.args in
    let n = channel_number a.channel in
    let h : SFits w32 c.value-wide.result = record { sfits = c.value-wide.type_inv } in
    let e = slot-found a.wanted n c.loop-place.place c.slot_of.ensures c.value-wide.ensures (ap (le_z (pos 1)) (to_z-of_z {w = w32} h)) c.row_at.ensures c.slot_of-slot.ensures in
    rw (add-one c.loop-place.place) (rw (e, c.loop-place.invariant) at c.push_row.ensures)

pub push_label-requires : goal.push_label-requires
push_label-requires c =
    let a = c.args in
    let n = channel_number a.channel in
    let l = lines-short a.present a.wanted n c.requires table_count (omega arith) in
    let p : c.loop-place.place ≡ table_count = omega arith in
    let d : length c.loop-place.draft ≡ length (lines_to a.present a.wanted n table_count) = ap length (rw p at c.loop-place.invariant) in omega arith

pub returns-then-ne : goal.returns-then-ne
returns-then-ne c =
    let p : c.loop-place.place ≡ table_count = omega arith in
    lines-label c.args.present c.args.wanted (channel_number c.args.channel) (rw p at c.loop-place.invariant) c.ne.ensures c.if-ne.true c.push_label.ensures

pub returns-else-ne : goal.returns-else-ne
returns-else-ne c =
    let p : c.loop-place.place ≡ table_count = omega arith in
    lines-alone c.args.present c.args.wanted (channel_number c.args.channel) (rw p at c.loop-place.invariant) c.ne.ensures c.if-ne.false
