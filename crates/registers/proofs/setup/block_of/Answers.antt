use mathlib.Core.Path.{◌≡◌, refl, ◌∙◌}
use Prim.Native.Nat.{◌≤◌}
use native.Mathlib.Omega.{arith}
use lib.ListN.{length, length-take, length-drop, length-append}
use borrow.Rule.Slice.PartMut.{put_mid}
use mir.Syntax.{w32}
use mir.Facts.{to_z-of_z}
use borrow.Author.Rules.{rules}
use Rattle.registers.specs.Label.{most_text}
use Rattle.registers.specs.Settings.{value_at}
use Rattle.registers.proofs.setup.Blocks.{fill-begun, fill_on, text-filled, block_made}
use Rattle.registers.proofs.setup.block_of.Goals as goal

pub loop-row-init : goal.loop-row-init
loop-row-init c = fill-begun _

pub loop-row-preserved : goal.loop-row-preserved
loop-row-preserved c =
    let l = c.loop-row in
    let s = c.args.settings in
    let back = to_z-of_z {w = w32} {z = value_at s l.row} (search rules) in
    rw c.to_le_bytes.ensures (fill_on s l.block l.row c.shift.result l.invariant (omega arith) (rw back at c.shift.ensures))

pub slice_bounds-weigh-end : goal.slice_bounds-weigh-end
slice_bounds-weigh-end c =
    let copied = c.copy_from_slice.ensures.len in
    let whole : length (put_mid 62 32 c.loop-row.block c.copy_from_slice.new.self) ≡ 512 = rw (length-append, length-append, length-take, length-drop, copied, length-take, length-drop, c.loop-row-test.array_long) refl in
    let room : 508 ≤ length (put_mid 62 32 c.loop-row.block c.copy_from_slice.new.self) = omega arith in
    search rules

pub weigh-sum-requires : goal.weigh-sum-requires
weigh-sum-requires c = rw length-take (omega arith)

pub returns : goal.returns
returns c =
    let s = c.args.settings in
    let long : length s.text ≡ most_text = search rules in
    let filled = text-filled s c.loop-row.block _ c.loop-row.row c.loop-row.invariant (omega arith) long c.copy_from_slice.ensures.after in
    block_made s _ c.copy_from_slice-2.new.self c.weigh-sum.result filled c.weigh-sum.ensures (c.copy_from_slice-2.ensures.after ∙ c.to_le_bytes-2.ensures)
