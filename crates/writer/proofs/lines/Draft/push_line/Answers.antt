-- The header, a blank, the value and a newline, one after another.
use mathlib.Core.Path.{◌≡◌}
use native.Mathlib.Omega.{arith}
use mir.Syntax.{w32}
use mir.Val.{to_z, of_z}
use mir.Facts.{to_z-of_z}
use Rattle.registers.specs.Settings.{kind_of, answer_of}
use Rattle.writer.specs.Lines.{header_for}
use Rattle.writer.proofs.Headers.{header-short}
use Rattle.writer.proofs.lines.Laws.{value-short, long-then, line-whole}
use Rattle.writer.proofs.lines.Draft.push_line.Goals as goal

pub push-requires : goal.push-requires
push-requires c =
    let k = header-short c.args.slot c.requires.0.row in
    let r = c.requires.1 in rw c.header_of.ensures (omega arith)

pub push-requires-2 : goal.push-requires-2
push-requires-2 c =
    let k = header-short c.args.slot c.requires.0.row in
    let r = c.requires.1 in
    let l = long-then _ c.args.self.now (header_for c.args.slot) (rw c.header_of.ensures at c.push.ensures) in omega arith

pub push_value-requires : goal.push_value-requires
push_value-requires c =
    let back : to_z w32 (of_z w32 c.args.value) ≡ c.args.value = to_z-of_z {w = w32} c.ranges.value in
    let k = header-short c.args.slot c.requires.0.row in
    let r = c.requires.1 in
    let l = long-then _ c.args.self.now (header_for c.args.slot) (rw c.header_of.ensures at c.push.ensures) in
    let m = long-then _ c.push.new.self _ c.push-2.ensures in (rw back c.requires.0, omega arith)

pub push-requires-3 : goal.push-requires-3
push-requires-3 c =
    let back : to_z w32 (of_z w32 c.args.value) ≡ c.args.value = to_z-of_z {w = w32} c.ranges.value in
    let k = header-short c.args.slot c.requires.0.row in
    let v = value-short c.requires.0 in
    let r = c.requires.1 in
    let l = long-then _ c.args.self.now (header_for c.args.slot) (rw c.header_of.ensures at c.push.ensures) in
    let m = long-then _ c.push.new.self _ c.push-2.ensures in
    let n = long-then _ c.push-2.new.self (answer_of (kind_of c.args.slot) c.args.value) (rw back at c.push_value.ensures) in omega arith

pub returns : goal.returns
returns c =
    let back : to_z w32 (of_z w32 c.args.value) ≡ c.args.value = to_z-of_z {w = w32} c.ranges.value in
    line-whole c.args.slot c.args.value c.args.self.now (rw c.header_of.ensures at c.push.ensures) c.push-2.ensures (rw back at c.push_value.ensures) c.push-3.ensures
