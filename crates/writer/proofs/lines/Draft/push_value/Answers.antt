-- A word is appended; a number is laid over the tail (lines/Drafts).
use mathlib.Core.Path.{◌≡◌, sym, ◌∙◌, ap}
use native.Mathlib.Omega.{arith}
use mir.Syntax.{w32}
use mir.Val.{to_z, of_z}
use mir.Facts.{to_z-of_z}
use borrow.Author.Rules.{rules}
use lib.ListN.{length}
use Rattle.registers.specs.Settings.{kind_of, meant_values, answer_of}
use Rattle.writer.proofs.lines.Drafts.{laid-end, laid-view, laid-within}
use Rattle.writer.proofs.lines.Laws.{value-short}
use Rattle.writer.proofs.lines.Values.{tenths-text, decimal-text}
use Rattle.writer.proofs.lines.Draft.push_value.Goals as goal

pub push-requires : goal.push-requires
push-requires c =
    let back : to_z w32 (of_z w32 c.args.value) ≡ c.args.value = to_z-of_z {w = w32} c.ranges.value in
    let k = value-short c.requires.0 in
    let r = c.requires.1 in
    let e : length c.word_of.result.now ≡ length (answer_of (kind_of c.args.slot) c.args.value) = ap length (rw back at c.word_of.ensures) in omega arith

pub overflow_add-self : goal.overflow_add-self
overflow_add-self c =
    let back : to_z w32 (of_z w32 c.args.value) ≡ c.args.value = to_z-of_z {w = w32} c.ranges.value in
    let e = tenths-text (kind_of c.args.slot) c.args.value (ap meant_values (sym c.in-Tenths.is) ∙ c.values_of.ensures) in
    let k = value-short c.requires.0 in
    let r = c.requires.1 in
    let d = laid-end _ _ _ _ _ _ _ c.self.view_is c.self.invariant (search rules) (omega arith) (rw (back, sym e) at c.write_tenths.ensures) in omega arith

pub invariant_of-self : goal.invariant_of-self
invariant_of-self c =
    let back : to_z w32 (of_z w32 c.args.value) ≡ c.args.value = to_z-of_z {w = w32} c.ranges.value in
    let e = tenths-text (kind_of c.args.slot) c.args.value (ap meant_values (sym c.in-Tenths.is) ∙ c.values_of.ensures) in
    let k = value-short c.requires.0 in
    let r = c.requires.1 in
    laid-within _ _ _ _ _ _ _ c.self.view_is c.self.invariant (search rules) (omega arith) (rw (back, sym e) at c.write_tenths.ensures)

pub returns-in-Tenths : goal.returns-in-Tenths
returns-in-Tenths c =
    let back : to_z w32 (of_z w32 c.args.value) ≡ c.args.value = to_z-of_z {w = w32} c.ranges.value in
    let e = tenths-text (kind_of c.args.slot) c.args.value (ap meant_values (sym c.in-Tenths.is) ∙ c.values_of.ensures) in
    let k = value-short c.requires.0 in
    let r = c.requires.1 in
    laid-view _ _ _ _ _ _ _ c.self.view_is c.self.invariant (search rules) (omega arith) (rw (back, sym e) at c.write_tenths.ensures)

pub overflow_add-self-in-Whole : goal.overflow_add-self-in-Whole
overflow_add-self-in-Whole c =
    let back : to_z w32 (of_z w32 c.args.value) ≡ c.args.value = to_z-of_z {w = w32} c.ranges.value in
    let e = decimal-text c.values_of.result c.in-Whole.is (kind_of c.args.slot) c.args.value c.values_of.ensures in
    let k = value-short c.requires.0 in
    let r = c.requires.1 in
    let d = laid-end _ _ _ _ _ _ _ c.self-in-Whole.view_is c.self-in-Whole.invariant (search rules) (omega arith) (rw (back, sym e) at c.write_whole.ensures) in omega arith

pub invariant_of-self-in-Whole : goal.invariant_of-self-in-Whole
invariant_of-self-in-Whole c =
    let back : to_z w32 (of_z w32 c.args.value) ≡ c.args.value = to_z-of_z {w = w32} c.ranges.value in
    let e = decimal-text c.values_of.result c.in-Whole.is (kind_of c.args.slot) c.args.value c.values_of.ensures in
    let k = value-short c.requires.0 in
    let r = c.requires.1 in
    laid-within _ _ _ _ _ _ _ c.self-in-Whole.view_is c.self-in-Whole.invariant (search rules) (omega arith) (rw (back, sym e) at c.write_whole.ensures)

pub returns-in-Whole : goal.returns-in-Whole
returns-in-Whole c =
    let back : to_z w32 (of_z w32 c.args.value) ≡ c.args.value = to_z-of_z {w = w32} c.ranges.value in
    let e = decimal-text c.values_of.result c.in-Whole.is (kind_of c.args.slot) c.args.value c.values_of.ensures in
    let k = value-short c.requires.0 in
    let r = c.requires.1 in
    laid-view _ _ _ _ _ _ _ c.self-in-Whole.view_is c.self-in-Whole.invariant (search rules) (omega arith) (rw (back, sym e) at c.write_whole.ensures)
