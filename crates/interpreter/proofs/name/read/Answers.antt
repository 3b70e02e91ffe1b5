-- The stem is read after the name's first letter, and the suffix after the stem. That the two are the whole name is in name/Laws.
use mathlib.Core.Path.{sym, ap, ◌∙◌}
use Prim.Native.Nat.{◌+◌}
use lib.ListN.{length, drop, length-drop}
use Rattle.registers.proofs.text.Laws.{start-short}
use Rattle.registers.specs.Text.{letter, digit, word_byte}
use Rattle.interpreter.specs.NameParts.{with_code, class_of}
use Rattle.interpreter.proofs.Lists.{rest-is}
use Rattle.interpreter.proofs.table.Codes.{code-small}
use Rattle.interpreter.proofs.table.Keys.{class-most}
use Rattle.interpreter.proofs.name.Laws.{key-few, name-within, ends-within, whole-name, plain-name}
use native.Mathlib.Omega.{arith}
use Rattle.interpreter.proofs.name.read.Goals as goal

pub returns-then-not-is_letter : goal.returns-then-not-is_letter
returns-then-not-is_letter c = ap letter (sym c.byte_at-lead.ensures) ∙ sym c.is_letter.ensures ∙ c.if-not-is_letter.true

pub overflow_add-at : goal.overflow_add-at
overflow_add-at c =
    let a = c.args in
    let w = name-within a.text.now a.at _ c.byte_at-lead.ensures (sym c.is_letter.ensures ∙ c.if-not-is_letter.false) in
    omega arith

pub slice_bounds-read_stem-count : goal.slice_bounds-read_stem-count
slice_bounds-read_stem-count c =
    let a = c.args in
    let w = name-within a.text.now a.at _ c.byte_at-lead.ensures (sym c.is_letter.ensures ∙ c.if-not-is_letter.false) in
    omega arith

pub slice_bounds-read_stem-start : goal.slice_bounds-read_stem-start
slice_bounds-read_stem-start c =
    let a = c.args in
    let w = name-within a.text.now a.at _ c.byte_at-lead.ensures (sym c.is_letter.ensures ∙ c.if-not-is_letter.false) in
    omega arith

pub overflow_add-end : goal.overflow_add-end
overflow_add-end c =
    let a = c.args in
    let w = name-within a.text.now a.at _ c.byte_at-lead.ensures (sym c.is_letter.ensures ∙ c.if-not-is_letter.false) in
    omega arith

pub overflow_add-end-2 : goal.overflow_add-end-2
overflow_add-end-2 c =
    let a = c.args in
    let w = name-within a.text.now a.at _ c.byte_at-lead.ensures (sym c.is_letter.ensures ∙ c.if-not-is_letter.false) in
    let stem = rw (rest-is a.text.now (a.at + 1) (omega arith)) at c.read_stem-stem.ensures in
    let within = ends-within a.text.now a.at _ c.byte_at-lead.ensures (sym c.is_letter.ensures ∙ c.if-not-is_letter.false) c.read_stem-stem.result stem in
    omega arith

pub slice_bounds-word_bytes-count : goal.slice_bounds-word_bytes-count
slice_bounds-word_bytes-count c =
    let a = c.args in
    let w = name-within a.text.now a.at _ c.byte_at-lead.ensures (sym c.is_letter.ensures ∙ c.if-not-is_letter.false) in
    let stem = rw (rest-is a.text.now (a.at + 1) (omega arith)) at c.read_stem-stem.ensures in
    let within = ends-within a.text.now a.at _ c.byte_at-lead.ensures (sym c.is_letter.ensures ∙ c.if-not-is_letter.false) c.read_stem-stem.result stem in
    within

pub slice_bounds-word_bytes-start : goal.slice_bounds-word_bytes-start
slice_bounds-word_bytes-start c =
    let a = c.args in
    let w = name-within a.text.now a.at _ c.byte_at-lead.ensures (sym c.is_letter.ensures ∙ c.if-not-is_letter.false) in
    let stem = rw (rest-is a.text.now (a.at + 1) (omega arith)) at c.read_stem-stem.ensures in
    let within = ends-within a.text.now a.at _ c.byte_at-lead.ensures (sym c.is_letter.ensures ∙ c.if-not-is_letter.false) c.read_stem-stem.result stem in
    within

pub with_code-key-requires : goal.with_code-key-requires
with_code-key-requires c = rw c.code.ensures (code-small _)

pub returns-then-not-is_digit : goal.returns-then-not-is_digit
returns-then-not-is_digit c =
    let a = c.args in
    let w = name-within a.text.now a.at _ c.byte_at-lead.ensures (sym c.is_letter.ensures ∙ c.if-not-is_letter.false) in
    let stem = rw (rest-is a.text.now (a.at + 1) (omega arith)) at c.read_stem-stem.ensures in
    let key = c.with_code-key.ensures ∙ ap (with_code c.read_stem-stem.result.key) c.code.ensures in
    let none = ap digit (sym c.byte_at.ensures) ∙ sym c.is_digit.ensures ∙ c.if-not-is_digit.true in
    rw key (plain-name a.text.now a.at _ c.byte_at-lead.ensures (sym c.is_letter.ensures ∙ c.if-not-is_letter.false) c.read_stem-stem.result stem none)

-- a suffix is at most 4
pub overflow_mul-result : goal.overflow_mul-result
overflow_mul-result c = let m = class-most c.word_bytes-suffix.result.now in omega (arith, m, c.class.ensures)

pub overflow_add-result : goal.overflow_add-result
overflow_add-result c =
    let a = c.args in
    let w = name-within a.text.now a.at _ c.byte_at-lead.ensures (sym c.is_letter.ensures ∙ c.if-not-is_letter.false) in
    let m = class-most c.word_bytes-suffix.result.now in
    let f = key-few c.read_stem-stem.result.key c.byte_at-lead.result in
    omega (arith, m, f, c.class.ensures, c.with_code-key.ensures ∙ ap (with_code c.read_stem-stem.result.key) c.code.ensures)

pub overflow_add-result-2 : goal.overflow_add-result-2
overflow_add-result-2 c =
    let a = c.args in
    let w = name-within a.text.now a.at _ c.byte_at-lead.ensures (sym c.is_letter.ensures ∙ c.if-not-is_letter.false) in
    let stem = rw (rest-is a.text.now (a.at + 1) (omega arith)) at c.read_stem-stem.ensures in
    let within = ends-within a.text.now a.at _ c.byte_at-lead.ensures (sym c.is_letter.ensures ∙ c.if-not-is_letter.false) c.read_stem-stem.result stem in
    let n = start-short word_byte (drop (a.at + 1 + c.read_stem-stem.result.end) a.text.now) in
    let d = length-drop (a.at + 1 + c.read_stem-stem.result.end) a.text.now in
    let long = ap length (rw (rest-is a.text.now (a.at + 1 + c.read_stem-stem.result.end) within) at c.word_bytes-suffix.ensures) in
    omega (arith, long)

pub returns : goal.returns
returns c =
    let a = c.args in
    let w = name-within a.text.now a.at _ c.byte_at-lead.ensures (sym c.is_letter.ensures ∙ c.if-not-is_letter.false) in
    let stem = rw (rest-is a.text.now (a.at + 1) (omega arith)) at c.read_stem-stem.ensures in
    let within = ends-within a.text.now a.at _ c.byte_at-lead.ensures (sym c.is_letter.ensures ∙ c.if-not-is_letter.false) c.read_stem-stem.result stem in
    let key = c.with_code-key.ensures ∙ ap (with_code c.read_stem-stem.result.key) c.code.ensures in
    let suffix = rw (rest-is a.text.now (a.at + 1 + c.read_stem-stem.result.end) within) at c.word_bytes-suffix.ensures in
    rw key (whole-name a.text.now a.at _ c.byte_at-lead.ensures (sym c.is_letter.ensures ∙ c.if-not-is_letter.false) c.read_stem-stem.result stem c.class.result (length c.word_bytes-suffix.result.now)
    (c.class.ensures ∙ ap class_of suffix) (ap length suffix))
