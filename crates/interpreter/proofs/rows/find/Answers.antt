use mathlib.Core.Path.{◌∙◌, ap}
use Rattle.interpreter.specs.TableParts.{start_of}
use Rattle.interpreter.proofs.rows.Rows.{nodes-few, node-known, unformed, is-formed}
use Rattle.interpreter.proofs.rows.Search.{seek-start, seek-end, skip-form, try-start, try-on, try-missed, try-left, try-done}
use native.Mathlib.Omega.{arith}
use Rattle.interpreter.proofs.rows.find.Goals as goal

pub rows-init : goal.rows-init
rows-init c = seek-start (c.start_row-row.ensures ∙ ap start_of c.mark.ensures.is)

pub rows-preserved-then-row_cell-bit-eq0 : goal.rows-preserved-then-row_cell-bit-eq0
rows-preserved-then-row_cell-bit-eq0 c =
    let f = rw c.form_bit-bit.ensures at (unformed _ _ _ c.row_cell.ensures c.if-row_cell-bit-eq0.true) in
    skip-form c.rows.invariant c.rows-test.true f

pub loop-passed-init : goal.loop-passed-init
loop-passed-init c =
    let f = rw c.form_bit-bit.ensures at (is-formed _ _ _ c.row_cell.ensures c.if-row_cell-bit-eq0.false) in
    try-start c.rows-test.true c.rows.invariant f c.row_cell-n.ensures

pub row_cell-requires-in-loop-passed : goal.row_cell-requires-in-loop-passed
row_cell-requires-in-loop-passed c =
    let f = nodes-few _ c.loop-passed.invariant.known in
    let k = c.loop-passed.invariant.count in
    (c.rows-test.true, omega arith)

pub take_node-requires : goal.take_node-requires
take_node-requires c =
    let n = c.loop-passed.invariant.count in
    let k = node-known _ c.loop-passed.invariant.known c.loop-passed.passed (omega arith) in
    (c.loop-passed.invariant.within, rw c.row_cell-in-loop-passed.ensures k)

pub rows-preserved-in_default : goal.rows-preserved-in_default
rows-preserved-in_default c = try-missed c.loop-passed.invariant c.loop-passed-test.true c.row_cell-in-loop-passed.result c.row_cell-in-loop-passed.ensures c.take_node.result c.take_node.ensures c.in_default.is

pub loop-passed-preserved : goal.loop-passed-preserved
loop-passed-preserved c = try-on c.loop-passed.invariant c.loop-passed-test.true c.row_cell-in-loop-passed.result c.row_cell-in-loop-passed.ensures c.take_node.result c.take_node.ensures c.in-Some.is

pub returns-then-names-at : goal.returns-then-names-at
returns-then-names-at c = try-done c.loop-passed.invariant c.loop-passed-test.false c.if-names-at.true

pub rows-preserved : goal.rows-preserved
rows-preserved c = try-left c.loop-passed.invariant c.loop-passed-test.false (omega arith)

pub returns : goal.returns
returns c = seek-end c.rows.invariant c.rows-test.false
