-- White space is passed over at the start, and dropped at the end byte by byte (unit/Trims).
use mathlib.Core.Path.{sym, ◌∙◌}
use native.Mathlib.Omega.{arith}
use Rattle.registers.specs.Text.{white}
use Rattle.registers.proofs.text.Laws.{end-drop, end-within}
use Rattle.interpreter.specs.Cuts.{trim}
use Rattle.interpreter.proofs.Lists.{rest-is}
use Rattle.interpreter.proofs.unit.Trims.{end-white, end-visible, end-none}
use Rattle.interpreter.proofs.unit.trimmed.Goals as goal

pub slice_bounds-rest-count : goal.slice_bounds-rest-count
slice_bounds-rest-count c = end-within white c.args.text.now 0 c.white_end.result c.white_end.ensures (omega arith)

pub slice_bounds-rest-start : goal.slice_bounds-rest-start
slice_bounds-rest-start c = end-within white c.args.text.now 0 c.white_end.result c.white_end.ensures (omega arith)

pub loop-rest-init : goal.loop-rest-init
unfolding trim
loop-rest-init c =
    let t = c.args.text.now in
    let e = c.white_end.result in
    rw (rest-is t e (end-within white t 0 e c.white_end.ensures (omega arith)), end-drop white t 0 e c.white_end.ensures)

pub returns-then-not-is_white : goal.returns-then-not-is_white
returns-then-not-is_white c = end-visible c.loop-rest.rest.now c.in-len1-up.len_at_least (sym c.if-not-is_white.ensures) ∙ c.loop-rest.invariant

pub loop-rest-preserved : goal.loop-rest-preserved
loop-rest-preserved c = end-white c.loop-rest.rest.now c.in-len1-up.len_at_least (sym c.if-not-is_white.ensures) ∙ c.loop-rest.invariant

pub returns : goal.returns
returns c = end-none c.loop-rest.rest.now c.in_default.len_below ∙ c.loop-rest.invariant
