-- A unit, in the order in which the code reads it: where the header starts (`ran`), what the search finds of it (`row-found`, for any path
-- that is held), and the checks of what comes after it. That this is the order of 01 is in unit/Chain.
use mathlib.Core.Path.{◌≡◌, refl, ap, ◌∙◌}
use mathlib.Core.List.{List}
use Prim.Native.Nat.{◌+◌, ◌≤◌}
use native.Mathlib.Omega.{arith}
use lib.ListN.{length, drop}
use borrow.Author.Rules.{rules}
use Rattle.registers.specs.Text.{Text}
use Rattle.registers.specs.Error.{meant}
use Rattle.interpreter.specs.Cuts.{trim}
use Rattle.interpreter.specs.HeaderParts.{IsPath}
use Rattle.interpreter.proofs.Lists.{rest-is}
use Rattle.interpreter.proofs.unit.Chain.{Runs, runs, bad-header, Headed, headed, read-refused, read-passed}
use Rattle.interpreter.proofs.unit.Trims.{trim-twice}
use Rattle.interpreter.proofs.unit.read.Goals as goal
use Rattle.interpreter.proofs.unit.read.Goals.{After-white_end-start, In-Some, After-trimmed-given}

ran : (c : After-white_end-start) → Runs c.args.unit.now c.white_end-start.result
ran c = runs c.args.unit.now c.white_end-start.result c.white_end-start.ensures

row-found : (c : In-Some) (names : List Text) → IsPath names c.args.path.now
    → let x = c.in-Some.looked in Headed c.args.settings names c.args.unit.now c.white_end-start.result (meant x.heading.place) x.heading.asked x.end c.look_up.new.path
row-found c names h =
    headed c.args.settings names c.args.unit.now (runs c.args.unit.now c.white_end-start.result c.white_end-start.ensures) c.look_up.result c.look_up.new.path
    (c.look_up.ensures names h) c.in-Some.is

ends : (c : In-Some) → c.white_end-start.result + c.in-Some.looked.end ≤ length c.args.unit.now
ends c = (row-found c c.requires.0 c.requires.1).ends

trims : (c : After-trimmed-given) → c.white_end-start.result + c.in-Some.looked.end ≤ length c.args.unit.now
    → c.trimmed-given.result.now ≡ trim (drop (c.white_end-start.result + c.in-Some.looked.end) c.args.unit.now)
trims c e = c.trimmed-given.ensures ∙ ap trim (rest-is c.args.unit.now (c.white_end-start.result + c.in-Some.looked.end) e)

pub slice_bounds-look_up-count : goal.slice_bounds-look_up-count
slice_bounds-look_up-count c = (ran (goal.at.slice_bounds-look_up-count c).After-white_end-start).within

pub slice_bounds-look_up-start : goal.slice_bounds-look_up-start
slice_bounds-look_up-start c = (ran (goal.at.slice_bounds-look_up-start c).After-white_end-start).within

pub returns-in_default : goal.returns-in_default
returns-in_default c =
    let a = c.args in
    λ names h. bad-header a.settings names a.unit.now (ran (goal.at.returns-in_default c).After-white_end-start) c.look_up.result c.look_up.new.path (c.look_up.ensures names h)
    c.in_default.is _ c.header_error.ensures

pub overflow_add-start : goal.overflow_add-start
overflow_add-start c = let e = ends (goal.at.overflow_add-start c).In-Some in omega (arith, c.well_formed)

pub slice_bounds-trimmed-count : goal.slice_bounds-trimmed-count
slice_bounds-trimmed-count c = ends (goal.at.slice_bounds-trimmed-count c).In-Some

pub slice_bounds-trimmed-start : goal.slice_bounds-trimmed-start
slice_bounds-trimmed-start c = ends (goal.at.slice_bounds-trimmed-start c).In-Some

pub decide_text-requires : goal.decide_text-requires
decide_text-requires c = rw c.trimmed-given.ensures (trim-twice _)

pub returns-in_err-deed : goal.returns-in_err-deed
returns-in_err-deed c =
    let a = c.args in
    let at = goal.at.returns-in_err-deed c in
    λ names h.
    let says =
    read-refused a.settings names a.unit.now (row-found at.In-Some names h) c.trimmed-given.result.now (trims at.After-trimmed-given (ends at.In-Some))
    c.in_err-deed.ensures in
    search rules

pub returns : goal.returns
returns c =
    let a = c.args in
    let at = goal.at.returns c in
    λ names h.
    read-passed a.settings names a.unit.now (row-found at.In-Some names h) c.trimmed-given.result.now (trims at.After-trimmed-given (ends at.In-Some))
    _ refl c.in_ok-deed.ensures
