use Prim.Native.Nat.{◌<◌}
use native.Mathlib.Omega.{arith}
use lib.Dec.{ltb}
use lib.ListN.{length}
use borrow.Author.Tests.{ltb-true}
use Rattle.registers.proofs.Tests.{and_both}
use Rattle.interpreter.proofs.line.Units.{going_start, going_stop, going_next}
use Rattle.interpreter.proofs.line.run_units.Goals as goal

pub loop-path-init : goal.loop-path-init
loop-path-init c =
    let a = c.args in
    going_start a.running a.line.now c.root-path.result a.out.now a.store.now c.root-path.ensures c.requires

pub part_end-end-requires : goal.part_end-end-requires
part_end-end-requires c = c.loop-path.invariant.within

pub slice_bounds-run_unit-count : goal.slice_bounds-run_unit-count
slice_bounds-run_unit-count c = omega (arith, c.part_end-end.ensures.0)

pub run_unit-ran-requires : goal.run_unit-ran-requires
run_unit-ran-requires c = let g = c.loop-path.invariant in (g.path, g.holds)

pub returns-then-not-more : goal.returns-then-not-more
returns-then-not-more c =
    let g = c.loop-path.invariant in
    going_stop _ _ _ _ _ _ _ g c.part_end-end.result c.part_end-end.ensures.0 c.part_end-end.ensures.1 c.run_unit-ran.new.path _ _ c.run_unit-ran.new.running c.goes_on.new.running _
    (c.run_unit-ran.ensures g.path g.holds) _ c.goes_on.ensures c.if-not-more.true

pub loop-path-smaller : goal.loop-path-smaller
loop-path-smaller c =
    let end = c.part_end-end.result in
    let all = length c.args.line.now in
    let more : end < all = ltb-true end all (and_both c.goes_on.result (ltb end all) c.if-not-more.false).1 in
    omega (arith, c.part_end-end.ensures.0)

pub loop-path-preserved : goal.loop-path-preserved
loop-path-preserved c =
    let g = c.loop-path.invariant in
    going_next _ _ _ _ _ _ _ g c.part_end-end.result c.part_end-end.ensures.0 c.part_end-end.ensures.1 c.run_unit-ran.new.path _ _ c.run_unit-ran.new.running c.goes_on.new.running _
    (c.run_unit-ran.ensures g.path g.holds) _ c.goes_on.ensures c.if-not-more.false
