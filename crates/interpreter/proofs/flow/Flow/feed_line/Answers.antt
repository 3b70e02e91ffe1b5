-- A line is the bytes before the newline that `find` tells, and the newline itself where there is one: these are held, and then the
-- newline runs them. Where there is none, all that are left are held and the line stays open.
use mathlib.Core.List.{[]}
use Prim.Native.Nat.{◌^◌, ◌<◌}
use lib.ListN.{length}
use native.Mathlib.Omega.{arith}
use Rattle.interpreter.specs.Box.{memory, blank}
use Rattle.interpreter.proofs.flow.Laws.{part-plain, part-read, line-open, line-ended, fed_then}
use Rattle.interpreter.proofs.flow.Flow.feed_line.Goals as goal

pub hold-requires : goal.hold-requires
hold-requires c =
    let a = c.args in
    let n = part-read a.bytes.now a.self.now.read c.find-end.result c.find-end.ensures.place (c.find-end.ensures.within c.requires) c.requires in
    (omega arith, part-plain a.bytes.now a.self.now.read c.find-end.result c.find-end.ensures.place (c.find-end.ensures.within c.requires))

pub newline-requires : goal.newline-requires
newline-requires c =
    let small : length c.args.bytes.now < 2 ^ 63 = omega arith in
    let a = c.args in
    let held = c.hold.ensures [] blank in
    let n = held.read in
    let more = c.if-end-bytes.true in
    let l = part-read a.bytes.now a.self.now.read c.find-end.result c.find-end.ensures.place (c.find-end.ensures.within c.requires) c.requires in
    omega (arith, small, n, l, more)

pub returns-then-end-bytes : goal.returns-then-end-bytes
returns-then-end-bytes c =
    let a = c.args in
    rw (line-ended a.bytes.now a.self.now.read c.find-end.result c.find-end.ensures.place (c.find-end.ensures.within c.requires) c.if-end-bytes.true)
    (fed_then _ _ _ _ _ _ _ _ _ _ _ _ _ _ (c.hold.ensures a.out.now (memory a.store.now)) c.newline.ensures)

pub returns-else-end-bytes : goal.returns-else-end-bytes
returns-else-end-bytes c =
    let a = c.args in
    rw (line-open a.bytes.now a.self.now.read c.find-end.result c.find-end.ensures.place (c.find-end.ensures.within c.requires) c.if-end-bytes.false) (c.hold.ensures a.out.now (memory a.store.now))
