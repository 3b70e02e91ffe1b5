-- The reply is written after the answers so far and their separator. Three ways: there is nothing to say, it leaves no room for the
-- newline, or it stands whole. Each is a law of reply/Answers.
use mathlib.Core.Path.{ap, ◌∙◌}
use Prim.Native.Nat.{◌+◌}
use Prim.Native.Char.{code}
use native.Mathlib.Omega.{arith}
use lib.ListN.{length-set}
use Rattle.interpreter.proofs.reply.Answers.{start-room, given-none, given-whole, given-over, end-room}
use Rattle.interpreter.proofs.reply.append.Goals as goal

pub returns-in_default : goal.returns-in_default
returns-in_default c = rw c.in_default.is (given-none _ c.args.out.now c.requires.0 c.requires.1)

pub overflow_add-start : goal.overflow_add-start
overflow_add-start c = let h = start-room c.args.answered c.requires.0 in rw c.from.ensures (omega arith)

pub slice_bounds-write-count : goal.slice_bounds-write-count
slice_bounds-write-count c = rw (length-set, c.from.ensures, c.requires.1) (start-room c.args.answered c.requires.0)

pub overflow_sub-out : goal.overflow_sub-out
overflow_sub-out c = rw (c.out-1.given.1, length-set, c.from.ensures, c.requires.1) (start-room c.args.answered c.requires.0)

pub shape_of-out-then-out-start : goal.shape_of-out-then-out-start
shape_of-out-then-out-start c = c.out-1.given.1 ∙ length-set c.args.out.now c.args.answered (code ";")

pub returns-then-out-start : goal.returns-then-out-start
returns-then-out-start c =
    let a = c.args in
    rw c.in-Some.is
    (given-over _ a.out.now c.requires.0 c.requires.1 c.in-Some.reply (ap (λ n. a.answered + n) c.from.ensures) c.write-n.ensures
    c.out-1.given.1 c.if-out-start.true)

pub overflow_add-result : goal.overflow_add-result
overflow_add-result c =
    let a = c.args in
    let h =
    end-room _ a.out.now c.requires.0 c.requires.1 c.in-Some.reply (ap (λ n. a.answered + n) c.from.ensures) c.write-n.ensures
    c.out-1.given.1 c.if-out-start.false in
    omega arith

pub shape_of-out : goal.shape_of-out
shape_of-out c = c.out-1.given.1 ∙ length-set c.args.out.now c.args.answered (code ";")

pub returns : goal.returns
returns c =
    let a = c.args in
    rw c.in-Some.is
    (given-whole _ a.out.now c.requires.0 c.requires.1 c.in-Some.reply (ap (λ n. a.answered + n) c.from.ensures) c.write-n.ensures
    c.out-1.given.1 c.if-out-start.false)
