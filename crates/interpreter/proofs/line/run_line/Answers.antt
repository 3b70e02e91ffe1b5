-- Four ways through a newline: an overlong line raises -363, a blank one does nothing, and what its units answer, if anything, is ended
-- by a newline. Each way is a law of line/Newline.
use mathlib.Core.Path.{◌≡◌}
use mathlib.Core.Bool.{false}
use native.Mathlib.Omega.{arith}
use lib.ListN.{length}
use Rattle.registers.specs.Text.{white, every}
use Rattle.registers.specs.declared.error.Error.TheVariants.{InputBufferOverrun}
use Rattle.interpreter.specs.Box.{memory, most_answer}
use Rattle.interpreter.specs.PresentParts.{raised_with}
use Rattle.registers.specs.Queue.{most}
use Rattle.interpreter.proofs.present.Laws.{raised-short}
use Rattle.interpreter.proofs.line.Newline.{blank, not-blank, line-overlong, line-blank, line-none, line-some}
use borrow.Author.Rules.{rules}
use Rattle.interpreter.proofs.line.run_line.Goals as goal

pub returns-then-overlong : goal.returns-then-overlong
unfolding raised_with
returns-then-overlong c =
    let a = c.args in
    let long : length a.running.present.status.errors ≡ most = search rules in
    let raised = c.raise.ensures in let none = c.requires in
    record {
      queued = rw raised (raised-short InputBufferOverrun a.running.present long a.running.queue_fits);
      room = rw (raised, none) (omega arith);
      box = rw (raised, none) (line-overlong a.running.present a.line.now a.overlong (memory a.store.now) long c.if-overlong.true);
    }

pub returns-then-white_end-line : goal.returns-then-white_end-line
returns-then-white_end-line c =
    let a = c.args in
    let none = c.requires in
    record {
      queued = a.running.queue_fits;
      room = rw none (omega arith);
      box = rw none (line-blank a.running.present a.line.now a.overlong (memory a.store.now) c.if-overlong.false (blank a.line.now c.white_end.result c.white_end.ensures c.if-white_end-line.true));
    }

pub run_units-requires : goal.run_units-requires
run_units-requires c = c.requires

pub returns-then-answered-eq0 : goal.returns-then-answered-eq0
returns-then-answered-eq0 c =
    let visible : every white c.args.line.now ≡ false = not-blank c.args.line.now c.white_end.result c.white_end.ensures c.if-white_end-line.false in
    let a = c.args in
    let w = c.run_units.ensures in let room = c.run_units.result.room_left in
    record {
      queued = c.run_units.result.queue_fits;
      room = omega arith;
      box = line-none a.running.present a.line.now a.overlong (memory a.store.now) c.if-overlong.false visible c.run_units.result.present _ _ room w c.if-answered-eq0.true;
    }

pub returns : goal.returns
returns c =
    let visible : every white c.args.line.now ≡ false = not-blank c.args.line.now c.white_end.result c.white_end.ensures c.if-white_end-line.false in
    let a = c.args in
    let w = c.run_units.ensures in let room = c.run_units.result.room_left in
    let long : length c.run_units.new.out ≡ most_answer = search rules in
    record {
      queued = c.run_units.result.queue_fits;
      room = omega arith;
      box = line-some a.running.present a.line.now a.overlong (memory a.store.now) c.if-overlong.false visible c.run_units.result.present _ _ room w c.if-answered-eq0.false long;
    }
