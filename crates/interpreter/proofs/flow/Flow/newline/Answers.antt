-- What waits is discarded and the line that was held is run; the line is then empty. `ended` (line/Newline) says that this is what a
-- newline does to the box, and the rest counts: one byte and one newline more.
use mathlib.Core.Path.{◌≡◌, refl}
use Prim.Native.Nat.{◌<◌}
use native.Mathlib.Omega.{arith}
use lib.ListN.{length, take}
use borrow.Author.Rules.{rules}
use Rattle.registers.specs.Text.{if◌then◌otherwise◌}
use Rattle.interpreter.specs.Box.{memory, most_answer}
use Rattle.interpreter.specs.Line.{byte, piece, newlines}
use Rattle.interpreter.proofs.line.Newline.{ended}
use Rattle.interpreter.proofs.flow.Flow.newline.Goals as goal

pub run_held-requires : goal.run_held-requires
run_held-requires c = c.discard.ensures.0.gone

pub returns : goal.returns
unfolding piece byte newlines if◌then◌otherwise◌
returns c =
    let a = c.args in
    let f = a.self.now in
    let outs : length a.out.now ≡ most_answer = search rules in
    let room : 0 < length a.out.now = omega arith in
    let d = c.discard.ensures in
    let w = c.run_held.ensures in
    record {
      box = rw (← ended f.present a.out.now (memory a.store.now) _ d.0 room (take f.filled a.line.now) f.overlong) (rw (d.1.filled, d.1.overlong) at w.0.box);
      read = rw (w.1.read, d.1.read) refl;
      count = rw (w.1.count, d.1.count) refl;
    }
