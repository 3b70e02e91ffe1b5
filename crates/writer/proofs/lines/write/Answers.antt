-- Number 6 by the channel and by the code's test, else what is copied (lines/Whole). What the code's tests say is left to `grind`, so that another
-- form of them is judged by what it says.
use mathlib.Core.Path.{◌≡◌}
use mathlib.Core.Bool.{true, false}
use native.Mathlib.Omega.{arith}
use borrow.Author.Rules.{rules}
use Rattle.std.specs.Prelude.{Ok, Err}
use Rattle.registers.specs.Text.{if◌then◌otherwise◌}
use Rattle.writer.specs.LinesParts.{named}
use Rattle.writer.proofs.lines.Whole.{refusing, tested, other-channel, unfit, whole}
use Rattle.writer.proofs.lines.write.Goals as goal

pub returns-in_err-channel : goal.returns-in_err-channel
unfolding if◌then◌otherwise◌
returns-in_err-channel c =
    let a = c.args in
    let is : c.from_residual.result ≡ Err c.in_err-channel.field-0.0 = search rules in
    let other : named a.channel ≡ Err c.in_err-channel.field-0.0 = grind arith in
    rw is (other-channel a.present a.wanted a.channel a.buffer.now other)

pub returns-then-good-here : goal.returns-then-good-here
returns-then-good-here c =
    let a = c.args in
    let no : refusing c.possible.result c.possible-2.result c.value-here.result c.value-there.result ≡ true = grind arith in
    unfit a.present a.wanted a.channel a.buffer.now
    (tested a.present a.wanted c.value-here.type_inv c.value-there.type_inv c.value-here.ensures c.value-there.ensures c.possible.ensures c.possible-2.ensures no)

pub returns : goal.returns
returns c =
    let a = c.args in
    let one : named a.channel ≡ Ok c.in_ok-channel.channel = grind arith in
    let yes : refusing c.possible.result c.possible-2.result c.value-here.result c.value-there.result ≡ false = grind arith in
    whole a.present a.wanted a.channel a.buffer.now one
    (tested a.present a.wanted c.value-here.type_inv c.value-there.type_inv c.value-here.ensures c.value-there.ensures c.possible.ensures c.possible-2.ensures yes)
    (rw c.of.ensures at c.copy_to.ensures)
