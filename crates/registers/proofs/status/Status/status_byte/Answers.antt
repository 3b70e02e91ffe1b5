-- Every bit is a call of `bit_if`, bounded by its weight, so each sum fits in a byte; and the sum of what they promise is the
-- definition's summary (`summary-is`), over which bit 6 is decided (`byte-is`).
use borrow.Author.Rules.{rules}
use lib.ListN.{length}
use mathlib.Core.Path.{◌≡◌}
use Rattle.registers.specs.Queue.{most}
use Rattle.registers.proofs.status.Laws.{summary-is, byte-is}
use Rattle.registers.proofs.status.Status.status_byte.Goals as goal

pub returns : goal.returns
returns c =
    let s = c.args.self in
    let long : length s.errors ≡ most = search rules in
    let n = rw (← c.set_bits-sets.ensures.value, ← c.bit_if-standard.ensures.value, ← c.bit_if-answer.ensures.value, ← c.bit_if-queue.ensures.value) at (summary-is s c.args.answers long) in
    rw (c.bit_if.ensures.value, c.from.ensures) (byte-is s c.args.answers long _ n)
