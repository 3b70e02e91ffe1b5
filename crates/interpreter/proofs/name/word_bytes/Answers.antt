use mathlib.Core.Path.{◌≡◌, sym, ◌∙◌}
use lib.ListN.{length}
use lib.Seq.{take_all}
use native.Mathlib.Omega.{arith}
use Rattle.registers.specs.Text.{word_byte, start}
use Rattle.registers.proofs.text.Laws.{take-start, way_on, way-stop, way_end}
use Rattle.interpreter.proofs.name.word_bytes.Goals as goal

pub returns-then-not-is_word_byte : goal.returns-then-not-is_word_byte
returns-then-not-is_word_byte c =
    let e = way-stop word_byte c.args.text.now 0 c.loop-i.i c.loop-i.invariant c.loop-i-test.true (sym c.is_word_byte.ensures ∙ c.if-not-is_word_byte.true) in
    let n : c.loop-i.i ≡ length (start word_byte c.args.text.now) = omega (arith, e) in
    rw n (take-start word_byte c.args.text.now)

pub loop-i-preserved : goal.loop-i-preserved
loop-i-preserved c = way_on word_byte _ _ _ c.loop-i.invariant c.loop-i-test.true (sym c.is_word_byte.ensures ∙ c.if-not-is_word_byte.false)

pub returns : goal.returns
returns c =
    let e = way_end word_byte c.args.text.now 0 c.loop-i.i c.loop-i.invariant c.loop-i-test.false in
    sym (take_all (length (start word_byte c.args.text.now)) c.args.text.now (omega (arith, e))) ∙ take-start word_byte c.args.text.now
