-- The two refusals compute from their tests. Where neither comes, the value is the definition's by the sign of the exponent: powers of
-- ten only ever add up, or one is taken from the other as far as it goes.
use native.Mathlib.Nat.{zero-add}
use borrow.Author.Tests.{lt-leb, le-leb, lt-ltb, le-ltb}
use Rattle.registers.specs.Check.{check, ◌>>◌}
use Rattle.registers.specs.Number.{most_exponent, decimal_of, scaled}
use Rattle.registers.specs.NumberParts.{held, value_read}
use Rattle.registers.specs.Text.{if◌then◌otherwise◌}
use Rattle.registers.proofs.number.value_of.Goals as goal

pub returns-then-digits-ge-HELD : goal.returns-then-digits-ge-HELD
unfolding value_read check ◌>>◌
returns-then-digits-ge-HELD c = rw (le-ltb c.args.mantissa.value held c.if-digits-ge-HELD.true)

pub returns-then-size-gt-MOST_EXPONENT : goal.returns-then-size-gt-MOST_EXPONENT
unfolding value_read check ◌>>◌
returns-then-size-gt-MOST_EXPONENT c =
    let a = c.args in
    rw (lt-ltb a.mantissa.value held c.if-digits-ge-HELD.false, lt-leb a.exponent.size most_exponent c.if-size-gt-MOST_EXPONENT.true)

pub returns-then-exponent : goal.returns-then-exponent
unfolding decimal_of scaled if◌then◌otherwise◌ value_read check ◌>>◌
returns-then-exponent c =
    let a = c.args in
    rw (
      lt-ltb a.mantissa.value held c.if-digits-ge-HELD.false,
      le-leb a.exponent.size most_exponent c.if-size-gt-MOST_EXPONENT.false,
      c.if-exponent.true,
      zero-add a.power.up,
      c.from-up.ensures,
      c.from-down.ensures,
    )

pub returns : goal.returns
unfolding decimal_of scaled if◌then◌otherwise◌ value_read check ◌>>◌
returns c =
    let a = c.args in
    rw (
      lt-ltb a.mantissa.value held c.if-digits-ge-HELD.false,
      le-leb a.exponent.size most_exponent c.if-size-gt-MOST_EXPONENT.false,
      c.if-exponent.false,
      c.saturating_sub.ensures,
      c.saturating_sub-2.ensures,
      c.from-up.ensures,
      c.from-down.ensures,
    )
