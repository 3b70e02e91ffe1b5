-- By the arms, one after the other.
use mathlib.Core.Path.{◌≡◌, refl}
use mathlib.Core.Bool.{Bool, true, false, ◌&&◌}
use lib.Dec.{eqb}
use borrow.Author.Tests.{ne_eqb}
use Rattle.registers.specs.Text.{if◌then◌otherwise◌}
use Rattle.registers.specs.Settings.{voltage, range}
use Rattle.writer.specs.Lines.{row_at}
use Rattle.writer.proofs.lines.row_at.Goals as goal

pub returns-in-4 : goal.returns-in-4
unfolding row_at if◌then◌otherwise◌
returns-in-4 c = rw (c.in-4.is, c.if-wide.true)

pub returns-in-5 : goal.returns-in-5
unfolding row_at if◌then◌otherwise◌
returns-in-5 c = rw (c.in-5.is, c.if-wide-2.true)

pub returns-in_default : goal.returns-in_default
unfolding row_at if◌then◌otherwise◌
returns-in_default c = rw c.if-wide.false

pub returns-in_default-2 : goal.returns-in_default-2
unfolding row_at if◌then◌otherwise◌
returns-in_default-2 c = rw c.if-wide-2.false

pub returns-in_default-3 : goal.returns-in_default-3
unfolding row_at if◌then◌otherwise◌
returns-in_default-3 c = go c.args.wide
  where
    go : (t : Bool) → c.args.place ≡ (if t && eqb c.args.place voltage then range otherwise (if t && eqb c.args.place range then voltage otherwise c.args.place))
    go true = let r = c.in_default.in_default-own.rest in rw (ne_eqb c.args.place voltage r.0.1, ne_eqb c.args.place range r.1) refl
    go false = refl
