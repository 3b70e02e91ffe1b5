-- The first byte decides: a letter begins a suffix, any other byte is -121, and nothing at all multiplies by one.
use mathlib.Core.Path.{sym}
use native.Mathlib.Omega.{arith}
use Rattle.std.proofs.lemmas.List.{nil_from_length}
use Rattle.registers.specs.Text.{if◌then◌otherwise◌, letter, small}
use Rattle.registers.specs.Check.{check, ◌>>◌}
use Rattle.registers.specs.Suffix.{remains}
use Rattle.registers.proofs.suffix.Laws.{first-left}
use Rattle.registers.proofs.suffix.read.Goals as goal

pub returns-in-None : goal.returns-in-None
unfolding remains letter small check ◌>>◌ if◌then◌otherwise◌
returns-in-None c = rw (← c.rest-remainder.ensures, nil_from_length c.rest-remainder.result.now (omega (arith, c.in-None.ensures.item.3)))

pub returns-in-Some : goal.returns-in-Some
unfolding remains if◌then◌otherwise◌
returns-in-Some c =
    let s = first-left c.rest-remainder.result.now c.in-Some.b.now c.in-Some.ensures.item.3 in
    rw (← c.rest-remainder.ensures, s.0, sym c.if-is_letter.ensures) c.scale_of.ensures

pub returns-in-Some-2 : goal.returns-in-Some-2
unfolding remains check ◌>>◌ if◌then◌otherwise◌
returns-in-Some-2 c =
    let s = first-left c.rest-remainder.result.now c.in-Some.b.now c.in-Some.ensures.item.3 in
    rw (← c.rest-remainder.ensures, s.0, sym c.if-is_letter.ensures, s.1)
