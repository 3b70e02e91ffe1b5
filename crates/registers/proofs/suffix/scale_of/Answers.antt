-- An answer for each arm: the definition's search computes once the quantity is known and each test before has failed.
use mathlib.Core.Path.{sym}
use Rattle.registers.specs.Text.{if◌then◌otherwise◌, bytes, small, capital}
use Rattle.registers.specs.Suffix.{suffixes, no_suffix, power_in}
use Rattle.registers.proofs.suffix.scale_of.Goals as goal

pub returns-in-Nothing : goal.returns-in-Nothing
unfolding power_in suffixes no_suffix
returns-in-Nothing c = rw c.in-Nothing.is

pub returns-in-Volt : goal.returns-in-Volt
unfolding power_in suffixes no_suffix bytes small capital if◌then◌otherwise◌
returns-in-Volt c = rw (c.in-Volt.is, sym c.if-spells.ensures)

pub returns-in-Volt-2 : goal.returns-in-Volt-2
unfolding power_in suffixes no_suffix bytes small capital if◌then◌otherwise◌
returns-in-Volt-2 c = rw (c.in-Volt-2.is, sym c.if-spells.ensures, sym c.if-spells-2.ensures)

pub returns-in-Ampere : goal.returns-in-Ampere
unfolding power_in suffixes no_suffix bytes small capital if◌then◌otherwise◌
returns-in-Ampere c = rw (c.in-Ampere.is, sym c.if-spells-3.ensures)

pub returns-in-Ampere-2 : goal.returns-in-Ampere-2
unfolding power_in suffixes no_suffix bytes small capital if◌then◌otherwise◌
returns-in-Ampere-2 c = rw (c.in-Ampere-2.is, sym c.if-spells-3.ensures, sym c.if-spells-4.ensures)

pub returns-in-Hertz : goal.returns-in-Hertz
unfolding power_in suffixes no_suffix bytes small capital if◌then◌otherwise◌
returns-in-Hertz c = rw (c.in-Hertz.is, sym c.if-spells-5.ensures)

pub returns-in-Hertz-2 : goal.returns-in-Hertz-2
unfolding power_in suffixes no_suffix bytes small capital if◌then◌otherwise◌
returns-in-Hertz-2 c = rw (c.in-Hertz-2.is, sym c.if-spells-5.ensures, sym c.if-spells-6.ensures)

pub returns-in-Hertz-3 : goal.returns-in-Hertz-3
unfolding power_in suffixes no_suffix bytes small capital if◌then◌otherwise◌
returns-in-Hertz-3 c = rw (c.in-Hertz-3.is, sym c.if-spells-5.ensures, sym c.if-spells-6.ensures, sym c.if-spells-7.ensures)

pub returns-in-Second : goal.returns-in-Second
unfolding power_in suffixes no_suffix bytes small capital if◌then◌otherwise◌
returns-in-Second c = rw (c.in-Second.is, sym c.if-spells-8.ensures)

pub returns-in_default : goal.returns-in_default
unfolding power_in suffixes no_suffix bytes small capital if◌then◌otherwise◌
returns-in_default c = rw (c.in-Volt-2.is, sym c.if-spells.ensures, sym c.if-spells-2.ensures)

pub returns-in_default-2 : goal.returns-in_default-2
unfolding power_in suffixes no_suffix bytes small capital if◌then◌otherwise◌
returns-in_default-2 c = rw (c.in-Ampere-2.is, sym c.if-spells-3.ensures, sym c.if-spells-4.ensures)

pub returns-in_default-3 : goal.returns-in_default-3
unfolding power_in suffixes no_suffix bytes small capital if◌then◌otherwise◌
returns-in_default-3 c = rw (c.in-Hertz-3.is, sym c.if-spells-5.ensures, sym c.if-spells-6.ensures, sym c.if-spells-7.ensures)

pub returns-in_default-4 : goal.returns-in_default-4
unfolding power_in suffixes no_suffix bytes small capital if◌then◌otherwise◌
returns-in_default-4 c = rw (c.in-Second.is, sym c.if-spells-8.ensures)
