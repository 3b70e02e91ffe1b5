-- By the slot and the value's bits, one arm after the other (lines/Words).
use mathlib.Core.Path.{refl}
use borrow.Author.Tests.{ne_eqb}
use Rattle.registers.specs.Text.{if◌then◌otherwise◌, bytes}
use Rattle.writer.proofs.lines.Words.{monitor-word, range-word, mode-word}
use Rattle.writer.proofs.lines.word_of.Goals as goal

pub returns-in-0 : goal.returns-in-0
unfolding if◌then◌otherwise◌ bytes
returns-in-0 c = monitor-word c.requires c.in-3.is (rw c.in-0.in-0-own.keys1 refl)

pub returns-in-1 : goal.returns-in-1
unfolding if◌then◌otherwise◌ bytes
returns-in-1 c = monitor-word c.requires c.in-3.is (rw c.in-1.in-1-own.keys2 refl)

pub returns-in_default-value : goal.returns-in_default-value
unfolding if◌then◌otherwise◌ bytes
returns-in_default-value c =
    let r = c.in_default-value.in_default-value-own.rest in monitor-word c.requires c.in-3.is (rw (ne_eqb _ 0 r.0.1, ne_eqb _ 1 r.1) refl)

pub returns-in-0-value : goal.returns-in-0-value
unfolding if◌then◌otherwise◌ bytes
returns-in-0-value c = range-word c.requires c.in-5.is (rw c.in-0-value.in-0-value-own.keys1 refl)

pub returns-in_default-value-2 : goal.returns-in_default-value-2
unfolding if◌then◌otherwise◌ bytes
returns-in_default-value-2 c =
    let r = c.in_default-value-2.in_default-value-2-own.rest in range-word c.requires c.in-5.is (rw (ne_eqb _ 0 r.1) refl)

pub returns-in-0-value-2 : goal.returns-in-0-value-2
unfolding if◌then◌otherwise◌ bytes
returns-in-0-value-2 c =
    let r = c.in_default.in_default-own.rest in mode-word c.requires r.0.1 r.1 (rw c.in-0-value-2.in-0-value-2-own.keys1 refl)

pub returns-in_default-value-3 : goal.returns-in_default-value-3
unfolding if◌then◌otherwise◌ bytes
returns-in_default-value-3 c =
    let r = c.in_default.in_default-own.rest in
    let s = c.in_default-value-3.in_default-value-3-own.rest in mode-word c.requires r.0.1 r.1 (rw (ne_eqb _ 0 s.1) refl)
