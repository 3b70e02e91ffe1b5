-- What stores, clears or reads changes the status as the status' own method promises; every other deed leaves it (perform/Laws).
use mathlib.Core.Path.{◌≡◌, refl}
use native.Mathlib.Omega.{arith}
use lib.ListN.{length}
use Rattle.registers.specs.Status.{completed, events_in, events_read, cleared_in}
use Rattle.registers.proofs.status.Meaning.{oldest-trouble, oldest-registers, oldest-queued}
use Rattle.registers.specs.Queue.{most}
use Rattle.interpreter.proofs.perform.Laws.{same-status, only-asked, stored-left}
use borrow.Author.Rules.{rules}
use borrow.Enum.Refused.{opened}
use Rattle.interpreter.proofs.perform.status_after.Goals as goal

pub returns-in-Change-Store : goal.returns-in-Change-Store
returns-in-Change-Store c =
    let x = c.in-Change-Store in
    let store = rw x.is at x.field-0-is in
    rw (x.is, store, c.store.ensures) (stored-left x.register x.value x.field-0-2 c.args.status c.requires)

pub returns-in-Complete : goal.returns-in-Complete
unfolding completed events_in
returns-in-Complete c =
    rw (c.in-Complete.is, c.complete.ensures)
    (record { registers = λ _ _. refl; trouble = refl; queued = c.requires })

pub returns-in-Clear : goal.returns-in-Clear
unfolding cleared_in
returns-in-Clear c =
    rw (c.in-Clear.is, c.clear.ensures)
    (record { registers = λ _ _. refl; trouble = refl; queued = omega arith })

pub returns-in-Query-SetEvents : goal.returns-in-Query-SetEvents
returns-in-Query-SetEvents c =
    let x = c.in-Query-SetEvents in
    let asked = rw x.is at x.field-0-is in
    rw (x.is, asked, c.read_event.ensures) (record { registers = λ _ _. refl; trouble = refl; queued = c.requires })

pub returns-in-Inquire-StandardEvents : goal.returns-in-Inquire-StandardEvents
unfolding events_in events_read
returns-in-Inquire-StandardEvents c =
    let x = c.in-Inquire-StandardEvents in
    let asked = rw x.is at x.field-0-is in
    rw (x.is, asked, c.read_events.ensures) (record { registers = λ _ _. refl; trouble = refl; queued = c.requires })

pub returns-in-Inquire-NextError : goal.returns-in-Inquire-NextError
returns-in-Inquire-NextError c =
    let x = c.in-Inquire-NextError in
    let asked = rw x.is at x.field-0-is in
    let t = c.args.status in
    let long : length t.errors ≡ most = search rules in
    rw (x.is, asked, c.read_oldest.ensures)
    (record { registers = λ _ _. oldest-registers t long c.requires; trouble = oldest-trouble t long c.requires; queued = oldest-queued t long c.requires })

pub returns-in_default : goal.returns-in_default
returns-in_default c =
    let x = c.in_default in
    let other = rw x.is at (opened x.in_default-own.keys2) in
    rw x.is (same-status c.args.status c.requires x.field-0 other)

pub returns-in_default-2 : goal.returns-in_default-2
returns-in_default-2 c =
    let x = c.in_default in
    let other = rw x.is at (opened x.in_default-own.keys2) in
    rw x.is (only-asked c.args.status c.requires x.field-0 other)

pub returns-in_default-3 : goal.returns-in_default-3
returns-in_default-3 c =
    let x = c.in_default in
    let looked = rw x.is at x.enum_told_along-in_default-3-1-own.given.1 in
    rw (x.is, looked) (record { registers = λ _ _. refl; trouble = refl; queued = c.requires })

pub returns-in_default-4 : goal.returns-in_default-4
returns-in_default-4 c = rw c.in_default.is (record { registers = λ _ _. refl; trouble = refl; queued = c.requires })
