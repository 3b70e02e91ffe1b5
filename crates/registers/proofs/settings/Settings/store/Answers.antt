use mathlib.Core.Path.{◌≡◌, sym}
use native.Mathlib.Omega.{arith}
use lib.ListN.{set}
use lib.Seq.{set_out}
use mir.Syntax.{w32}
use mir.Facts.{to_z-of_z}
use Rattle.registers.specs.Text.{if◌then◌otherwise◌}
use Rattle.registers.specs.Settings.{stored}
use Rattle.registers.proofs.Tests.{if-same}
use Rattle.registers.proofs.settings.Laws.{stored-outside, stored-conflict}
use Rattle.registers.proofs.settings.Settings.store.Goals.{else-slot-lt-COUNT-via-then-slot-lt-COUNT+then-within+else-not-conflicts, else-slot-lt-COUNT-via-then-slot-lt-COUNT+else-within, else-slot-lt-COUNT-via-else-slot-lt-COUNT}
use Rattle.registers.proofs.settings.Settings.store.Goals as goal

pub returns-then-not-conflicts : goal.returns-then-not-conflicts
unfolding stored if◌then◌otherwise◌
returns-then-not-conflicts c =
    let back = to_z-of_z {w = w32} c.ranges.value in
    let inside = rw back at c.if-within.ensures in
    let none = rw back at c.if-not-conflicts.ensures in
    rw (back, ← inside, ← none)

pub returns-else-slot-lt-COUNT : goal.returns-else-slot-lt-COUNT
unfolding stored if◌then◌otherwise◌
returns-else-slot-lt-COUNT c =
    let a = c.args in
    let back = to_z-of_z {w = w32} c.ranges.value in
    elim c.else-slot-lt-COUNT.branch [
      | else-slot-lt-COUNT-via-then-slot-lt-COUNT+then-within+else-not-conflicts w ↦ sym (stored-conflict a.slot a.value a.self (sym (rw back at w.if-not-conflicts.ensures)))
      | else-slot-lt-COUNT-via-then-slot-lt-COUNT+else-within w ↦ sym (stored-outside a.slot a.value a.self (sym (rw back at w.if-within.ensures)))
      | else-slot-lt-COUNT-via-else-slot-lt-COUNT w ↦
          let out : set a.self.values a.slot a.value ≡ a.self.values = set_out a.self.values a.slot a.value (omega arith) in
          sym (if-same _ _ a.self (λ i. record { values = out i; text = a.self.text }))
    ]
