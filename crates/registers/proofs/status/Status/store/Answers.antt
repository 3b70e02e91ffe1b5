-- A value that is too wide changes nothing. Otherwise a case for each register, in which the definition computes; a set's
-- register stands at the place that `place` promises.
use mathlib.Core.Path.{sym, ◌∙◌}
use Prim.Native.Nat.{◌≤◌}
use native.Mathlib.Omega.{arith}
use Rattle.registers.specs.Status.{stored_in, without_bit6}
use Rattle.registers.proofs.status.Laws.{set-within, set-above, bit6-cleared}
use Rattle.registers.proofs.status.Status.store.Goals as goal

pub returns-then-widest-value : goal.returns-then-widest-value
returns-then-widest-value c = let a = c.args in sym (set-above a.self a.value a.register _ c.widest.ensures c.if-widest-value.true)

pub returns-in-Ese : goal.returns-in-Ese
unfolding stored_in
returns-in-Ese c = let a = c.args in sym (set-within a.self a.value a.register _ c.widest.ensures c.if-widest-value.false ∙ rw c.in-Ese.is)

pub returns-in-Sre : goal.returns-in-Sre
unfolding stored_in without_bit6
returns-in-Sre c =
    let a = c.args in
    let narrow : a.value ≤ 255 = rw (c.widest.ensures, c.in-Sre.is) at c.if-widest-value.false in
    sym (set-within a.self a.value a.register _ c.widest.ensures c.if-widest-value.false ∙ rw (c.in-Sre.is, c.from.ensures, bit6-cleared a.value (omega arith)))

pub returns-in-Enable : goal.returns-in-Enable
unfolding stored_in
returns-in-Enable c = let a = c.args in sym (set-within a.self a.value a.register _ c.widest.ensures c.if-widest-value.false ∙ rw (c.in-Enable.is, c.place.ensures.value))

pub returns-in-Ntr : goal.returns-in-Ntr
unfolding stored_in
returns-in-Ntr c = let a = c.args in sym (set-within a.self a.value a.register _ c.widest.ensures c.if-widest-value.false ∙ rw (c.in-Ntr.is, c.place-in-Ntr.ensures.value))

pub returns-in-Ptr : goal.returns-in-Ptr
unfolding stored_in
returns-in-Ptr c = let a = c.args in sym (set-within a.self a.value a.register _ c.widest.ensures c.if-widest-value.false ∙ rw (c.in-Ptr.is, c.place-in-Ptr.ensures.value))
