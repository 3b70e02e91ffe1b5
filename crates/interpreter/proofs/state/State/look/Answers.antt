-- Refused, or the status byte; nothing is changed.
use mathlib.Core.Path.{refl}
use native.Mathlib.Omega.{arith}
use Rattle.interpreter.specs.Box.{memory}
use Rattle.interpreter.specs.Events.{look}
use Rattle.interpreter.proofs.state.Events.{no-value, passed-on, happens-on, look-byte}
use Rattle.interpreter.proofs.state.State.look.Goals as goal

pub returns-in_err-admit : goal.returns-in_err-admit
returns-in_err-admit c =
    let a = c.args in
    rw (no-value a.self a.store.now c.from_residual.result _ c.from_residual.ensures.1 c.in_err-admit.ensures)
    (passed-on a.self a.store.now look refl refl c.from_residual.result _ c.from_residual.ensures.1 c.in_err-admit.ensures)

pub returns : goal.returns
returns c =
    let s = c.args.self in
    let w = c.in_ok-admit.ensures in let wide = w.answer in
    happens-on s c.args.store.now look refl refl _ w _ s _ (λ k. k) refl
    (look-byte s (memory c.args.store.now) (omega arith) c.status_byte.result c.status_byte.ensures)
