-- One way for each refusal, and one where the status takes the report in: each is `happens-on` with a law of state/Events.
use mathlib.Core.Path.{refl}
use Rattle.interpreter.specs.Box.{memory}
use Rattle.interpreter.specs.Events.{condition}
use Rattle.interpreter.proofs.state.Events.{passed-on, happens-on, with_status, condition-wide, condition-on, condition-short}
use Rattle.interpreter.proofs.state.State.report.Goals as goal

pub returns-in_err-admit : goal.returns-in_err-admit
returns-in_err-admit c =
    let a = c.args in
    passed-on a.self.now a.store.now (condition a.set a.value) refl refl c.from_residual.result _ c.from_residual.ensures.1 c.in_err-admit.ensures

pub returns-then-value-gt-WIDEST : goal.returns-then-value-gt-WIDEST
returns-then-value-gt-WIDEST c =
    let a = c.args in
    happens-on a.self.now a.store.now (condition a.set a.value) refl refl _ c.in_ok-admit.ensures _ a.self.now _ (λ w. w) refl
    (condition-wide a.self.now (memory a.store.now) a.set a.value c.if-value-gt-WIDEST.true)

pub returns : goal.returns
returns c =
    let a = c.args in
    let m = memory a.store.now in
    let t = c.report-self.result in let is = c.report-self.ensures in let h = c.if-value-gt-WIDEST.false in
    happens-on a.self.now a.store.now (condition a.set a.value) refl refl _ c.in_ok-admit.ensures _ (with_status t a.self.now) _
    (condition-short a.self.now m a.set a.value t is h) refl (condition-on a.self.now m a.set a.value t is h)
