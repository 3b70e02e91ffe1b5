-- A deed is left unanswered, or done: each way is a law of `line/Laws`.
use Rattle.std.proofs.lemmas.Result.{err_from_is_err_and}
use Rattle.registers.specs.Label.{text_in}
use Rattle.interpreter.proofs.perform.Permitted.{lets}
use Rattle.interpreter.proofs.line.Laws.{deed-unanswered, deed-done}
use Rattle.interpreter.proofs.line.do_deed.Goals as goal

pub after-running-requires : goal.after-running-requires
after-running-requires c = let pass = c.requires in (pass.1, (lets _ _ pass.0).clear, c.args.running.now.queue_fits, pass.2)

pub returns-in_err-answered : goal.returns-in_err-answered
returns-in_err-answered c =
    let a = c.args in
    let x = err_from_is_err_and c.from_residual.result c.from_residual.ensures.1 in
    λ m. rw (x.1, x.2) (deed-unanswered a.running.now.present a.deed (text_in a.string.now) a.out.now m c.requires.0 _ _ (c.in_err-answered.ensures (text_in a.string.now)))

pub invariant_of-running : goal.invariant_of-running
invariant_of-running c = record { queue_fits = c.after-running.ensures.status.queued; room_left = (c.in_ok-answered.ensures (text_in c.args.string.now)).0 }

pub returns : goal.returns
returns c =
    let a = c.args in
    let pass = c.requires in
    λ m. deed-done a.running.now.present a.deed (text_in a.string.now) a.out.now m pass.0 _ pass.1 c.after-running.result c.after-running.ensures c.in_ok-answered.answered
    (c.in_ok-answered.ensures (text_in a.string.now))
