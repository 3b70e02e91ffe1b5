-- A unit is refused by its reading, or carried out: each way is a law of `line/Laws`.
use Rattle.std.proofs.lemmas.Result.{err_from_is_err_and}
use Rattle.interpreter.specs.Box.{memory}
use Rattle.interpreter.proofs.line.Laws.{unit-refused, unit-allowed, unit-said, unit-carried}
use Rattle.interpreter.proofs.line.run_unit.Goals as goal

pub returns-in_err-reading : goal.returns-in_err-reading
returns-in_err-reading c =
    let a = c.args in
    let x = err_from_is_err_and c.from_residual.result c.from_residual.ensures.1 in
    λ names h. rw (x.1, x.2) (unit-refused a.running.now.present names a.unit.now c.read.new.path _ (c.in_err-reading.ensures names h) a.out.now (memory a.store.now))

pub carry_out-requires : goal.carry_out-requires
carry_out-requires c =
    let a = c.args in
    let held = c.requires in
    let read = c.in_ok-reading.ensures held.0 held.1 in
    (unit-allowed a.running.now.present held.0 a.unit.now _ _ read, unit-said a.running.now.present held.0 a.unit.now _ _ read)

pub returns : goal.returns
returns c =
    let a = c.args in
    λ names h. unit-carried a.running.now.present names a.unit.now _ _ (c.in_ok-reading.ensures names h) c.carry_out.result _ a.out.now _ (memory a.store.now) _ c.carry_out.ensures
