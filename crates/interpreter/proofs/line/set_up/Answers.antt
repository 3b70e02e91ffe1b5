-- *SAV lays its block over the store; *RCL takes the block's settings, or is refused: each way is a law of `line/Setups`.
use mathlib.Core.Path.{refl}
use Rattle.interpreter.proofs.line.Setups.{block-laid, block_read, saved, recalled, lost}
use Rattle.interpreter.proofs.line.set_up.Goals as goal

pub returns-in-Save : goal.returns-in-Save
returns-in-Save c =
    let a = c.args in
    let told = c.in-Save.is in
    λ t out. rw told
    (saved a.running.now.present a.place a.store.now t out (rw told at c.requires.0) _
    (rw (c.copy_from_slice.ensures.after, c.block_of-block.ensures) (block-laid a.place a.running.now.present.settings a.store.now)))

pub returns-in-Ok : goal.returns-in-Ok
returns-in-Ok c =
    let a = c.args in
    let told = c.in-Recall.is in
    let read = block_read a.place _ _ a.store.now refl refl in
    λ t out. rw told
    (recalled a.running.now.present a.place a.store.now t out (rw told at c.requires.0) c.in-Ok.settings (rw read at c.in-Ok.ensures.good_value)
    (rw read at c.in-Ok.ensures.settings_value))

pub returns-in-Err : goal.returns-in-Err
returns-in-Err c =
    let a = c.args in
    let told = c.in-Recall.is in
    λ t out. rw told
    (lost a.running.now.present a.place a.store.now t out (rw told at c.requires.0) (rw (block_read a.place _ _ a.store.now refl refl) at c.in-Err.ensures.good_value))
