-- A deed is barred by the lock or check 8; or it is *SAV or *RCL, or any other.
use Rattle.interpreter.proofs.perform.Permitted.{barred, let_through}
use Rattle.interpreter.specs.Box.{memory}
use Rattle.registers.specs.Label.{text_in}
use Rattle.registers.specs.declared.error.Error.TheVariants.{SettingsConflict}
use Rattle.interpreter.proofs.reply.Values.{ordinary-other}
use Rattle.interpreter.proofs.line.Laws.{deed-barred}
use borrow.Enum.Refused.{opened}
use Rattle.interpreter.proofs.line.carry_out.Goals as goal

pub returns-then-not-is_permitted : goal.returns-then-not-is_permitted
returns-then-not-is_permitted c =
    let a = c.args in
    deed-barred a.running.now.present a.deed (text_in a.string.now) a.out.now (memory a.store.now) SettingsConflict
    (barred _ _ c.is_permitted.result c.is_permitted.ensures c.if-not-is_permitted.true-raw)

pub set_up-requires : goal.set_up-requires
set_up-requires c =
    let is = c.in-Saving.is in
    let free = let_through _ _ c.is_permitted.result c.is_permitted.ensures c.if-not-is_permitted.false-raw in
    (rw is at free, rw is at c.requires.0)

pub returns-in-Saving : goal.returns-in-Saving
returns-in-Saving c = rw c.in-Saving.is (c.set_up.ensures (text_in c.args.string.now) c.args.out.now)

pub do_deed-requires : goal.do_deed-requires
do_deed-requires c =
    let free = let_through _ _ c.is_permitted.result c.is_permitted.ensures c.if-not-is_permitted.false-raw in
    (free, c.requires.0, c.requires.1, ordinary-other c.args.deed (opened c.in_default.in_default-own.keys2))
