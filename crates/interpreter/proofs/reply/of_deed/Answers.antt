-- A query and an inquiry have their replies, and any other deed has nothing to say.
use mathlib.Core.Path.{refl}
use Rattle.interpreter.proofs.reply.Values.{nothing_said}
use borrow.Enum.Refused.{opened}
use Rattle.interpreter.proofs.reply.of_deed.Goals as goal

pub returns-in-Query : goal.returns-in-Query
returns-in-Query c = rw c.in-Query.is (c.of_query.result, refl, c.of_query.ensures)

pub returns-in-Inquire : goal.returns-in-Inquire
returns-in-Inquire c = rw c.in-Inquire.is (c.of_inquiry.result, refl, c.of_inquiry.ensures _)

pub returns-in_default : goal.returns-in_default
returns-in_default c =
    let a = c.args in
    nothing_said a.deed (opened c.in_default.in_default-own.keys3) a.present _
