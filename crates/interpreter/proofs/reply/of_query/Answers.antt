-- Each query's reply has the text that the definition answers: computed where it is fixed, and otherwise what the callee promises.
use mathlib.Core.Path.{refl}
use mir.Syntax.{w32}
use mir.Val.{SFits}
use Rattle.registers.specs.Text.{if◌then◌otherwise◌, bytes}
use Rattle.registers.specs.Answer.{in_places, decimal}
use Rattle.interpreter.specs.Reply.{reply_to}
use Rattle.interpreter.specs.ReplyParts.{text_of}
use Rattle.interpreter.proofs.reply.Values.{value-back}
use Rattle.interpreter.proofs.reply.of_query.Goals as goal

pub returns-in-Identity : goal.returns-in-Identity
unfolding text_of reply_to
returns-in-Identity c = rw c.in-Identity.is (record { is = refl })

pub returns-in-SelfTest : goal.returns-in-SelfTest
unfolding text_of reply_to decimal in_places bytes if◌then◌otherwise◌
returns-in-SelfTest c = rw c.in-SelfTest.is (record { is = refl })

pub returns-in-Completed : goal.returns-in-Completed
unfolding text_of reply_to decimal in_places bytes if◌then◌otherwise◌
returns-in-Completed c = rw c.in-Completed.is (record { is = refl })

pub returns-in-Limit : goal.returns-in-Limit
unfolding reply_to
returns-in-Limit c =
    let h : SFits w32 c.in-Limit.value = record { sfits = c.in-Limit.known_told-1-own.given.1.0.1 } in
    rw c.in-Limit.is (value-back _ h c.of_value.ensures _)

pub returns-in-Value : goal.returns-in-Value
unfolding reply_to
returns-in-Value c =
    let h : SFits w32 c.value.result = record { sfits = c.value.type_inv } in
    rw (c.in-Value.is, ← c.value.ensures) (value-back _ h c.of_value-in-Value.ensures _)

pub returns-in-Stored : goal.returns-in-Stored
unfolding text_of reply_to
returns-in-Stored c = rw (c.in-Stored.is, c.register.ensures) (record { is = refl })

pub returns-in-Condition : goal.returns-in-Condition
unfolding text_of reply_to
returns-in-Condition c = rw (c.in-Condition.is, c.group.ensures) (record { is = refl })

pub returns-in-SetEvents : goal.returns-in-SetEvents
unfolding text_of reply_to
returns-in-SetEvents c = rw (c.in-SetEvents.is, c.group-in-SetEvents.ensures) (record { is = refl })

pub returns-in-Label : goal.returns-in-Label
unfolding text_of reply_to
returns-in-Label c = rw c.in-Label.is (record { is = refl })
