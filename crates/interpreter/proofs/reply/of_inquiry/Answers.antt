-- Each inquiry's reply is the number that the status has or promises.
use mathlib.Core.Path.{refl}
use Rattle.interpreter.specs.ReplyParts.{text_of}
use Rattle.interpreter.specs.Reply.{inquiry_text}
use Rattle.interpreter.proofs.reply.of_inquiry.Goals as goal

pub returns-in-StandardEvents : goal.returns-in-StandardEvents
unfolding text_of inquiry_text
returns-in-StandardEvents c = rw c.in-StandardEvents.is (λ label. record { is = refl })

pub returns-in-StatusByte : goal.returns-in-StatusByte
unfolding text_of inquiry_text
returns-in-StatusByte c = rw (c.in-StatusByte.is, c.from.ensures, c.status_byte.ensures) (λ label. record { is = refl })

pub returns-in-NextError : goal.returns-in-NextError
unfolding text_of inquiry_text
returns-in-NextError c = rw (c.in-NextError.is, c.oldest.ensures) (λ label. record { is = refl })
