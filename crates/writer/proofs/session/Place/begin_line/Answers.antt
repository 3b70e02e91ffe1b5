-- One way for each first byte (session/Bytes).
use mathlib.Core.Path.{sym}
use Rattle.writer.proofs.session.Bytes.{begun-answer, begun-broken, begun-early, begun-sent}
use Rattle.writer.proofs.session.Place.begin_line.Goals as goal

pub returns-in-60 : goal.returns-in-60
returns-in-60 c = sym (begun-answer c.args.self c.args.byte c.in-60.is)

pub returns-in-62 : goal.returns-in-62
returns-in-62 c = sym (begun-sent c.args.self c.args.byte c.in-62.is c.if-self-eq0.true)

pub returns-in-62-2 : goal.returns-in-62-2
returns-in-62-2 c = sym (begun-early c.args.self c.args.byte c.in-62.is c.if-self-eq0.false)

pub returns-in_default : goal.returns-in_default
returns-in_default c = let r = c.in_default.in_default-own.rest in sym (begun-broken c.args.self c.args.byte r.0.1 r.1)
