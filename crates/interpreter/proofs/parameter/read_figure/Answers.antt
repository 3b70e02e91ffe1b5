-- By the first byte, which is no letter: a digit, a sign or a point starts a number, where one may be given (parameter/Words).
use Rattle.interpreter.proofs.parameter.Words.{starts-figure, starts-neither, starts-nothing}
use Rattle.interpreter.proofs.parameter.read_figure.Goals as goal

pub returns-in-Some : goal.returns-in-Some
returns-in-Some c =
    let starts = rw (c.is_digit.ensures, c.byte_at-b.ensures) at c.if-starts.true in
    λ l. rw c.in-Some.is (starts-figure c.args.text.now l c.in-Some.quantity c.read.result c.read.ensures starts)

pub returns-in_default : goal.returns-in_default
returns-in_default c =
    let starts = rw (c.is_digit.ensures, c.byte_at-b.ensures) at c.if-starts.false in
    λ l. rw c.in-Some.is (starts-neither c.args.text.now l c.in-Some.quantity starts)

pub returns-in_default-2 : goal.returns-in_default-2
returns-in_default-2 c = λ l. rw c.in_default.is (starts-nothing c.args.text.now l)
