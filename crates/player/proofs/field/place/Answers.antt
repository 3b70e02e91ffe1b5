use Rattle.std.proofs.Common.{◌≡◌, ◌∙◌, Some, None, sym, arith}
use Rattle.std.specs.Fmt.{decimal}
use Rattle.player.proofs.field.Laws.{Plain, number-same, short-plain, is-decimal, of-decimal, no-other, kept, below-kept}
use Rattle.player.proofs.field.place.Goals as goal
use Rattle.player.proofs.field.place.Goals.{else-text-gt1-via-then-text-gt1+else-text-eq48, else-text-gt1-via-else-text-gt1}

pub returns-then-text-eq48-clause-each : goal.returns-then-text-eq48-clause-each
returns-then-text-eq48-clause-each c = λ n l e.
    let plain = no-other c.args.text.now n (omega (arith, l)) e in
    absurd (omega (arith, plain.first c.if-text-eq48.true, c.if-text-gt1.true))

pub returns-in_err-n-clause-each : goal.returns-in_err-n-clause-each
returns-in_err-n-clause-each c = λ n l e.
    let text = c.args.text.now in
    let same : None ≡ Some n = number-same text None c.in_err-n.ensures ∙ of-decimal text n (omega (arith, l)) e in
    absurd cc

pub returns-clause-spelt : goal.returns-clause-spelt
returns-clause-spelt c =
    let text = c.args.text.now in
    let read = sym (number-same text (Some c.in_ok-n.n) c.in_ok-n.ensures) in
    let plain : Plain text = elim c.else-text-gt1.branch [
      | else-text-gt1-via-then-text-gt1+else-text-eq48 w ↦ record { first = λ z. absurd (w.if-text-eq48.false z) }
      | else-text-gt1-via-else-text-gt1 w ↦ short-plain text w.if-text-gt1.false
    ] in
    rw c.then_some.ensures (kept _ c.in_ok-n.n (λ n. text ≡ decimal n) (is-decimal text c.in_ok-n.n plain read))

pub returns-clause-each : goal.returns-clause-each
returns-clause-each c = λ n l e.
    let text = c.args.text.now in
    let same = number-same text (Some c.in_ok-n.n) c.in_ok-n.ensures ∙ of-decimal text n (omega (arith, l)) e in
    c.then_some.ensures ∙ below-kept n c.in_ok-n.n 30 l same
