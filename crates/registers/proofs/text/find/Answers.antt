use Rattle.std.proofs.Common.{◌+◌, drop, ap, ◌∙◌, rules}
use Rattle.registers.proofs.text.Laws.{counted, other, index-start}
use Rattle.registers.proofs.text.find.Goals as goal

pub returns-clause-place : goal.returns-clause-place
returns-clause-place c =
    let a = c.args in
    ap (λ n. a.at + n)
    (counted (other a.b) (drop a.at a.text.now) c.take_while.result c.count.result c.count.ensures.ran (cc) (cc) (λ x b q k. search rules)
    ∙ index-start a.b (drop a.at a.text.now))
