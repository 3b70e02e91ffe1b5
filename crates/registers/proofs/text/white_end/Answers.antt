use Rattle.std.proofs.Common.{◌+◌, drop, ap, rules}
use Rattle.registers.specs.Text.{white}
use Rattle.registers.proofs.text.Laws.{counted}
use Rattle.registers.proofs.text.white_end.Goals as goal

pub returns : goal.returns
returns c =
    let a = c.args in
    ap (λ n. a.at + n) (counted white (drop a.at a.text.now) c.take_while.result c.count.result c.count.ensures.ran (cc) (cc) (λ x b q k. search rules))
