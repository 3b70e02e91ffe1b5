use Rattle.std.proofs.Common.{take, drop, ◌∙◌, rules}
use Rattle.std.proofs.lemmas.Iterator.{YieldsList-from_slice}
use Rattle.std.proofs.lemmas.Iterator.Search.{all_from_yields_List}
use Rattle.registers.specs.Label.{may_stand}
use Rattle.registers.proofs.Tests.{every-all}
use Rattle.registers.proofs.label.Record.{is_zero, possible_is, impossible_is}
use Rattle.registers.proofs.label.possible.Goals as goal

pub returns-then-all : goal.returns-then-all
returns-then-all c =
    let t = c.args.text.now in
    let n = c.find-end.result in
    let stand = all_from_yields_List may_stand _ _ c.all.result c.all.ensures.ran (YieldsList-from_slice (take n t) (cc)) (λ x b q k. search rules) in
    let zero = all_from_yields_List is_zero _ _ c.all-then-all.result c.all-then-all.ensures.ran (YieldsList-from_slice (drop n t) (c.iter-then-all.ensures.rest ∙ c.rest.ensures)) (λ x b q k. search rules) in
    possible_is t n c.find-end.ensures.place (stand ∙ every-all may_stand (take n t)) c.if-all.true (zero ∙ every-all is_zero (drop n t))

pub returns-else-all : goal.returns-else-all
returns-else-all c =
    let t = c.args.text.now in
    let n = c.find-end.result in
    let stand = all_from_yields_List may_stand _ _ c.all.result c.all.ensures.ran (YieldsList-from_slice (take n t) (cc)) (λ x b q k. search rules) in
    impossible_is t n c.find-end.ensures.place (stand ∙ every-all may_stand (take n t)) c.if-all.false
