use Rattle.std.proofs.Common.{take, ◌∙◌, rules}
use Rattle.registers.specs.Queue.{may_be_queued}
use Rattle.std.proofs.lemmas.Iterator.{YieldsList-from_slice}
use Rattle.std.proofs.lemmas.Iterator.Search.{all_from_yields_List}
use Rattle.registers.proofs.Tests.{every-all}
use Rattle.registers.proofs.queue.may_all_be_queued.Goals as goal

pub returns : goal.returns
returns c =
    let waiting = take c.args.count c.args.errors in
    all_from_yields_List may_be_queued _ _ c.all.result c.all.ensures.ran (YieldsList-from_slice waiting (cc)) (λ x b q k. search rules)
    ∙ every-all may_be_queued waiting
