use Rattle.std.proofs.Common.{◌∙◌, rules}
use Rattle.std.proofs.lemmas.Iterator.{YieldsList-from_slice}
use Rattle.std.proofs.lemmas.Iterator.Search.{all_from_yields_List}
use Rattle.registers.specs.Group.{possible_group}
use Rattle.registers.proofs.Tests.{every-all}
use Rattle.registers.proofs.group.all_possible.Goals as goal

pub returns : goal.returns
returns c =
    let groups = c.args.groups in
    all_from_yields_List possible_group _ _ c.all.result c.all.ensures.ran (YieldsList-from_slice groups (cc)) (λ x b q k. search rules)
    ∙ every-all possible_group groups
