use Rattle.std.proofs.Common.{ℕ, Bool, List, [], ◌∷◌, ◌∙◌, rules}
use lib.Dec.{leb}
use Rattle.std.proofs.lemmas.Iterator.{YieldsList-from_slice}
use Rattle.std.proofs.lemmas.Iterator.Search.{all_from_yields_List}
use Rattle.std.proofs.Math.Bool.{and-true}
use Rattle.registers.specs.Group.{possible_group, widest_group}
use Rattle.registers.proofs.Tests.{and_assoc}
use Rattle.registers.proofs.group.Group.possible.Goals as goal

pub returns : goal.returns
unfolding possible_group
returns c =
    let g = c.args.self in
    let fits : ℕ → Bool = λ x. leb x widest_group in
    let registers : List ℕ = g.condition ∷ g.event ∷ g.enable ∷ g.ptr ∷ g.ntr ∷ [] in
    all_from_yields_List fits _ _ c.all.result c.all.ensures.ran (YieldsList-from_slice registers (cc)) (λ x b q k. search rules)
    ∙ simp (and_assoc, and-true)
