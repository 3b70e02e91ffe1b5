-- A look tells whether the box is possible (session/Feeding).
use mathlib.Core.Path.{ap, ◌∙◌}
use mathlib.Core.Bool.{Bool, ◌&&◌}
use lib.Dec.{eqb, leb, ltb}
use Rattle.writer.proofs.session.Feeding.{no-refusal, possible-is}
use borrow.Author.Rules.{rules}
use Rattle.writer.proofs.session.possible.Goals as goal

pub returns : goal.returns
returns c =
    let m = c.args.marker in
    ap (λ (t : Bool). ((t && eqb m.state.waiting 0) && leb m.place.waiting 4096) && ltb m.place.number 9223372036854775808) (c.is_ok.ensures.value ∙ no-refusal c.look.result)
    ∙ possible-is m _ _ _ c.requires (search rules) c.look.ensures
