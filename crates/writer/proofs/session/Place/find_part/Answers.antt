-- One way for each way in which the part agrees or doesn't (session/Recorded).
use mathlib.Core.Bool.{true, false}
use native.Mathlib.Omega.{arith}
use mathlib.Core.Path.{◌≡◌, refl, sym, ◌∙◌}
use Rattle.writer.proofs.session.Recorded.{ends_both, starts, compared}
use Rattle.writer.proofs.session.Place.find_part.Goals as goal

pub returns-then-not-starts_with : goal.returns-then-not-starts_with
returns-then-not-starts_with c =
    compared c.requires _ _ _ (starts c.requires _ _ c.get.ensures.lookup refl c.unwrap_or-left.ensures c.starts_with.ensures.value c.if-not-starts_with.true) refl refl

pub returns-then-not-contains : goal.returns-then-not-contains
returns-then-not-contains c =
    compared c.requires _ _ _ (starts c.requires _ _ c.get.ensures.lookup refl c.unwrap_or-left.ensures c.starts_with.ensures.value c.if-not-starts_with.false)
    (sym c.contains.ensures.value ∙ c.if-not-contains.true) refl

pub returns-then-found-self : goal.returns-then-found-self
returns-then-found-self c =
    let both : ends_both c.args.room.now c.args.self c.args.found c.args.part.now ≡ true = grind arith in
    compared c.requires _ _ _ (starts c.requires _ _ c.get.ensures.lookup refl c.unwrap_or-left.ensures c.starts_with.ensures.value c.if-not-starts_with.false)
    (sym c.contains.ensures.value ∙ c.if-not-contains.false) both

pub returns-else-found-self : goal.returns-else-found-self
returns-else-found-self c =
    let not-both : ends_both c.args.room.now c.args.self c.args.found c.args.part.now ≡ false = grind arith in
    compared c.requires _ _ _ (starts c.requires _ _ c.get.ensures.lookup refl c.unwrap_or-left.ensures c.starts_with.ensures.value c.if-not-starts_with.false)
    (sym c.contains.ensures.value ∙ c.if-not-contains.false) not-both
