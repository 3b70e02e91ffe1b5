use mathlib.Core.Path.{sym, ◌∙◌}
use Rattle.interpreter.proofs.rows.Search.{row-found, no-row}
use Rattle.interpreter.proofs.deed.Laws.{placeless}
use Rattle.interpreter.proofs.header.place_of.Goals as goal

pub returns-in_default : goal.returns-in_default
returns-in_default c = sym (placeless _ _ (no-row _ (sym c.find.ensures ∙ c.in_default.is)))

pub place_of-requires : goal.place_of-requires
place_of-requires c = (row-found _ _ (sym c.find.ensures ∙ c.in-Some.is)).1

pub returns : goal.returns
returns c = rw ((row-found _ _ (sym c.find.ensures ∙ c.in-Some.is)).0, ← c.suffix.ensures) c.place_of.ensures
