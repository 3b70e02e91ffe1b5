-- Three ways: no name is left, a name spells the node, or it doesn't. In the first and the last the node is left out, if it is optional.
-- Each is a law of rows/Walks.
use mathlib.Core.Path.{sym, ◌∙◌}
use Rattle.interpreter.specs.RowsParts.{word_in}
use Rattle.interpreter.proofs.rows.Walks.{walk_end, walk-on, walk-past}
use Rattle.interpreter.proofs.rows.take_node.Goals as goal

pub returns-then-names-at : goal.returns-then-names-at
returns-then-names-at c =
    let a = c.args in
    rw c.leave_out.ensures (walk_end a.node a.names.now a.at c.requires.0 c.if-names-at.true)

pub spells-requires : goal.spells-requires
unfolding word_in
spells-requires c = c.requires.1

pub returns-then-spells : goal.returns-then-spells
unfolding word_in
returns-then-spells c =
    let a = c.args in
    walk-on a.node a.names.now a.at c.if-names-at.false (sym c.spells.ensures ∙ c.if-spells.true)

pub returns : goal.returns
unfolding word_in
returns c =
    let a = c.args in
    rw c.leave_out-2.ensures (walk-past a.node a.names.now a.at c.if-names-at.false (sym c.spells.ensures ∙ c.if-spells.false))
