use Rattle.registers.specs.Text.{if◌then◌otherwise◌}
use Rattle.interpreter.specs.RowsParts.{key_matches, key_cell}
use Rattle.interpreter.proofs.rows.spells.Goals as goal

pub returns : goal.returns
unfolding key_matches key_cell if◌then◌otherwise◌
returns c = rw (c.shown-compared.ensures, c.key_cell.ensures, c.key_cell-2.ensures)
