use Rattle.registers.proofs.suffix.Laws.{spelt}
use Rattle.registers.proofs.suffix.spells.Goals as goal

pub returns : goal.returns
returns c = let a = c.args in spelt a.text.now a.suffix.now c.eq_ignore_ascii_case.result c.eq_ignore_ascii_case.ensures.test
