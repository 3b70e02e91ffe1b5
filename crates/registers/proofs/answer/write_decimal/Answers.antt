use Rattle.registers.proofs.answer.Laws.{laid-whole}
use Rattle.registers.proofs.answer.write_decimal.Goals as goal

pub returns : goal.returns
returns c = laid-whole c.decimal_at.ensures
