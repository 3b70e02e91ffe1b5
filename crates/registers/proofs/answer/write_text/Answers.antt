use Rattle.registers.proofs.answer.Laws.{laid-whole}
use Rattle.registers.proofs.answer.write_text.Goals as goal

pub returns : goal.returns
returns c = laid-whole c.text_at.ensures
