use Rattle.registers.proofs.answer.Laws.{laid_one, laid_then}
use Rattle.registers.proofs.answer.quoted_at.Goals as goal

pub returns : goal.returns
returns c = laid_then (laid_one c.put.ensures) (laid_then c.text_at-end.ensures (laid_one c.put-2.ensures))
