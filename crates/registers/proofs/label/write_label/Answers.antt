use Rattle.registers.proofs.answer.Laws.{laid-whole}
use Rattle.registers.proofs.label.Record.{front}
use Rattle.registers.proofs.label.write_label.Goals as goal

pub returns : goal.returns
returns c = rw (front c.args.text.now _ c.find-end.ensures.place) at (laid-whole c.quoted_at.ensures)
