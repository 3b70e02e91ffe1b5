-- By whether there is room (lines/Laws).
use Rattle.writer.proofs.lines.Laws.{copied-short, copied-whole}
use Rattle.writer.proofs.lines.Draft.copy_to.Goals as goal

pub returns-then-buffer-n : goal.returns-then-buffer-n
returns-then-buffer-n c = copied-short _ _ c.args.buffer.now _ c.self.view_is c.self.invariant c.if-buffer-n.true

pub returns : goal.returns
returns c = copied-whole _ _ c.args.buffer.now _ c.self.view_is c.self.invariant c.if-buffer-n.false c.copy_from_slice.ensures.after
