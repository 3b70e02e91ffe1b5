use Rattle.writer.proofs.lines.Words.{header-in}
use Rattle.writer.proofs.lines.header_of.Goals as goal

pub returns : goal.returns
returns c = header-in _ _ c.args.slot c.headers.ensures c.requires
