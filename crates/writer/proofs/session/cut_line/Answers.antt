-- Up to the first newline (session/Bytes).
use mathlib.Core.Path.{sym, ◌∙◌}
use Rattle.writer.proofs.session.Bytes.{cut-there, cut-none}
use Rattle.writer.proofs.session.cut_line.Goals as goal

pub returns-in-Some : goal.returns-in-Some
returns-in-Some c =
    let h = cut-there c.args.bytes.now _ (sym c.in-Some.is ∙ c.newline_in.ensures) in
    (c.split_at.ensures.front ∙ h.0, c.split_at.ensures.back ∙ h.1)

pub returns-in-None : goal.returns-in-None
returns-in-None c = cut-none c.args.bytes.now (sym c.in-None.is ∙ c.newline_in.ensures)
