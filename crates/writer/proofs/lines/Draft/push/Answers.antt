use Rattle.writer.proofs.lines.Drafts.{laid-view}
use borrow.Author.Rules.{rules}
use Rattle.writer.proofs.lines.Draft.push.Goals as goal

pub returns : goal.returns
returns c = laid-view _ _ _ _ _ _ _ c.self.view_is c.self.invariant (search rules) c.requires c.write_text.ensures
