-- As many bytes are laid after the held ones as there is room for, and the rest is dropped: `held-fed` (flow/Laws).
use mathlib.Core.Path.{◌≡◌, refl}
use lib.ListN.{length}
use Rattle.interpreter.specs.Box.{most_line}
use Rattle.interpreter.proofs.flow.Laws.{held-fed}
use Rattle.interpreter.proofs.Lists.{pasted}
use borrow.Author.Rules.{rules}
use Rattle.interpreter.proofs.flow.Flow.hold.Goals as goal

pub returns : goal.returns
returns c =
    let a = c.args in
    let long : length a.line.now ≡ most_line = search rules in
    held-fed a.self.now a.line.now a.part.now long c.requires.1 c.min-n.result _ _ c.min-n.ensures refl refl refl refl refl
    (pasted a.line.now a.self.now.filled a.part.now c.min-n.result _ c.copy_from_slice.ensures.after)
