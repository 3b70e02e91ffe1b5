-- It is laid over the tail (lines/Drafts).
use native.Mathlib.Omega.{arith}
use borrow.Author.Rules.{rules}
use Rattle.writer.proofs.lines.Drafts.{laid-end, laid-view, laid-within}
use Rattle.writer.proofs.lines.Laws.{quoted-short}
use Rattle.writer.proofs.lines.Draft.push_quoted.Goals as goal

pub overflow_add-self : goal.overflow_add-self
overflow_add-self c =
    let k = quoted-short c.args.text.now (search rules) in
    let r = c.requires in
    let d = laid-end _ _ _ _ _ _ _ c.self.view_is c.self.invariant (search rules) (omega arith) c.write_label.ensures in omega arith

pub invariant_of-self : goal.invariant_of-self
invariant_of-self c =
    let k = quoted-short c.args.text.now (search rules) in
    let r = c.requires in
    laid-within _ _ _ _ _ _ _ c.self.view_is c.self.invariant (search rules) (omega arith) c.write_label.ensures

pub returns : goal.returns
returns c =
    let k = quoted-short c.args.text.now (search rules) in
    let r = c.requires in
    laid-view _ _ _ _ _ _ _ c.self.view_is c.self.invariant (search rules) (omega arith) c.write_label.ensures
