-- The header with its blank, the quoted text and a newline, one after another.
use native.Mathlib.Omega.{arith}
use borrow.Author.Rules.{rules}
use Rattle.registers.specs.Text.{bytes}
use Rattle.registers.specs.Label.{held_in, quoted_text}
use Rattle.writer.proofs.lines.Laws.{quoted-short, long-then, label-whole}
use Rattle.writer.proofs.lines.Draft.push_label.Goals as goal

pub push_quoted-requires : goal.push_quoted-requires
push_quoted-requires c =
    let r = c.requires in
    let l = long-then _ c.args.self.now _ c.push.ensures in omega arith

pub push-requires-2 : goal.push-requires-2
push-requires-2 c =
    let k = quoted-short c.args.text.now (search rules) in
    let r = c.requires in
    let l = long-then _ c.args.self.now _ c.push.ensures in
    let m = long-then _ c.push.new.self (quoted_text (held_in c.args.text.now)) c.push_quoted.ensures in omega arith

pub returns : goal.returns
unfolding bytes
returns c = label-whole (held_in c.args.text.now) c.args.self.now c.push.ensures c.push_quoted.ensures c.push-2.ensures
