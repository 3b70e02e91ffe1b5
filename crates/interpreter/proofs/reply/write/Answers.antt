-- Each reply is written by one function, which promises the text that the definition gives it.
use mathlib.Core.Path.{◌≡◌, refl}
use mathlib.Core.List.{[]}
use Prim.Native.Nat.{ℕ}
use mir.Syntax.{w32}
use mir.Val.{SFits}
use mir.Facts.{to_z-of_z}
use Rattle.std.specs.Prelude.{Option, Some, None}
use Rattle.registers.specs.Text.{Text, bytes}
use Rattle.registers.specs.Words.{short_form}
use Rattle.registers.specs.Label.{held_in}
use Rattle.interpreter.specs.WordsParts.{word_at}
use Rattle.interpreter.specs.declared.reply.Reply.{Reply}
use Rattle.interpreter.specs.declared.reply.Reply.TheVariants.{Word}
use Rattle.registers.proofs.answer.Laws.{laid-whole, laid_none}
use Rattle.interpreter.specs.ReplyParts.{text_of, word_said}
use borrow.Author.Rules.{rules}
use Rattle.interpreter.proofs.reply.write.Goals as goal

pub returns-in-Identity : goal.returns-in-Identity
unfolding text_of bytes
returns-in-Identity c = rw c.in-Identity.is c.write_text.ensures

-- a word of the table, or none
some-word : (label : Text) {r : Reply} {f : Option ℕ} {w : ℕ} → r ≡ Word f → f ≡ Some w → text_of label r ≡ short_form (word_at w)
unfolding text_of word_said
some-word label e h = rw (e, h) refl

no-word : (label : Text) {r : Reply} {f : Option ℕ} → r ≡ Word f → f ≡ None → text_of label r ≡ []
unfolding text_of word_said
no-word label e h = rw (e, h) refl

pub returns-in-Word-Some : goal.returns-in-Word-Some
returns-in-Word-Some c = let e = rw c.in-Word-Some.is at c.in-Word-Some.field-0-is in rw (some-word (held_in c.args.text.now) c.in-Word-Some.is e) c.write_short.ensures

pub returns-in-Word-None : goal.returns-in-Word-None
returns-in-Word-None c = let e = rw c.in-Word-None.is at c.in-Word-None.field-0-is in rw (no-word (held_in c.args.text.now) c.in-Word-None.is e) (laid-whole (laid_none 0 c.args.tail.now))

pub returns-in-Tenths : goal.returns-in-Tenths
unfolding text_of
returns-in-Tenths c =
    let h : SFits w32 c.in-Tenths.value = record { sfits = search rules } in
    rw c.in-Tenths.is (rw (to_z-of_z {w = w32} h) at c.write_tenths.ensures)

pub returns-in-Whole : goal.returns-in-Whole
unfolding text_of
returns-in-Whole c =
    let h : SFits w32 c.in-Whole.value = record { sfits = search rules } in
    rw c.in-Whole.is (rw (to_z-of_z {w = w32} h) at c.write_whole.ensures)

pub returns-in-Number : goal.returns-in-Number
unfolding text_of
returns-in-Number c = rw (c.in-Number.is, ← c.from.ensures) c.write_decimal.ensures

pub returns-in-Error : goal.returns-in-Error
unfolding text_of
returns-in-Error c = rw c.in-Error.is c.write_error.ensures

pub returns-in-Label : goal.returns-in-Label
unfolding text_of
returns-in-Label c = rw c.in-Label.is c.write_label.ensures
