-- What the functions that answer a deed say. Nothing of 01 is defined here: see Reply.antt.
use Rattle.std.specs.Prelude.{◌≡◌, Bool, true, false, [], ℕ, ◌≤◌, ◌<◌, length, take, ℤ, Option, Some, None, Result, Ok, Err}
use Rattle.registers.specs.Text.{Text}
use Rattle.registers.specs.Words.{short_form}
use Rattle.registers.specs.Check.{refused, passed}
use Rattle.registers.specs.Answer.{decimal, tenths, signed_text}
use Rattle.registers.specs.Error.{number_of, error_text}
use Rattle.registers.specs.Settings.{kind_of, word_text, displayed}
use Rattle.registers.specs.Label.{quoted_text}
use Rattle.registers.specs.Status.{registers_of, trouble_of}
use Rattle.interpreter.specs.Parameter.{words_of}
use Rattle.interpreter.specs.WordsParts.{word_at}
use Rattle.interpreter.specs.UnitParts.{Allowed}
use Rattle.interpreter.specs.Box.{Memory, most_answer}
use Rattle.interpreter.specs.Reply.{identity, reply_to, inquiry_text, joined}
use Rattle.interpreter.specs.Perform.{perform}
use Rattle.interpreter.specs.Line.{refuse}
use Rattle.interpreter.specs.PresentParts.{core_in, box_in, box_at}
use Rattle.interpreter.specs.PerformParts.{After}
use Rattle.interpreter.specs.declared.deed.Deed.{Deed}
use Rattle.interpreter.specs.declared.deed.Deed.TheVariants.{Change, Complete, Clear, Query, Inquire, Saving}
use Rattle.interpreter.specs.declared.present.Present.{Present}
use Rattle.interpreter.specs.declared.reply.Reply.{Reply}
use Rattle.interpreter.specs.declared.reply.Reply.TheVariants.{Identity, Word, Tenths, Whole, Number, Error, Label}
use Rattle.registers.specs.declared.error.Error as errors
use Rattle.registers.specs.declared.error.Error.TheVariants.{QueryDeadlocked}

-- ---- texts

-- a setting's word by its place
abbrev pub place_text : ℕ → ℤ → Text
place_text row v = word_text (words_of (kind_of row)) v

-- a word of the table is said in its short form, and none as nothing
unfoldable pub word_said : Option ℕ → Text
word_said (Some n) = short_form (word_at n)
word_said None = []

-- what is said is written; the display's text goes beside it
unfoldable pub text_of : Text → Reply → Text
text_of label Identity = identity
text_of label (Word w) = word_said w
text_of label (Tenths v) = signed_text tenths v
text_of label (Whole v) = signed_text decimal v
text_of label (Number n) = decimal n
text_of label (Error n) = error_text n
text_of label Label = quoted_text label

-- a reply that has a text, whatever is displayed beside it
pub record RepliesWith (label t : Text) (r : Reply) : Type 0 where
  pub is : text_of label r ≡ t

-- a deed that sees nothing of the memory: any but *SAV and *RCL
abbrev pub ordinary : Deed → Bool
ordinary (Change x) = true
ordinary Complete = true
ordinary Clear = true
ordinary (Query q) = true
ordinary (Inquire q) = true
ordinary (Saving x p) = false

-- what a deed answers, if it asks
abbrev pub Answers : Text → Text → Option Reply → Type 0
Answers label t r = (x : Reply) × (r ≡ Some x) × RepliesWith label t x

abbrev pub ReplyTo : Deed → Present → Bool → Option Reply → Type 0
ReplyTo (Change x) p answers r = r ≡ None
ReplyTo Complete p answers r = r ≡ None
ReplyTo Clear p answers r = r ≡ None
ReplyTo (Query q) p answers r = Answers (displayed p.settings) (reply_to q (core_in p.settings p.status)) r
ReplyTo (Inquire q) p answers r = Answers (displayed p.settings) (inquiry_text q (registers_of p.status) (trouble_of p.status) answers) r
ReplyTo (Saving x n) p answers r = r ≡ None

-- the answers so far with a reply after them
unfoldable pub answered_with : Text → Option Reply → Text → Text
answered_with label None a = a
answered_with label (Some r) a = joined a (text_of label r)

-- check 9 on a reply after the answers that stand in out: they end at a place, or leave no room for the newline
unfoldable pub GivenTo : Text → Option Reply → ℕ → Text → Result ℕ errors.Error → Text → Type 0
GivenTo label reply answered out (Ok end) out' =
    (end < most_answer)
    × (length (answered_with label reply (take answered out)) < most_answer)
    × (take end out' ≡ answered_with label reply (take answered out))
GivenTo label reply answered out (Err e) out' = (e ≡ QueryDeadlocked) × (most_answer ≤ length (answered_with label reply (take answered out)))

-- a deed that is answered does what it does, and its answer ends there; or it is refused, and of the answers so far is left what the
-- refusal leaves of them
abbrev pub Answered : Deed → Text → Present → Text → Result ℕ errors.Error → Text → Type 0
Answered d t p out (Ok end) out' =
    (end < most_answer)
    × ((r : Present) (m : Memory) → Allowed p.settings d → After d t p r → perform d t (box_at p out m) ≡ passed (box_in r (take end out') m))
Answered d t p out (Err e) out' =
    (m : Memory) → (perform d t (box_at p out m) ≡ refused (number_of e)) × (refuse (number_of e) (box_at p out' m) ≡ refuse (number_of e) (box_at p out m))
