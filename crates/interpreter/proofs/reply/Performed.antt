-- A deed that answers does what the definition says of it, if check 9 lets it: the reply is written after the answers so far, and what
-- the code leaves of settings and status is what the definition leaves of the box.
use mathlib.Core.Path.{◌≡◌, refl, ap}
use mathlib.Core.Bool.{true, not, false≢true}
use mathlib.Core.List.{[]}
use Prim.Native.Nat.{ℕ, ◌≤◌, ◌<◌}
use native.Mathlib.Omega.{arith}
use lib.Dec.{eqb}
use lib.ListN.{length, take, length-take}
use borrow.Author.Tests.{lt-ltb, le-ltb}
use Rattle.std.specs.Prelude.{Option, Some, None, Result, Ok, Err}
use Rattle.registers.specs.Text.{Text, if◌then◌otherwise◌, empty}
use Rattle.registers.specs.Check.{refused, passed, ◌>>=◌, ◌>>◌, check}
use Rattle.registers.specs.Settings.{displayed}
use Rattle.registers.specs.Status.{Registers, registers_of, trouble_of}
use Rattle.registers.specs.declared.error.Error.{Error}
use Rattle.registers.specs.declared.settings.Settings.{Settings}
use Rattle.registers.proofs.Tests.{front-empty}
use Rattle.interpreter.specs.Box.{Memory, blank, Core, Box, box, with_answer, most_answer}
use Rattle.interpreter.specs.Perform.{changed, after_query, perform}
use Rattle.interpreter.specs.Reply.{reply_to, joined, fits_answer, reply}
use Rattle.interpreter.specs.Line.{refuse}
use Rattle.interpreter.specs.PresentParts.{core_of, box_in}
use Rattle.interpreter.specs.PerformParts.{settings_changed, settings_left, registers_changed, registers_asked, registers_left, trouble_left}
use Rattle.interpreter.specs.ReplyParts.{ordinary, text_of, ReplyTo, answered_with, GivenTo, Answered}
use Rattle.interpreter.specs.declared.deed.Deed.{Deed}
use Rattle.interpreter.specs.declared.deed.Deed.TheVariants.{Change, Complete, Clear, Query, Inquire, Saving}
use Rattle.interpreter.specs.declared.deed.Change as changes
use Rattle.interpreter.specs.declared.deed.Change.TheVariants.{Nothing as no_change, Put, Reset, Store, Label as labelled}
use Rattle.interpreter.specs.declared.deed.Query as queries
use Rattle.interpreter.specs.declared.deed.Query.TheVariants.{Identity, SelfTest, Completed, Limit, Value, Stored, Condition, SetEvents, Label as label_asked}
use Rattle.interpreter.specs.declared.present.Present.{Present}
use Rattle.interpreter.specs.declared.reply.Reply.{Reply}

-- ---- what is asked, and what is left, as the box has it

changed-is : (x : changes.Change) (t : Text) (s : Settings) (r : Registers) (a : Text) (m : Memory)
    → changed x t (core_of s r a m) ≡ core_of (settings_changed x t s) (registers_changed x r) a m
unfolding changed
changed-is no_change t s r a m = refl
changed-is (Put i v side) t s r a m = refl
changed-is Reset t s r a m = refl
changed-is (Store x n side) t s r a m = refl
changed-is labelled t s r a m = refl

-- a query sees nothing of the answers so far, and nothing of the memory
record Apart (q : queries.Query) : Type 0 where
  unseen : (s : Settings) (r : Registers) (a : Text) (m : Memory) → reply_to q (core_of s r a m) ≡ reply_to q (core_of s r [] blank)
  left : (s : Settings) (r : Registers) (a : Text) (m : Memory) → after_query q (core_of s r a m) ≡ core_of s (registers_asked q r) a m

apart : (q : queries.Query) → Apart q
unfolding reply_to
apart Identity = record { unseen = λ s r a m. refl; left = λ s r a m. refl }
apart SelfTest = record { unseen = λ s r a m. refl; left = λ s r a m. refl }
apart Completed = record { unseen = λ s r a m. refl; left = λ s r a m. refl }
apart (Limit i v) = record { unseen = λ s r a m. refl; left = λ s r a m. refl }
apart (Value i) = record { unseen = λ s r a m. refl; left = λ s r a m. refl }
apart (Stored x) = record { unseen = λ s r a m. refl; left = λ s r a m. refl }
apart (Condition y) = record { unseen = λ s r a m. refl; left = λ s r a m. refl }
apart (SetEvents y) = record { unseen = λ s r a m. refl; left = λ s r a m. refl }
apart label_asked = record { unseen = λ s r a m. refl; left = λ s r a m. refl }

-- ---- check 9 on a reply that says something

module _ (l : Text) (r : Reply) (c : Core) where
  reply-given : length (answered_with l (Some r) c.answer) < most_answer → reply (text_of l r) c ≡ passed (with_answer (answered_with l (Some r) c.answer) c)
  unfolding answered_with reply check ◌>>◌ fits_answer
  reply-given h = rw (lt-ltb (length (joined c.answer (text_of l r))) most_answer h)

  reply-refused : most_answer ≤ length (answered_with l (Some r) c.answer) → reply (text_of l r) c ≡ refused 430
  unfolding answered_with reply check ◌>>◌ fits_answer
  reply-refused h = rw (le-ltb (length (joined c.answer (text_of l r))) most_answer h)

-- nothing that is said always has room
silent : (l : Text) (r : Option Reply) (a : Text) → r ≡ None → length a < most_answer → most_answer ≤ length (answered_with l r a) → ⊥
unfolding answered_with
silent l r a e k h = let short = rw e at h in omega arith

-- ---- a deed that answers with reply r

module _ (p : Present) (x a : Text) (m : Memory) (r : Option Reply) where
  -- the text that is shown
  abbrev l : Text
  l = displayed p.settings

  abbrev left : Deed → Text → Box
  left d b = box (core_of (settings_left d x p.settings) (registers_left d (registers_of p.status)) b m) (trouble_left d (trouble_of p.status))

  abbrev after : Deed → Core
  after d = (left d a).core

  given : (d : Deed) → ordinary d ≡ true → ReplyTo d p (not (empty a)) r → length (answered_with l r a) < most_answer
      → perform d x (box_in p a m) ≡ passed (left d (answered_with l r a))
  unfolding perform answered_with ◌>>=◌
  given (Change y) o e h = rw e (ap (λ (c : Core). passed (box c (trouble_of p.status))) (changed-is y x p.settings (registers_of p.status) a m))
  given Complete o e h = rw e
  given Clear o e h = rw e
  given (Query q) o e h =
      let t = registers_of p.status in
      let k = rw e.1 at h in
      rw ((apart q).unseen p.settings t a m, ← e.2.is, (apart q).left p.settings t a m, reply-given l e.0 (after (Query q)) k, e.1)
  given (Inquire q) o e h = let k = rw e.1 at h in rw (← e.2.is, reply-given l e.0 (after (Inquire q)) k, e.1)
  given (Saving y n) o e h = absurd (false≢true o)

  dropped : (d : Deed) → ordinary d ≡ true → ReplyTo d p (not (empty a)) r → length a < most_answer → most_answer ≤ length (answered_with l r a)
      → perform d x (box_in p a m) ≡ refused 430
  unfolding perform ◌>>=◌
  dropped (Change y) o e k h = absurd (silent l r a e k h)
  dropped Complete o e k h = absurd (silent l r a e k h)
  dropped Clear o e k h = absurd (silent l r a e k h)
  dropped (Query q) o e k h =
      let t = registers_of p.status in
      let f = rw e.1 at h in
      rw ((apart q).unseen p.settings t a m, ← e.2.is, (apart q).left p.settings t a m, reply-refused l e.0 (after (Query q)) f)
  dropped (Inquire q) o e k h = let f = rw e.1 at h in rw (← e.2.is, reply-refused l e.0 (after (Inquire q)) f)
  dropped (Saving y n) o e k h = absurd (false≢true o)

-- the deed as the code answers it: its reply r stands after the answers so far and ends at a place, or check 9 drops the whole answer,
-- so that it doesn't matter what was written
module _ (d : Deed) (x : Text) (p : Present) (r : Option Reply) (out : Text) (room : p.answered < most_answer) (size : length out ≡ most_answer)
    (o : ordinary d ≡ true) (says : ReplyTo d p (not (eqb p.answered 0)) r) where
  abbrev so_far : Text
  so_far = take p.answered out

  replies : ReplyTo d p (not (empty so_far)) r
  replies = rw (front-empty out p.answered (omega arith)) says

  pub told : (end : Result ℕ Error) (left-of : Text) → GivenTo (displayed p.settings) r p.answered out end left-of → Answered d x p out end left-of
  unfolding GivenTo refuse if◌then◌otherwise◌
  told (Ok end) left-of e = (e.0, λ q m k a. rw (a.settings, a.status.registers p.settings k, a.status.trouble, e.2) (given p x so_far m r d o replies e.1))
  told (Err f) left-of e =
      let short : length so_far < most_answer = rw length-take (omega arith) in
      λ m. rw e.0 (dropped p x so_far m r d o replies short e.1, refl)
