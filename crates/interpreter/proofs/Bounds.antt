-- The bounds of a state as facts (`Fit`), and what keeps them: a changed part of the core, a deed, an error, and so a line's units
-- (proofs/Kept).
use mathlib.Core.Path.{◌≡◌, refl, ◌∙◌}
use mathlib.Core.Bool.{Bool, true, false}
use mathlib.Core.List.{List, []}
use Prim.Native.Nat.{ℕ, ◌-◌, ◌≤◌, zero-le}
use native.Mathlib.Omega.{arith}
use lib.ListN.{length, length-set}
use borrow.Author.Tests.{ltb-true}
use Rattle.registers.specs.Text.{Text}
use Rattle.registers.specs.Queue.{may_be_queued, queueable}
use Rattle.registers.specs.Label.{most_text, padded, possible_text}
use Rattle.registers.proofs.label.Record.{padded-possible, padded-length}
use Rattle.registers.specs.Settings.{table, slots, at_reset, with_text, within, highest, narrow, wide_range, AsLong}
use Rattle.registers.specs.Status.{Trouble, Registers}
use Rattle.registers.specs.declared.settings.Settings.{Settings}
use Rattle.registers.proofs.settings.Possible as limits
use Rattle.registers.proofs.settings.Possible.{value-good, reset-possible}
use Rattle.registers.proofs.status.Possible as status
use Rattle.registers.proofs.status.Possible.{raised-good, completed-good, events-good, oldest-good, none-good, stored-fit, read-fit}
use Rattle.interpreter.specs.Box.{Memory, with_memory, Core, Box, box, with_settings, with_registers, with_line, with_answer, answer_is, raise, most_line, most_answer}
use Rattle.interpreter.specs.UnitParts.{Allowed, AllowedChange, AllowedLabel, AllowedText}
use Rattle.interpreter.specs.Perform.{set_up, conflicting_change, conflicting, changed, all_cleared, after_query, after_inquiry, perform}
use Rattle.interpreter.specs.Reply.{joined, fits_answer, reply}
use Rattle.interpreter.specs.Line.{run_units}
use Rattle.interpreter.specs.declared.deed.Deed.{Deed}
use Rattle.interpreter.specs.declared.deed.Deed.TheVariants.{Change, Complete, Clear, Query, Inquire, Saving}
use Rattle.registers.specs.Setup.{checks, recallable, block_at}
use Rattle.registers.proofs.setup.Laws.{recalled-long}
use Rattle.registers.proofs.Tests.{and_both}
use Rattle.interpreter.specs.declared.deed.Saving as savings
use Rattle.interpreter.specs.declared.deed.Saving.TheVariants.{Save, Recall}
use Rattle.interpreter.specs.declared.deed.Change as changes
use Rattle.interpreter.specs.declared.deed.Change.TheVariants.{Nothing, Put, Reset, Store, Label as labelled}
use Rattle.interpreter.specs.declared.deed.Query as queries
use Rattle.interpreter.specs.declared.deed.Query.TheVariants.{Identity, SelfTest, Completed, Limit, Value, Stored, Condition, SetEvents, Label as label_asked}
use Rattle.interpreter.specs.declared.deed.Inquiry as inquiries
use Rattle.interpreter.specs.declared.deed.Inquiry.TheVariants.{StandardEvents, StatusByte, NextError}
use Rattle.interpreter.proofs.Checks.{Holds, passes, hold-bind, hold-check}
use Rattle.interpreter.proofs.Kept.{units-keep}

-- ---- the bounds of a state as facts; its answer has at most k bytes, and its settings are as long as their type says

pub record FitCore (k : ℕ) (c : Core) : Type 0 where
  pub settings : limits.Good c.settings
  pub text : possible_text c.settings.text ≡ true
  pub long : AsLong c.settings
  pub registers : status.Fit c.registers
  pub line : length c.line ≤ most_line
  pub answer : length c.answer ≤ k

pub record Fit (k : ℕ) (b : Box) : Type 0 where
  pub core : FitCore k b.core
  pub trouble : status.Good b.trouble

-- while a line runs its answer leaves room for the newline
abbrev pub running : ℕ
running = most_answer - 1

pub fit : (k : ℕ) (c : Core) (t : Trouble) → FitCore k c → status.Good t → Fit k (box c t)
fit k c t f g = record { core = f; trouble = g }

-- ---- a part of the core changed

module _ (k : ℕ) (c : Core) (f : FitCore k c) where
  fit-settings : (s : Settings) → limits.Good s → possible_text s.text ≡ true → AsLong s → FitCore k (with_settings s c)
  fit-settings s g t l = record { settings = g; text = t; long = l; registers = f.registers; line = f.line; answer = f.answer }

  pub fit-registers : (r : Registers) → status.Fit r → FitCore k (with_registers r c)
  fit-registers r g = record { settings = f.settings; text = f.text; long = f.long; registers = g; line = f.line; answer = f.answer }

  pub fit_line : (l : Text) (o : Bool) → length l ≤ most_line → FitCore k (with_line l o c)
  fit_line l o g = record { settings = f.settings; text = f.text; long = f.long; registers = f.registers; line = g; answer = f.answer }

  -- the answer may be given another bound
  pub fit-answer : (m : ℕ) (a : Text) → length a ≤ m → FitCore m (with_answer a c)
  fit-answer m a g = record { settings = f.settings; text = f.text; long = f.long; registers = f.registers; line = f.line; answer = g }

  pub fit-memory : (m : Memory) → FitCore k (with_memory m c)
  fit-memory m = record { settings = f.settings; text = f.text; long = f.long; registers = f.registers; line = f.line; answer = f.answer }

-- ---- deeds

pub reset-long : AsLong at_reset
unfolding at_reset slots table padded
reset-long = record { values = refl; text = refl }

-- a text leaves the other settings within their limits
text-good : (s : Settings) (t : Text) → limits.Good s → limits.Good (with_text t s)
unfolding within highest narrow wide_range
text-good s t g j h = g j h

pub change-fit : (k : ℕ) (x : changes.Change) (t : Text) (c : Core) → AllowedChange c.settings x → AllowedLabel x t
    → conflicting_change x c.settings ≡ false → FitCore k c → FitCore k (changed x t c)
unfolding changed
change-fit k Nothing t c a l n f = f
change-fit k (Put i v side) t c a l n f =
    fit-settings k c f _ (value-good c.settings i v f.long.values f.settings a.1 n a.0) f.text
    (record { values = length-set c.settings.values i v ∙ f.long.values; text = f.long.text })
change-fit k Reset t c a l n f = fit-settings k c f at_reset (limits.good-from at_reset reset-possible) (limits.text-from at_reset reset-possible) reset-long
change-fit k (Store x m side) t c a l n f = fit-registers k c f _ (stored-fit x m c.registers a f.registers)
change-fit k labelled t c a l n f =
    fit-settings k c f _ (text-good c.settings t f.settings) (padded-possible most_text t l.0)
    (record { values = f.long.values; text = padded-length most_text t })

cleared-fit : (k : ℕ) (c : Core) → FitCore k c → FitCore k (all_cleared c)
cleared-fit k c f = fit-registers k c f _ (status.cleared-fit c.registers f.registers)

query-fit : (k : ℕ) (q : queries.Query) (c : Core) → FitCore k c → FitCore k (after_query q c)
query-fit k Identity c f = f
query-fit k SelfTest c f = f
query-fit k Completed c f = f
query-fit k (Limit i v) c f = f
query-fit k (Value i) c f = f
query-fit k (Stored x) c f = f
query-fit k (Condition x) c f = f
query-fit k (SetEvents x) c f = fit-registers k c f _ (read-fit x c.registers f.registers)
query-fit k label_asked c f = f

inquiry-good : (q : inquiries.Inquiry) (t : Trouble) → status.Good t → status.Good (after_inquiry q t)
inquiry-good StandardEvents t g = events-good t g
inquiry-good StatusByte t g = g
inquiry-good NextError t g = oldest-good t g

-- check 9 keeps the room
pub reply-fit : (t : Text) (c : Core) → FitCore running c → Holds (FitCore running) (reply t c)
unfolding reply fits_answer may_be_queued queueable
reply-fit t c f =
    hold-check (FitCore running) 430 _ _ refl (λ e.
    let l = ltb-true (length (joined c.answer t)) most_answer e in
    passes (fit-answer running c f running (joined c.answer t) (omega arith)))

-- what *RCL sets is within its limits
setup-fit : (k : ℕ) (x : savings.Saving) (p : ℕ) (c : Core) → FitCore k c → Holds (FitCore k) (set_up x p c)
unfolding set_up recallable may_be_queued queueable
setup-fit k Save p c f = passes (fit-memory k c f _)
setup-fit k Recall p c f =
    let b = block_at p c.memory.store in
    hold-check (FitCore k) 314 _ _ refl (λ e. passes (fit-settings k c f _ (limits.good-from _ (and_both (checks b) _ e).1) (limits.text-from _ (and_both (checks b) _ e).1) (recalled-long b e)))

pub perform-fit : (d : Deed) (t : Text) (b : Box) → Allowed b.core.settings d → AllowedText d t → conflicting d b.core.settings ≡ false → Fit running b
    → Holds (Fit running) (perform d t b)
unfolding perform
perform-fit (Change x) t b a l n f = passes (fit running _ _ (change-fit running x t b.core a l n f.core) f.trouble)
perform-fit Complete t b a l n f = passes (fit running _ _ f.core (completed-good b.trouble f.trouble))
perform-fit Clear t b a l n f = passes (fit running _ _ (cleared-fit running b.core f.core) none-good)
perform-fit (Query q) t b a l n f =
    hold-bind (FitCore running) (Fit running) _ _ (reply-fit _ _ (query-fit running q b.core f.core))
    (λ c g. passes (fit running c _ g f.trouble))
perform-fit (Inquire q) t b a l n f =
    hold-bind (FitCore running) (Fit running) _ _ (reply-fit _ _ f.core)
    (λ c g. passes (fit running c _ g (inquiry-good q b.trouble f.trouble)))
perform-fit (Saving x p) t b a l n f =
    hold-bind (FitCore running) (Fit running) _ _ (setup-fit running x p b.core f.core) (λ c g. passes (fit running c _ g f.trouble))

-- ---- units

pub raise-fit : (n k : ℕ) (b : Box) → may_be_queued n ≡ true → Fit k b → Fit k (raise n b)
raise-fit n k b e f = fit k _ _ f.core (raised-good b.trouble f.trouble n e)

-- another answer, and none
pub answered-fit : (k m : ℕ) (b : Box) → Fit k b → {a : Text} → length a ≤ m → Fit m (answer_is a b)
answered-fit k m b f {a} l = fit m _ _ (fit-answer k b.core f.core m a l) f.trouble

pub dropped-fit : (k m : ℕ) (b : Box) → Fit k b → Fit m (answer_is [] b)
dropped-fit k m b f = answered-fit k m b f zero-le

pub units-fit : (us path : List Text) (b : Box) → Fit running b → Fit running (run_units us path b)
units-fit =
    units-keep (Fit running) (λ d t b a x l f. perform-fit d t b a x l.clear f) (λ n b e f. raise-fit n running b e f) (λ b f. dropped-fit running running b f)
