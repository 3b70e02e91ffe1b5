-- There are functions that keep the promises: what an event leaves by the definition, put into a record again. That a store keeps its length is
-- by induction over the bytes of a piece, and of a line by what every deed keeps (proofs/Kept).
use mathlib.Core.Path.{◌≡◌, refl, sym, ◌∙◌, ap}
use mathlib.Core.Bool.{Bool, true, false, false≢true}
use mathlib.Core.List.{[], ◌∷◌}
use Prim.Native.Nat.{ℕ, ◌<◌}
use native.Mathlib.Omega.{arith}
use lib.Dec.{eqb, leb, ltb}
use lib.ListN.{length, length-set, length-replicate}
use lib.Seq.{take-length}
use borrow.Author.Tests.{eqb-true, eq-eqb}
use Rattle.registers.specs.Text.{Text, empty}
use Rattle.registers.specs.Group.{widest_group}
use Rattle.registers.specs.Queue.{may_be_queued, queueable}
use Rattle.registers.specs.Setup.{places}
use Rattle.registers.specs.Settings.{AsLong}
use Rattle.registers.specs.Status.{at_start}
use Rattle.registers.proofs.setup.Laws.{saved-long}
use Rattle.interpreter.specs.Box as lent
use Rattle.interpreter.specs.Box.{right_size, Core, Box, box, power_up, blank, most_line, most_answer, store_size}
use Rattle.interpreter.specs.Reply.{reply}
use Rattle.interpreter.specs.Perform.{changed, after_query, set_up, perform}
use Rattle.interpreter.specs.UnitParts.{Allowed}
use Rattle.interpreter.specs.Line.{interrupted, held, end_line, byte, piece}
use Rattle.interpreter.specs.Events.{possible, Event, started, received, take, condition, look, altered, mislent, result_of, Happened, happened, happens, taken, reported, lent as buffer-of}
use Rattle.interpreter.specs.State.{box_of, possible_state, rightly, Happens, Started}
use Rattle.interpreter.specs.Dummies.{Does, Promised}
use Rattle.interpreter.specs.declared.state.State.{State}
use Rattle.interpreter.specs.declared.deed.Deed.{Deed}
use Rattle.interpreter.specs.declared.deed.Deed.TheVariants.{Change, Complete, Clear, Query, Inquire, Saving}
use Rattle.interpreter.specs.declared.deed.Change as changes
use Rattle.interpreter.specs.declared.deed.Change.TheVariants.{Nothing, Put, Reset, Store, Label as labelled}
use Rattle.interpreter.specs.declared.deed.Saving as savings
use Rattle.interpreter.specs.declared.deed.Saving.TheVariants.{Save, Recall}
use Rattle.interpreter.specs.declared.deed.Query as queries
use Rattle.interpreter.specs.declared.deed.Query.TheVariants.{Identity, SelfTest, Completed, Limit, Value, Stored, Condition, SetEvents, Label as label_asked}
use Rattle.interpreter.proofs.Choices.{if-elim}
use Rattle.interpreter.proofs.Kept.{line-keeps}
use Rattle.interpreter.proofs.Checks.{Holds, passes, hold-bind, hold-check}
use Rattle.interpreter.proofs.Bounds.{Fit}
use Rattle.interpreter.proofs.Possible.{event-fit, fit-from, fit-to, power-up-own}
use Rattle.interpreter.proofs.state.Records.{Short, box-from, state-from}
use Rattle.interpreter.proofs.demands.calls.AsHistory.{admits}

-- ---- a store keeps its length

abbrev Sized : Core → Type 0
Sized c = length c.memory.store ≡ store_size

abbrev SizedBox : Box → Type 0
SizedBox b = Sized b.core

changed-sized : (x : changes.Change) (t : Text) (c : Core) → Sized c → Sized (changed x t c)
unfolding changed
changed-sized Nothing t c f = f
changed-sized (Put i v side) t c f = f
changed-sized Reset t c f = f
changed-sized (Store r n side) t c f = f
changed-sized labelled t c f = f

query-sized : (q : queries.Query) (c : Core) → Sized c → Sized (after_query q c)
query-sized Identity c f = f
query-sized SelfTest c f = f
query-sized Completed c f = f
query-sized (Limit i v) c f = f
query-sized (Value i) c f = f
query-sized (Stored x) c f = f
query-sized (Condition x) c f = f
query-sized (SetEvents x) c f = f
query-sized label_asked c f = f

reply-sized : (t : Text) (c : Core) → Sized c → Holds Sized (reply t c)
unfolding reply may_be_queued queueable
reply-sized t c f = hold-check Sized 430 _ _ refl (λ _. passes f)

setup-sized : (x : savings.Saving) (p : ℕ) (c : Core) → p < places → Sized c → Holds Sized (set_up x p c)
unfolding set_up may_be_queued queueable
setup-sized Save p c h f = passes (saved-long p c.settings c.memory.store (omega arith) ∙ f)
setup-sized Recall p c h f = hold-check Sized 314 _ _ refl (λ _. passes f)

perform-sized : (d : Deed) (t : Text) (b : Box) → Allowed b.core.settings d → SizedBox b → Holds SizedBox (perform d t b)
unfolding perform
perform-sized (Change x) t b a f = passes (changed-sized x t b.core f)
perform-sized Complete t b a f = passes f
perform-sized Clear t b a f = passes f
perform-sized (Query q) t b a f = hold-bind Sized SizedBox _ _ (reply-sized _ _ (query-sized q b.core f)) (λ c g. passes g)
perform-sized (Inquire q) t b a f = hold-bind Sized SizedBox _ _ (reply-sized _ _ f) (λ c g. passes g)
perform-sized (Saving x p) t b a f = hold-bind Sized SizedBox _ _ (setup-sized x p b.core a f) (λ c g. passes g)

newline-sized : (b : Box) → SizedBox b → SizedBox (end_line b)
unfolding interrupted
newline-sized b f =
    line-keeps SizedBox (λ d t b a x l f. perform-sized d t b a f) (λ n b e f. f) (λ b f. f) (λ a b f. f) b
    (if-elim SizedBox (empty b.core.answer) (λ _. f) (λ _. f))

byte-sized : (b : Box) (x : ℕ) → SizedBox b → SizedBox (byte b x)
unfolding byte held
byte-sized b x f =
    if-elim SizedBox (eqb x 10) (λ _. newline-sized b f) (λ _. if-elim Sized (ltb (length b.core.line) most_line) (λ _. f) (λ _. f))

piece-sized : (xs : Text) (b : Box) → SizedBox b → SizedBox (piece b xs)
unfolding piece
piece-sized [] b f = f
piece-sized (x ∷ xs) b f = piece-sized xs (byte b x) (byte-sized b x f)

abbrev SizedHappened : Happened → Type 0
SizedHappened h = SizedBox h.box

event-sized : (b : Box) (e : Event) → SizedBox b → SizedBox (happens b e).box
unfolding happens taken reported power_up
event-sized b started f = f
event-sized b (received xs) f = piece-sized xs b f
event-sized b (take buffer) f =
    if-elim SizedHappened (empty b.core.answer) (λ _. f)
    (λ _. if-elim SizedHappened (leb (length b.core.answer) (length buffer)) (λ _. f) (λ _. f))
event-sized b (condition x n) f = if-elim SizedHappened (leb n widest_group) (λ _. f) (λ _. f)
event-sized b look f = f
event-sized b (altered i x) f = length-set b.core.memory.store i x ∙ f
event-sized b (mislent buffer) f = f

-- ---- a record that means a box

state_from : Box → State
state_from b =
    let c = b.core in
    record {
      settings = c.settings;
      status = record { events = b.trouble.events; ese = c.registers.ese; sre = c.registers.sre; groups = c.registers.groups; queued = length b.trouble.queue; errors = b.trouble.queue };
      line = c.line;
      filled = length c.line;
      overlong = c.overlong;
      answer = c.answer;
      waiting = length c.answer;
    }

meant : (b : Box) → box_of (state_from b) b.core.memory ≡ b
unfolding state_from
meant b = rw (take-length b.core.line, take-length b.core.answer, take-length b.trouble.queue)

could-be : (b : Box) → Fit most_answer b → possible_state (state_from b) ≡ true
unfolding state_from
could-be b f =
    let short : Short (state_from b) = record { queued = f.trouble.queue; filled = f.core.line; waiting = f.core.answer } in
    state-from (state_from b) b.core.memory short (ap possible (meant b) ∙ fit-to b f)

-- ---- the functions

record Kept (s : State) (m : lent.Memory) : Type 0 where
  could : possible_state s ≡ true
  long : AsLong s.settings
  size : right_size m ≡ true

does_by : Bool → Does
does_by true s m e = let h = happens (box_of s m) e in (h.result, state_from h.box, h.box.core.memory)
does_by false s m e = (result_of 5 0 (buffer-of e), s, m)

module _ (s : State) (m : lent.Memory) (e : Event) (k : Kept s m) where
  abbrev now : Box
  now = box_of s m

  abbrev left : Happened
  left = happens now e

  fits : Fit most_answer left.box
  fits = event-fit now e (fit-from now k.long (box-from s m k.could))

  sized : right_size left.box.core.memory ≡ true
  unfolding right_size
  sized = eq-eqb _ _ (event-sized now e (eqb-true (length m.store) store_size k.size))

  abbrev Done : Bool → Type 0
  Done t = let d = does_by t s m e in Happens s m e d.0 d.1 d.2 × Kept d.1 d.2

  promised-by : (t : Bool) → rightly m e ≡ t → Done t
  unfolding does_by state_from
  promised-by true r = (
    record {
      possible = λ _ _. (could-be left.box fits, ap (happened left.result) (meant left.box), sized ∙ sym k.size);
      impossible = λ _ a. absurd (false≢true (sym a ∙ admits s e k.could));
      wrong = λ w. absurd (false≢true (sym w ∙ r));
    },
    record { could = could-be left.box fits; long = fits.core.long; size = sized },
  )
  promised-by false r = (
    record {
      possible = λ w _. absurd (false≢true (sym r ∙ w));
      impossible = λ w _. absurd (false≢true (sym r ∙ w));
      wrong = λ _. (refl, refl, refl);
    },
    k,
  )

begun : State
begun = state_from (power_up blank)

begun-started : Started begun
unfolding begun state_from power_up at_start
begun-started = record { possible = could-be (power_up blank) (fit-from (power_up blank) (power-up-own blank).values (power-up-own blank).could); first = λ m. refl }

pub blank-size : right_size blank ≡ true
unfolding right_size blank
blank-size = eq-eqb _ _ (length-replicate {A = ℕ} store_size 0)

pub some-keep : (begins : State) × (does : Does) × Promised begins does
unfolding begun state_from
some-keep = (
  begun,
  (λ s m e. does_by (rightly m e) s m e),
  record {
    Held = Kept;
    at_start = begun-started;
    first_held = record { could = begun-started.possible; long = (power-up-own blank).values; size = blank-size };
    events = λ s m e k t. promised-by s m e k (rightly m e) refl;
  },
)
