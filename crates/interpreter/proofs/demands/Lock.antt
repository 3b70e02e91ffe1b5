-- 02, #105: while the lock holds no line changes any setting but the outputs, and these only to off. Nothing but a deed changes settings or
-- registers, and a deed that the lock lets pass leaves settings and conditions alone, or gives an output a value that is at most 0,
-- and by check 7 at least 0.
use mathlib.Core.Path.{◌≡◌, refl, sym, ◌∙◌, ap, subst}
use mathlib.Core.Bool.{Bool, true, false, not, ◌||◌, and-true, false≢true}
use mathlib.Core.List.{List, [], ◌∷◌, ◌++◌}
use Prim.Native.Nat.{ℕ, zero, suc}
use native.Mathlib.Omega.{arith}
use lib.Dec.{leb, ltb, eqb}
use lib.ListN.{length, get_or, set}
use lib.Seq.{get_or-set_other}
use lib.IntN.{ℤ, pos, negsuc}
use lib.Signed.{le_z}
use borrow.Author.Tests.{eqb-true, eqb-false, leb-true, not-false}
use Rattle.registers.specs.Text.{Text, every, empty}
use Rattle.registers.specs.Queue.{may_be_queued, queueable}
use Rattle.registers.specs.Group.{widest_group}
use Rattle.registers.specs.Settings.{table, setting_at, value_at, output, output2, lowest, within, slots}
use Rattle.registers.specs.Status.{Registers, locked, set_reported}
use Rattle.registers.specs.declared.settings.Settings.{Settings}
use Rattle.registers.specs.declared.status.RegisterSet.{RegisterSet}
use Rattle.registers.specs.declared.status.RegisterSet.TheVariants.{Operation, Lock, Warning}
use Rattle.registers.proofs.Tests.{and_both, and-true as both_true}
use Rattle.registers.proofs.status.Conditions.{condition_in, stored-kept, event-kept, clear_kept, report-kept}
use Rattle.interpreter.specs.Box.{Memory, Core, Box, with_registers, most_line}
use Rattle.interpreter.specs.UnitParts.{Allowed, AllowedChange}
use Rattle.interpreter.specs.Perform.{is_output, blocked_change, blocked, changed, after_query, perform}
use Rattle.interpreter.specs.Reply.{reply}
use Rattle.interpreter.specs.Line.{interrupted, end_line, held, byte, piece}
use Rattle.interpreter.specs.Events.{Event, started, received, take, condition, look, altered, mislent, Happened, Result, taken, reported, happens, after}
use Rattle.interpreter.specs.State.{box_of, possible_state, admitted, rightly, Happens}
use Rattle.interpreter.specs.Calls.{Call, event, instead, chunk, no_chunk, alters, Calls, done, call}
use Rattle.interpreter.specs.Lock.{leaves_key, UnderLock, LockHolds}
use Rattle.interpreter.specs.declared.deed.Deed.{Deed}
use Rattle.interpreter.specs.declared.deed.Deed.TheVariants.{Change, Complete, Clear, Query, Inquire, Saving}
use Rattle.interpreter.specs.declared.deed.Change as changes
use Rattle.interpreter.specs.declared.deed.Change.TheVariants.{Nothing, Put, Reset, Store, Label as labelled}
use Rattle.interpreter.specs.declared.deed.Query as queries
use Rattle.interpreter.specs.declared.deed.Query.TheVariants.{Identity, SelfTest, Completed, Limit, Value, Stored, Condition, SetEvents, Label as label_asked}
use Rattle.interpreter.specs.declared.state.State.{State}
use Rattle.interpreter.proofs.demands.calls.AsHistory.{chunk-after}
use Rattle.interpreter.proofs.Choices.{if-elim}
use Rattle.interpreter.proofs.Kept.{line-keeps}
use Rattle.interpreter.proofs.Checks.{Holds, passes, hold-bind, hold-check}
use Rattle.interpreter.proofs.perform.Permitted.{Lets}

-- ---- a value that is off

-- an output's value by check 7, where the lock lets it pass
off-first : (s : Settings) (v : ℤ) → within s output v ≡ true → le_z v (pos 0) ≡ true → v ≡ pos 0
unfolding within lowest setting_at slots table
off-first s (pos n) w e = let h = leb-true n 0 e in ap pos (omega arith)
off-first s (negsuc n) w e = absurd (false≢true w)

off-second : (s : Settings) (v : ℤ) → within s output2 v ≡ true → le_z v (pos 0) ≡ true → v ≡ pos 0
unfolding within lowest setting_at slots table
off-second s (pos n) w e = let h = leb-true n 0 e in ap pos (omega arith)
off-second s (negsuc n) w e = absurd (false≢true w)

off-value : (s : Settings) (i : ℕ) (v : ℤ) → is_output i ≡ true → within s i v ≡ true → le_z v (pos 0) ≡ true → v ≡ pos 0
off-value s i v o w e = go (eqb i output) refl (eqb i output2) refl o
  where
    go : (a : Bool) → eqb i output ≡ a → (b : Bool) → eqb i output2 ≡ b → (a || b) ≡ true → v ≡ pos 0
    go true q b r k = off-first s v (rw (eqb-true i output q) at w) e
    go false q true r k = off-second s v (rw (eqb-true i output2 r) at w) e
    go false q false r k = absurd (false≢true k)

-- then the output is off
off_set : (l : List ℤ) (i : ℕ) → get_or (set l i (pos 0)) i (pos 0) ≡ pos 0
off_set [] i = refl
off_set (x ∷ l) zero = refl
off_set (x ∷ l) (suc i) = off_set l i

-- no other setting is an output that was one before
not-output : (i j : ℕ) → is_output i ≡ true → is_output j ≡ false → j ≡ i → ⊥
not-output i j o n e = false≢true (sym n ∙ rw e o)

let-pass : (d : Deed) (c : Core) → Lets d c → locked c.registers ≡ true → blocked d ≡ false
let-pass d c l h = sym (and-true (blocked d)) ∙ (rw h at l.free)

-- ---- what is held of settings s

module _ (s : Settings) where
  abbrev HeldCore : Core → Type 0
  HeldCore c = UnderLock s c.settings c.registers

  abbrev HeldBox : Box → Type 0
  HeldBox b = HeldCore b.core

  -- the lock looks at a condition alone
  with-registers : (c : Core) (r : Registers) → condition_in Lock r ≡ condition_in Lock c.registers → HeldCore c → HeldCore (with_registers r c)
  with-registers c r e h = record { others = h.others; text = h.text; only_off = h.only_off; still = ap (λ (n : ℕ). not (eqb n 0)) e ∙ h.still }

  -- ---- deeds

  -- an output that is switched off is off, and the other one is as it was
  switched : (c : Core) (i : ℕ) → HeldCore c → (j : ℕ) → is_output j ≡ true
      → (get_or (set c.settings.values i (pos 0)) j (pos 0) ≡ value_at s j → ⊥) → (t : Bool) → eqb j i ≡ t
      → get_or (set c.settings.values i (pos 0)) j (pos 0) ≡ pos 0
  switched c i h j o changed true q = rw (eqb-true j i q) (off_set c.settings.values i)
  switched c i h j o changed false q =
      let same = get_or-set_other c.settings.values i j (pos 0) (pos 0) (eqb-false j i q) in
      same ∙ h.only_off j o (λ e. changed (same ∙ e))

  change-held : (x : changes.Change) (t : Text) (c : Core) → AllowedChange c.settings x → blocked_change x ≡ false → HeldCore c → HeldCore (changed x t c)
  unfolding changed
  change-held Nothing t c a n h = h
  change-held (Put i v side) t c a n h =
      let p = and_both (is_output i) (le_z v (pos 0)) (not-false _ n) in
      let off = off-value c.settings i v p.0 a.1 p.1 in
      rw off (record {
        others = λ j apart. get_or-set_other c.settings.values i j (pos 0) (pos 0) (not-output i j p.0 apart) ∙ h.others j apart;
        text = h.text;
        only_off = λ j o changed. switched c i h j o changed (eqb j i) refl;
        still = h.still;
      })
  change-held Reset t c a n h = absurd (false≢true (sym n))
  change-held (Store r n side) t c a free h = with-registers c _ (stored-kept Lock c.registers r n) h
  change-held labelled t c a n h = absurd (false≢true (sym n))

  query-held : (q : queries.Query) (c : Core) → HeldCore c → HeldCore (after_query q c)
  query-held Identity c h = h
  query-held SelfTest c h = h
  query-held Completed c h = h
  query-held (Limit i v) c h = h
  query-held (Value i) c h = h
  query-held (Stored r) c h = h
  query-held (Condition x) c h = h
  query-held (SetEvents x) c h = with-registers c _ (event-kept Lock c.registers x) h
  query-held label_asked c h = h

  reply-held : (t : Text) (c : Core) → HeldCore c → Holds HeldCore (reply t c)
  unfolding reply may_be_queued queueable
  reply-held t c h = hold-check HeldCore 430 _ _ refl (λ _. passes h)

  perform-held : (d : Deed) (t : Text) (b : Box) → Allowed b.core.settings d → blocked d ≡ false → HeldBox b → Holds HeldBox (perform d t b)
  unfolding perform
  perform-held (Change x) t b a n h = passes (change-held x t b.core a n h)
  perform-held Complete t b a n h = passes h
  perform-held Clear t b a n h = passes (with-registers b.core _ (clear_kept Lock b.core.registers) h)
  perform-held (Query q) t b a n h = hold-bind HeldCore HeldBox _ _ (reply-held _ _ (query-held q b.core h)) (λ c g. passes g)
  perform-held (Inquire q) t b a n h = hold-bind HeldCore HeldBox _ _ (reply-held _ _ h) (λ c g. passes g)
  perform-held (Saving x p) t b a n h = absurd (false≢true (sym n))

  -- ---- lines

  newline-held : (b : Box) → HeldBox b → HeldBox (end_line b)
  unfolding interrupted
  newline-held b h =
      line-keeps HeldBox (λ d t b a x l h. perform-held d t b a (let-pass d b.core l h.still) h) (λ n b e h. h) (λ b h. h) (λ a b h. h) b
      (if-elim HeldBox (empty b.core.answer) (λ _. h) (λ _. h))

  -- ---- bytes and events

  byte-held : (b : Box) (x : ℕ) → HeldBox b → HeldBox (byte b x)
  unfolding byte held
  byte-held b x h =
      if-elim HeldBox (eqb x 10) (λ _. newline-held b h)
      (λ _. if-elim HeldCore (ltb (length b.core.line) most_line) (λ _. h) (λ _. h))

  piece-held : (b : Box) (xs : Text) → HeldBox b → HeldBox (piece b xs)
  unfolding piece
  piece-held b [] h = h
  piece-held b (x ∷ xs) h = piece-held (byte b x) xs (byte-held b x h)

  abbrev HeldHappened : Happened → Type 0
  HeldHappened h = HeldBox h.box

  reported-held : (x : RegisterSet) (n : ℕ) (b : Box)
      → condition_in Lock (set_reported x n b.core.registers) ≡ condition_in Lock b.core.registers → HeldBox b → HeldHappened (reported x n b)
  unfolding reported
  reported-held x n b e h = if-elim HeldHappened (leb n widest_group) (λ _. with-registers b.core _ e h) (λ _. h)

  event-held : (b : Box) (e : Event) → leaves_key e ≡ true → HeldBox b → HeldBox (happens b e).box
  unfolding happens taken
  event-held b started k h = absurd (false≢true k)
  event-held b (received xs) k h = piece-held b xs h
  event-held b (take buffer) k h =
      if-elim HeldHappened (empty b.core.answer) (λ _. h)
      (λ _. if-elim HeldHappened (leb (length b.core.answer) (length buffer)) (λ _. h) (λ _. h))
  event-held b (condition Operation n) k h = reported-held Operation n b (report-kept Lock b.core.registers Operation n (λ e. omega arith)) h
  event-held b (condition Lock n) k h = absurd (false≢true k)
  event-held b (condition Warning n) k h = reported-held Warning n b (report-kept Lock b.core.registers Warning n (λ e. omega arith)) h
  event-held b look k h = h
  event-held b (altered i x) k h = h
  event-held b (mislent buffer) k h = h

  history-held : (b : Box) (es : List Event) → every leaves_key es ≡ true → HeldBox b → HeldBox (after b es)
  unfolding after
  history-held b [] k h = h
  history-held b (e ∷ es) k h =
      let p = and_both (leaves_key e) (every leaves_key es) k in history-held (happens b e).box es p.1 (event-held b e p.0 h)

  -- ---- calls, by their promises

  same-held : (a t : State) (m n : Memory) → t ≡ a → HeldBox (box_of a m) → HeldBox (box_of t n)
  same-held a t m n e h = subst (λ (x : State). HeldBox (box_of x n)) (sym e) h

  happens-held : (a t : State) (m n : Memory) (e : Event) (r : Result) → Happens a m e r t n → leaves_key e ≡ true
      → HeldBox (box_of a m) → HeldBox (box_of t n)
  happens-held a t m n e r p k h = go (rightly m e) refl (admitted a e) refl
    where
      go : (o : Bool) → rightly m e ≡ o → (b : Bool) → admitted a e ≡ b → HeldBox (box_of t n)
      go true l true q = subst HeldBox (sym (ap (λ (x : Happened). x.box) (p.possible l q).1)) (event-held (box_of a m) e k h)
      go true l false q = same-held a t m n (p.impossible l q).0 h
      go false l b q = same-held a t m n (p.wrong l).0 h

  every-parts : (es fs : List Event) → every leaves_key (es ++ fs) ≡ true → (every leaves_key es ≡ true) × (every leaves_key fs ≡ true)
  every-parts [] fs k = (refl, k)
  every-parts (e ∷ es) fs k =
      let p = and_both (leaves_key e) (every leaves_key (es ++ fs)) k in
      let q = every-parts es fs p.1 in
      (both_true p.0 q.0, q.1)

  call-held : (a t : State) (m n : Memory) (es : List Event) (rs : List Result) → Call a m t n es rs → every leaves_key es ≡ true
      → HeldBox (box_of a m) → HeldBox (box_of t n)
  call-held a t m n _ _ (event {e = e} {r = r} l p) k h = happens-held a t m n e r p (and_both (leaves_key e) true k).0 h
  call-held a t m n _ _ (instead l p same) k h = same-held a t m n (p.wrong l).0 h
  call-held a t m n es _ (chunk {input = input} {output = output} {left = left} {number = number} {read = read} {written = written} l w) k h = go (possible_state a) refl
    where
      go : (b : Bool) → possible_state a ≡ b → HeldBox (box_of t n)
      go true q = subst HeldBox (sym (chunk-after a t m n input output left number read written w l q)) (history-held (box_of a m) es k h)
      go false q = same-held a t m n (w.impossible l q).0 h
  call-held a t m n _ _ (no_chunk l w same) k h = same-held a t m n (w.wrong l).0 h
  call-held a t m n _ _ (alters e same) k h = same-held a t m n e h

  calls-held : (t : State) (n : Memory) (a : State) (m : Memory) (es : List Event) (rs : List Result) → Calls t n a m es rs
      → every leaves_key es ≡ true → HeldBox (box_of a m) → HeldBox (box_of t n)
  calls-held t n a m _ _ done k h = h
  calls-held t n a m _ _ (call {u = u} {k = l} {es = es} {fs = fs} {rs = rs} {qs = qs} p more) k h =
      let q = every-parts es fs k in calls-held t n u l fs qs more q.1 (call-held a u m l es rs p q.0 h)

-- ---- the law

start : (s : Settings) (r : Registers) → locked r ≡ true → UnderLock s s r
start s r l = record { others = λ i apart. refl; text = refl; only_off = λ i o changes. absurd (changes refl); still = l }

pub lock-holds : LockHolds
lock-holds =
    record {
      histories = λ b es l k. history-held b.core.settings b es k (start b.core.settings b.core.registers l);
      calls = λ s t m n es rs c l k. calls-held s.settings t n s m es rs c k (start s.settings _ l);
    }
