-- 02, #112, proved: what a history's steps do is what happens to its queue, each on the queue that the one before left (`Chain`), and one step
-- keeps the account. No step raises a -350, since no unit does (harm/UnitRefusals).
use mathlib.Core.Path.{◌≡◌, refl, sym, ◌∙◌, ap, subst}
use mathlib.Core.Bool.{Bool, true, false, not, ◌||◌, false≢true}
use mathlib.Core.List.{List, [], ◌∷◌, ◌++◌, append_assoc, append-nil}
use Prim.Native.Nat.{ℕ, zero, suc, ◌≤◌, ◌<◌, zero-le}
use native.Mathlib.Omega.{arith}
use lib.Dec.{leb, ltb, eqb}
use lib.ListN.{length, take, length-append, length-take}
use borrow.Author.Tests.{eqb-true, eqb-false, ltb-true, ltb-false, lt-ltb, ne_eqb}
use Rattle.registers.specs.Text.{Text, if◌then◌otherwise◌, every, empty, rest}
use Rattle.registers.specs.Check.{Checked, refused, passed, ◌>>=◌, ◌>>◌}
use Rattle.registers.specs.Error.{overflow}
use Rattle.registers.specs.Queue.{most, last_place, may_be_queued, queueable}
use Rattle.registers.specs.Group.{widest_group}
use Rattle.registers.specs.Status.{Trouble, at_start, raised, oldest_read, completed, events_read}
use Rattle.registers.proofs.Tests.{and_both, if-same}
use Rattle.interpreter.specs.Cuts.{last, front}
use Rattle.interpreter.specs.Box.{Core, Box, box, raise, power_up}
use Rattle.interpreter.specs.Unit.{Read, read_unit, raisable}
use Rattle.interpreter.specs.Reply.{reply_to, inquiry_reply, reply}
use Rattle.interpreter.specs.Perform.{set_up, after_query, permitted, perform}
use Rattle.interpreter.specs.Line.{Obeyed, attempt, refuse, next, run_units, units_of, interrupted, finished, run_line, end_line, at_newline, byte, piece}
use Rattle.interpreter.specs.Events.{Event, started, received, take as takes, condition, look, altered, mislent, Happened, taken, reported, happens, after}
use Rattle.interpreter.specs.State.{box_of}
use Rattle.interpreter.specs.Steps.{Step, discards, overruns, steps_next, unit_steps, line_steps, own_steps, end_steps, byte_steps, piece_steps, event_steps, steps}
use Rattle.interpreter.specs.Account.{Act, raises, reads, starts, leaves, inquiry_act, deed_act, read_act, unit_act, act_of, waits, kept_by, kept, full_at_next, full_by, unlost_by, unlost, goes_on, read_by, read_in, struck, Accounted, waiting_at, queue, SincePowerUp, SinceStart, NoneUnaccounted}
use Rattle.interpreter.specs.declared.deed.Deed.{Deed}
use Rattle.interpreter.specs.declared.deed.Deed.TheVariants.{Change, Complete, Clear, Query, Inquire, Saving}
use Rattle.interpreter.specs.declared.deed.Inquiry as inquiries
use Rattle.interpreter.specs.declared.deed.Inquiry.TheVariants.{StandardEvents, StatusByte, NextError}
use Rattle.interpreter.proofs.Choices.{if-elim, if₂}
use Rattle.interpreter.proofs.Checks.{at-refused}
use Rattle.interpreter.proofs.demands.harm.UnitRefusals.{attempt-known}
use Rattle.interpreter.proofs.demands.calls.AsHistory.{calls-are-a-history}

-- ---- the queue, step by step

-- what an act leaves of a queue
abbrev acted : Act → List ℕ → List ℕ
acted (raises n) q = if ltb (length q) most then q ++ n ∷ [] otherwise take last_place q ++ overflow ∷ []
acted reads q = rest q
acted starts q = []
acted leaves q = q

-- no act raises a -350
abbrev Fine : Act → Type 0
Fine (raises n) = n ≡ overflow → ⊥
Fine reads = Unit {0}
Fine starts = Unit {0}
Fine leaves = Unit {0}

-- the steps lead from one queue to another, and none raises a -350
abbrev Chain : List ℕ → List Step → List ℕ → Type 0
Chain q [] r = q ≡ r
Chain q (s ∷ ss) r = (waits s ≡ q) × Fine (act_of s) × Chain (acted (act_of s) q) ss r

chain-then : (xs ys : List Step) (p q r : List ℕ) → Chain p xs q → Chain q ys r → Chain p (xs ++ ys) r
chain-then [] ys p q r c d = subst (λ (o : List ℕ). Chain o ys r) (sym c) d
chain-then (x ∷ xs) ys p q r c d = (c.0, c.1, chain-then xs ys _ q r c.2 d)

-- what comes after some of the steps
chain-rest : (xs ys : List Step) (p r : List ℕ) → Chain p (xs ++ ys) r → (q : List ℕ) × Chain q ys r
chain-rest [] ys p r c = (p, c)
chain-rest (x ∷ xs) ys p r c = chain-rest xs ys _ r c.2

raised-queue : (n : ℕ) (t : Trouble) → acted (raises n) t.queue ≡ (raised n t).queue
unfolding raised
raised-queue n t = if₂ (λ (q : List ℕ) (u : Trouble). q ≡ u.queue) (ltb (length t.queue) most) refl refl

refused-queue : (n : ℕ) (b : Box) → acted (raises n) (queue b) ≡ queue (refuse n b)
unfolding refuse
refused-queue n b =
    if-elim (λ (c : Box). acted (raises n) (queue b) ≡ queue (raise n c)) (eqb n 430) (λ _. raised-queue n b.trouble) (λ _. raised-queue n b.trouble)

-- what a unit can raise is no -350
other-number : (n : ℕ) → raisable n ≡ true → n ≡ overflow → ⊥
unfolding may_be_queued queueable
other-number n r e = false≢true (rw e at r)

-- ---- units

abbrev leaving : List Text → Checked Box → Checked Obeyed
leaving path m = m >>= λ b. passed (record { path = path; box = b })

-- the units after this one, and what is known of this one's refusal
module _ (run : List Text → Box → Box) (go : List Text → Box → List Step)
    (ih : (path : List Text) (c : Box) → Chain (queue c) (go path c) (queue (run path c))) (b : Box) where
  -- this unit, which is refused by no -350, and the units after it
  abbrev Leads : Act → Checked Obeyed → Type 0
  Leads a m = ((n : ℕ) → m ≡ refused n → n ≡ overflow → ⊥)
      → Fine (unit_act a m) × Chain (acted (unit_act a m) (queue b)) (steps_next go m) (queue (next run b m))

  refused-leads : (a : Act) (n : ℕ) → Leads a (refused n)
  refused-leads a n k = (k n refl, refused-queue n b)

  -- a query that fits or not, which leaves another queue or the same
  reply-leads : (path : List Text) (a : Act) → Fine a → (t : Trouble) → acted a (queue b) ≡ t.queue → (r : Checked Core)
      → Leads a (leaving path (r >>= λ d. passed (box d t)))
  unfolding ◌>>=◌
  reply-leads path a fine t e (refused n) k = refused-leads a n k
  reply-leads path a fine t e (passed d) k =
      (fine, subst (λ (q : List ℕ). Chain q (go path (box d t)) (queue (run path (box d t)))) (sym e) (ih path (box d t)))

  inquiry-leads : (path : List Text) (text : Text) (q : inquiries.Inquiry) → Leads (inquiry_act q) (leaving path (perform (Inquire q) text b))
  unfolding perform events_read oldest_read
  inquiry-leads path text StandardEvents = reply-leads path leaves tt _ refl (reply (inquiry_reply StandardEvents b) b.core)
  inquiry-leads path text StatusByte = reply-leads path leaves tt _ refl (reply (inquiry_reply StatusByte b) b.core)
  inquiry-leads path text NextError = reply-leads path reads tt _ refl (reply (inquiry_reply NextError b) b.core)

  deed-leads : (path : List Text) (text : Text) (d : Deed) → Leads (deed_act d) (leaving path (perform d text b))
  unfolding perform completed ◌>>=◌
  deed-leads path text (Change x) k = (tt, ih path _)
  deed-leads path text Complete k = (tt, ih path _)
  deed-leads path text Clear k = (tt, ih path _)
  deed-leads path text (Query q) k = reply-leads path leaves tt b.trouble refl (reply (reply_to q b.core) (after_query q b.core)) k
  deed-leads path text (Inquire q) k = inquiry-leads path text q k
  deed-leads path text (Saving x p) k = reply-leads path leaves tt b.trouble refl (set_up x p b.core) k

  -- the lock and check 8
  permitted-leads : (p : Checked (Unit {0})) (path : List Text) (text : Text) (d : Deed) → Leads (deed_act d) (p >> leaving path (perform d text b))
  unfolding ◌>>◌
  permitted-leads (refused n) path text d k = refused-leads (deed_act d) n k
  permitted-leads (passed _) path text d k = deed-leads path text d k

  read-leads : (m : Checked Read) → Leads (read_act m) (m >>= λ r. permitted r.deed b.core >> leaving r.path (perform r.deed r.text b))
  unfolding ◌>>=◌
  read-leads (refused n) k = refused-leads leaves n k
  read-leads (passed r) k = permitted-leads (permitted r.deed b.core) r.path r.text r.deed k

units-chain : (us path : List Text) (b : Box) → Chain (queue b) (unit_steps us path b) (queue (run_units us path b))
unfolding unit_steps run_units attempt act_of
units-chain [] path b = refl
units-chain (u ∷ us) path b =
    let l = read-leads (λ p c. run_units us p c) (λ p c. unit_steps us p c) (λ p c. units-chain us p c) b (read_unit b.core.settings path u)
    (λ n e. other-number n (at-refused (attempt-known path b u) e)) in
    (refl, l.0, l.1)

-- ---- lines, pieces and events

-- the newline's own errors
overruns-chain : (b : Box) → Chain (queue b) (overruns b ∷ []) (queue (raise 363 b))
unfolding act_of
overruns-chain b = (refl, (λ e. omega arith), raised-queue 363 b.trouble)

discards-chain : (b : Box) → Chain (queue b) (if empty b.core.answer then [] otherwise discards b ∷ []) (queue (at_newline b))
unfolding interrupted act_of
discards-chain b =
    if₂ (λ (ss : List Step) (c : Box). Chain (queue b) ss (queue c)) (empty b.core.answer) refl (refl, (λ e. omega arith), raised-queue 410 b.trouble)

finished-queue : (b : Box) → queue (finished b) ≡ queue b
unfolding finished
finished-queue b = if-elim (λ (c : Box). queue c ≡ queue b) (empty b.core.answer) (λ _. refl) (λ _. refl)

line-chain : (line : Text) (overlong : Bool) (b : Box) → Chain (queue b) (line_steps line overlong b) (queue (run_line line overlong b))
unfolding line_steps run_line if◌then◌otherwise◌
line-chain line true b = overruns-chain b
line-chain line false b =
    subst (λ (q : List ℕ). Chain (queue b) (unit_steps (units_of line) [] b) q) (sym (finished-queue (run_units (units_of line) [] b))) (units-chain (units_of line) [] b)

end-chain : (b : Box) → Chain (queue b) (end_steps b) (queue (end_line b))
unfolding end_steps end_line
end-chain b =
    chain-then (if empty b.core.answer then [] otherwise discards b ∷ []) (own_steps b) (queue b) (queue (at_newline b)) _
    (discards-chain b) (line-chain b.core.line b.core.overlong (at_newline b))

byte-chain : (b : Box) (x : ℕ) → Chain (queue b) (byte_steps b x) (queue (byte b x))
unfolding byte_steps byte
byte-chain b x = if₂ (λ (ss : List Step) (c : Box). Chain (queue b) ss (queue c)) (eqb x 10) (end-chain b) refl

piece-chain : (b : Box) (xs : Text) → Chain (queue b) (piece_steps b xs) (queue (piece b xs))
unfolding piece_steps piece
piece-chain b [] = refl
piece-chain b (x ∷ xs) = chain-then (byte_steps b x) (piece_steps (byte b x) xs) _ _ _ (byte-chain b x) (piece-chain (byte b x) xs)

event-chain : (b : Box) (e : Event) → Chain (queue b) (event_steps b e) (queue (happens b e).box)
unfolding event_steps happens taken reported power_up at_start act_of
event-chain b started = (refl, tt, refl)
event-chain b (received xs) = piece-chain b xs
event-chain b (takes buffer) =
    if₂ (λ (ss : List Step) (h : Happened). Chain (queue b) ss (queue h.box)) (empty b.core.answer) (refl, (λ e. omega arith), raised-queue 420 b.trouble)
    (if-elim (λ (h : Happened). queue b ≡ queue h.box) (leb (length b.core.answer) (length buffer)) (λ _. refl) (λ _. refl))
event-chain b (condition x n) = if-elim (λ (h : Happened). queue b ≡ queue h.box) (leb n widest_group) (λ _. refl) (λ _. refl)
event-chain b look = refl
event-chain b (altered i x) = refl
event-chain b (mislent buffer) = refl

history-chain : (b : Box) (es : List Event) → Chain (queue b) (steps b es) (queue (after b es))
unfolding steps after
history-chain b [] = refl
history-chain b (e ∷ es) = chain-then (event_steps b e) (steps (happens b e).box es) _ _ _ (event-chain b e) (history-chain (happens b e).box es)

-- ---- one act keeps the account

struck-append : (xs ys : List ℕ) → struck (xs ++ ys) ≡ struck xs ++ struck ys
unfolding if◌then◌otherwise◌
struck-append [] ys = refl
struck-append (x ∷ xs) ys = go (not (eqb x overflow)) (struck-append xs ys)
  where
    go : (t : Bool) → struck (xs ++ ys) ≡ struck xs ++ struck ys
        → (if t then x ∷ struck (xs ++ ys) otherwise struck (xs ++ ys)) ≡ (if t then x ∷ struck xs otherwise struck xs) ++ struck ys
    go true ih = ap (λ (l : List ℕ). x ∷ l) ih
    go false ih = ih

struck-one : (n : ℕ) → (n ≡ overflow → ⊥) → struck (n ∷ []) ≡ n ∷ []
unfolding if◌then◌otherwise◌
struck-one n h = rw (ne_eqb n overflow h)

front-snoc : (xs : List ℕ) (x : ℕ) → front (xs ++ x ∷ []) ≡ xs
unfolding if◌then◌otherwise◌
front-snoc [] x = refl
front-snoc (y ∷ []) x = refl
front-snoc (y ∷ z ∷ xs) x = ap (λ (l : List ℕ). y ∷ l) (front-snoc (z ∷ xs) x)

-- all but the last, and the last
snoc : (n : ℕ) (q : List ℕ) → length q ≡ suc n → q ≡ take n q ++ last q ∷ []
unfolding if◌then◌otherwise◌
snoc n [] h = absurd (omega arith)
snoc zero (x ∷ []) h = refl
snoc zero (x ∷ y ∷ q) h = absurd (omega arith)
snoc (suc n) (x ∷ []) h = absurd (omega arith)
snoc (suc n) (x ∷ y ∷ q) h = ap (λ (l : List ℕ). x ∷ l) (snoc n (y ∷ q) (omega arith))

module _ (ks rs q : List ℕ) (is : ks ≡ struck rs ++ struck q) where
  -- the sixteenth, which is no -350, is the last of those not lost
  last-kept : length q ≡ most → (last q ≡ overflow → ⊥) → ks ≡ (struck rs ++ struck (take last_place q)) ++ last q ∷ []
  last-kept h other =
      is ∙ ap (λ (l : List ℕ). struck rs ++ struck l) (snoc last_place q h)
      ∙ ap (λ (l : List ℕ). struck rs ++ l) (struck-append (take last_place q) (last q ∷ []) ∙ ap (λ (l : List ℕ). struck (take last_place q) ++ l) (struck-one (last q) other))
      ∙ sym (append_assoc (struck rs) (struck (take last_place q)) (last q ∷ []))

  sixteenth-kept : length q ≡ most → (last q ≡ overflow → ⊥) → ks ≡ front ks ++ last q ∷ []
  sixteenth-kept h other =
      let s = last-kept h other in
      s ∙ ap (λ (l : List ℕ). l ++ last q ∷ []) (sym (ap front s ∙ front-snoc (struck rs ++ struck (take last_place q)) (last q)))

  full-kept : length q ≡ most → (if eqb (last q) overflow then ks otherwise front ks) ≡ struck rs ++ struck (take last_place q ++ overflow ∷ [])
  unfolding if◌then◌otherwise◌
  full-kept h = go (eqb (last q) overflow) refl
    where
      go : (t : Bool) → eqb (last q) overflow ≡ t → (if t then ks otherwise front ks) ≡ struck rs ++ struck (take last_place q ++ overflow ∷ [])
      go true e = is ∙ ap (λ (l : List ℕ). struck rs ++ struck l) (snoc last_place q h ∙ ap (λ (x : ℕ). take last_place q ++ x ∷ []) (eqb-true (last q) overflow e))
      go false e =
          ap front (last-kept h (eqb-false (last q) overflow e)) ∙ front-snoc (struck rs ++ struck (take last_place q)) (last q)
          ∙ ap (λ (l : List ℕ). struck rs ++ l) (sym (append-nil (struck (take last_place q))) ∙ sym (struck-append (take last_place q) (overflow ∷ [])))

  raise-kept : length q ≤ most → (n : ℕ) → (n ≡ overflow → ⊥) → kept_by (raises n) q ks ≡ struck rs ++ struck (acted (raises n) q)
  unfolding if◌then◌otherwise◌
  raise-kept fits n other = go (ltb (length q) most) refl
    where
      go : (t : Bool) → ltb (length q) most ≡ t
          → (if t then ks ++ n ∷ [] otherwise (if eqb (last q) overflow then ks otherwise front ks)) ≡ struck rs ++ struck (if t then q ++ n ∷ [] otherwise take last_place q ++ overflow ∷ [])
      go true e = ap (λ (l : List ℕ). l ++ n ∷ []) is ∙ append_assoc (struck rs) (struck q) (n ∷ [])
          ∙ ap (λ (l : List ℕ). struck rs ++ l) (ap (λ (l : List ℕ). struck q ++ l) (sym (struck-one n other)) ∙ sym (struck-append q (n ∷ [])))
      go false e = let h = ltb-false (length q) most e in full-kept (omega arith)

first-and-rest : (q : List ℕ) → take 1 q ++ rest q ≡ q
first-and-rest [] = refl
first-and-rest (x ∷ q) = refl

act-kept : (a : Act) (ks rs q : List ℕ) → ks ≡ struck rs ++ struck q → length q ≤ most → Fine a
    → kept_by a q ks ≡ struck (read_by a q rs) ++ struck (acted a q)
act-kept (raises n) ks rs q is fits other = raise-kept ks rs q is fits n other
act-kept reads ks rs q is fits other =
    is ∙ ap (λ (l : List ℕ). struck rs ++ struck l) (sym (first-and-rest q))
    ∙ ap (λ (l : List ℕ). struck rs ++ l) (struck-append (take 1 q) (rest q))
    ∙ sym (append_assoc (struck rs) (struck (take 1 q)) (struck (rest q)))
    ∙ ap (λ (l : List ℕ). l ++ struck (rest q)) (sym (struck-append rs (take 1 q)))
act-kept starts ks rs q is fits other = refl
act-kept leaves ks rs q is fits other = is

rest-short : (q : List ℕ) → length q ≤ most → length (rest q) ≤ most
rest-short [] h = h
rest-short (x ∷ q) h = omega arith

act-fits : (a : Act) (q : List ℕ) → length q ≤ most → length (acted a q) ≤ most
act-fits (raises n) q h =
    if-elim (λ (l : List ℕ). length l ≤ most) (ltb (length q) most)
    (λ e. let k = ltb-true (length q) most e in simp length-append (omega arith))
    (λ _. simp (length-append, length-take) (omega arith))
act-fits reads q h = rest-short q h
act-fits starts q h = zero-le
act-fits leaves q h = h

-- ---- the account at any moment of a chain

moment-kept : (since later : List Step) (ks rs q r : List ℕ) → ks ≡ struck rs ++ struck q → length q ≤ most → Chain q (since ++ later) r
    → kept ks since ≡ struck (read_in rs since) ++ struck (waiting_at later r)
unfolding kept read_in
moment-kept [] [] ks rs q r is fits c = is ∙ ap (λ (l : List ℕ). struck rs ++ struck l) c
moment-kept [] (s ∷ ss) ks rs q r is fits c = is ∙ ap (λ (l : List ℕ). struck rs ++ struck l) (sym c.0)
moment-kept (s ∷ ss) later ks rs q r is fits c =
    let e = c.0 in
    moment-kept ss later (kept_by (act_of s) (waits s) ks) (read_by (act_of s) (waits s) rs) (acted (act_of s) q) r
    (rw e (act-kept (act_of s) ks rs q is fits c.1)) (act-fits (act_of s) q fits) c.2

-- ---- the lost ones by what comes after them

last_snoc : (q : List ℕ) (n : ℕ) → last (q ++ n ∷ []) ≡ n
unfolding if◌then◌otherwise◌
last_snoc [] n = refl
last_snoc (x ∷ []) n = refl
last_snoc (x ∷ y ∷ q) n = last_snoc (y ∷ q) n

-- a queue that isn't full isn't full as the next error comes
not_full : (ss : List Step) (q r : List ℕ) → length q < most → Chain q ss r → full_at_next ss ≡ false
unfolding full_at_next
not_full [] q r h c = refl
not_full (s ∷ ss) q r h c = go (act_of s) c.0 c.2 (λ p e d. not_full ss p r e d)
  where
    go : (a : Act) → waits s ≡ q → Chain (acted a q) ss r → ((p : List ℕ) → length p < most → Chain p ss r → full_at_next ss ≡ false)
        → full_by a (waits s) (full_at_next ss) ≡ false
    go (raises n) e d more = rw (e, lt-ltb (length q) most h)
    go reads e d more = more (rest q) (shorter q h) d
      where
        shorter : (p : List ℕ) → length p < most → length (rest p) < most
        shorter [] l = l
        shorter (x ∷ p) l = omega arith
    go starts e d more = refl
    go leaves e d more = more q h d

-- of the errors kept so far the last is lost where the next error finds the queue full, unless a -350 stands last there
abbrev trimmed : List ℕ → List ℕ → Bool → List ℕ
trimmed q ks next = if next then (if eqb (last q) overflow then ks otherwise front ks) otherwise ks

module _ (ks q : List ℕ) (later : List ℕ) where
  -- an error that has room
  room-unlost : (n : ℕ) → (n ≡ overflow → ⊥) → (next : Bool)
      → trimmed (q ++ n ∷ []) (ks ++ n ∷ []) next ++ later ≡ ks ++ (if next then later otherwise n ∷ later)
  unfolding if◌then◌otherwise◌
  room-unlost n other true = rw (last_snoc q n, ne_eqb n overflow other, front-snoc ks n)
  room-unlost n other false = append_assoc ks (n ∷ []) later

lost-unlost : (ss : List Step) (ks q r : List ℕ) → length q ≤ most → every (λ s. goes_on (act_of s)) ss ≡ true → Chain q ss r
    → kept ks ss ≡ trimmed q ks (full_at_next ss) ++ unlost ss
unfolding kept unlost full_at_next if◌then◌otherwise◌
lost-unlost [] ks q r fits on c = sym (append-nil ks)
lost-unlost (s ∷ ss) ks q r fits on c =
    let p = and_both (goes_on (act_of s)) (every (λ s. goes_on (act_of s)) ss) on in
    go (act_of s) p.0 c.0 c.1 c.2 (λ js o e d. lost-unlost ss js o r e p.1 d)
  where
    go : (a : Act) → goes_on a ≡ true → waits s ≡ q → Fine a → Chain (acted a q) ss r
        → ((js o : List ℕ) → length o ≤ most → Chain o ss r → kept js ss ≡ trimmed o js (full_at_next ss) ++ unlost ss)
        → kept (kept_by a (waits s) ks) ss ≡ trimmed q ks (full_by a (waits s) (full_at_next ss)) ++ unlost_by a (waits s) (full_at_next ss) (unlost ss)
    go starts o e f d more = absurd (false≢true o)
    go leaves o e f d more = more ks q fits d
    go reads o e f d more =
        let g = act-fits reads q fits in
        let none = not_full ss (rest q) r (fewer q fits) d in
        more ks (rest q) g d ∙ rw none
      where
        fewer : (p : List ℕ) → length p ≤ most → length (rest p) < most
        fewer [] l = omega arith
        fewer (x ∷ p) l = omega arith
    go (raises n) o e f d more = rw e (by-room (ltb (length q) most) refl)
      where
        by-room : (t : Bool) → ltb (length q) most ≡ t
            → kept (if t then ks ++ n ∷ [] otherwise (if eqb (last q) overflow then ks otherwise front ks)) ss
            ≡ trimmed q ks (not t) ++ (if not t || full_at_next ss then unlost ss otherwise n ∷ unlost ss)
        by-room true u =
            more (ks ++ n ∷ []) (q ++ n ∷ []) (rw u at (act-fits (raises n) q fits)) (rw u at d) ∙ room-unlost ks q (unlost ss) n f (full_at_next ss)
        by-room false u =
            let js = if eqb (last q) overflow then ks otherwise front ks in
            more js (take last_place q ++ overflow ∷ []) (rw u at (act-fits (raises n) q fits)) (rw u at d)
            ∙ ap (λ (l : List ℕ). l ++ unlost ss) (if-same (full_at_next ss) (if eqb (last (take last_place q ++ overflow ∷ [])) overflow then js otherwise front js) js (rw (last_snoc (take last_place q) overflow)))

-- the queue as the moment comes
chain_first : (since later : List Step) (q r : List ℕ) → Chain q (since ++ later) r → (o : List ℕ) × Chain q since o
chain_first [] later q r c = (q, refl)
chain_first (s ∷ ss) later q r c = let d = chain_first ss later _ r c.2 in (d.0, (c.0, c.1, d.1))

from-none : (since later : List Step) (r : List ℕ) → every (λ s. goes_on (act_of s)) since ≡ true → Chain [] (since ++ later) r → kept [] since ≡ unlost since
unfolding if◌then◌otherwise◌
from-none since later r on c =
    let d = chain_first since later [] r c in
    lost-unlost since [] [] d.0 zero-le on d.1 ∙ ap (λ (l : List ℕ). l ++ unlost since) (none (full_at_next since))
  where
    none : (t : Bool) → trimmed [] [] t ≡ []
    none true = refl
    none false = refl

-- from an empty queue
from_empty : (since later : List Step) (r : List ℕ) → Chain [] (since ++ later) r → Accounted since (waiting_at later r)
from_empty since later r c =
    let is = moment-kept since later [] [] [] r refl zero-le c in
    record { all = is; lost = λ on. from-none since later r on c; sixteenth = sixteenth-kept (kept [] since) (read_in [] since) (waiting_at later r) is }

since-power-up : SincePowerUp
unfolding power_up at_start
since-power-up m es since later e = from_empty since later _ (subst (λ (ss : List Step). Chain [] ss (queue (after (power_up m) es))) e (history-chain (power_up m) es))

since-start : SinceStart
since-start b es before since later start is e =
    let c = subst (λ (ss : List Step). Chain (queue b) ss (queue (after b es))) e (history-chain b es) in
    let d = chain-rest before (start ∷ (since ++ later)) (queue b) _ c in
    from_empty since later _ (subst (λ (a : Act). Chain (acted a d.0) (since ++ later) (queue (after b es))) is d.1.2)

-- ---- calls make a history, and leave its queue

pub none-unaccounted : NoneUnaccounted
none-unaccounted =
    record {
      power_up = since-power-up;
      start = since-start;
      power_up_of_calls = λ s t m n es rs h c since later e.
          let is : box_of t n ≡ after (power_up m) es =
          (calls-are-a-history s t m n es rs h.possible c).box ∙ ap (λ (b : Box). after b es) (h.first m) in
          subst (λ (b : Box). Accounted since (waiting_at later (queue b))) (sym is) (since-power-up m es since later e);
      start_of_calls = λ s t m n es rs p c before since later start is e.
          subst (λ (b : Box). Accounted since (waiting_at later (queue b))) (sym (calls-are-a-history s t m n es rs p c).box)
          (since-start (box_of s m) es before since later start is e);
    }
