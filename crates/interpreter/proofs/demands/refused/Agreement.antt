-- Demand 3, after the refused line: two boxes that differ in the trouble alone agree until a unit asks for it, and are equal after an
-- obeyed *CLS. By induction over units, bytes and events: `Agree` says what has to agree by what the
-- watch has found so far: neither, asked or cleared.
use mathlib.Core.Path.{◌≡◌, refl, ap, ap₂, subst}
use mathlib.Core.Bool.{Bool, true, false}
use mathlib.Core.List.{List, [], ◌∷◌}
use Prim.Native.Nat.{ℕ}
use lib.Dec.{leb, eqb}
use lib.ListN.{length}
use Rattle.registers.specs.Text.{Text, if◌then◌otherwise◌, empty}
use Rattle.registers.specs.Check.{Checked, refused, passed, ◌>>=◌, ◌>>◌, check}
use Rattle.registers.specs.Group.{widest_group}
use Rattle.registers.specs.Status.{Trouble, raised}
use Rattle.registers.specs.declared.status.RegisterSet.{RegisterSet}
use Rattle.interpreter.specs.Box.{Core, Box, box, with_line, with_answer, raise}
use Rattle.interpreter.specs.Unit.{Read, read_unit}
use Rattle.interpreter.specs.Perform.{permitted, after_query, set_up, perform}
use Rattle.interpreter.specs.Reply.{reply_to, reply}
use Rattle.interpreter.specs.Line.{Obeyed, attempt, refuse, next, run_units, units_of, interrupted, finished, run_line, end_line, at_newline, held, byte, piece}
use Rattle.interpreter.specs.Events.{Event, started, received, take, condition, look, altered, mislent, Happened, Result, taken, reported, happens, after}
use Rattle.interpreter.specs.Histories.{is_take, results_of, answers}
use Rattle.interpreter.specs.Demand3.{Watch, neither, asked, cleared, then_watch, watch_deed, watch_read, watch_next, watch_units, watch_line, watch_byte, watch_piece, watch_event, watch, Agree, AgreeAnswers}
use Rattle.interpreter.specs.declared.deed.Deed.{Deed}
use Rattle.interpreter.specs.declared.deed.Deed.TheVariants.{Change, Complete, Clear, Query, Inquire, Saving}
use Rattle.interpreter.proofs.Choices.{if₂}

-- what holds of two boxes with one core holds of two whose cores are equal
pub over-cores {ℓ} : (P : Box → Box → Type ℓ) → ((c : Core) (t t' : Trouble) → P (box c t) (box c t'))
    → (a b : Box) → a.core ≡ b.core → P a b
over-cores P h a b e = subst (λ (c : Core). P a (box c b.trouble)) e (h a.core a.trouble b.trouble)

-- ---- units

abbrev SameCore : Box → Box → Type 0
SameCore a b = a.core ≡ b.core

refuse-core : (n : ℕ) (c : Core) (t t' : Trouble) → SameCore (refuse n (box c t)) (refuse n (box c t'))
unfolding refuse
refuse-core n c t t' = if₂ (λ (a b : Box). SameCore (raise n a) (raise n b)) (eqb n 430) refl refl

-- the rest of a line, at any two boxes with one core
abbrev Rest : (List Text → Box → Box) → (List Text → Box → Watch) → Type 0
Rest run go = (path : List Text) (c : Core) (t t' : Trouble) → Agree (go path (box c t)) (run path (box c t)) (run path (box c t'))

-- what an accepted unit leaves, with its path
abbrev pub leaving : List Text → Checked Box → Checked Obeyed
leaving path m = m >>= λ b. passed (record { path = path; box = b })

abbrev pub obeys : Core → Deed → Text → List Text → Trouble → Checked Obeyed
obeys c d x path s = permitted d c >> leaving path (perform d x (box c s))

abbrev pub attempted : Core → Checked Read → Trouble → Checked Obeyed
attempted c m s = m >>= λ r. obeys c r.deed r.text r.path s

module _ (run : List Text → Box → Box) (go : List Text → Box → Watch) (ih : Rest run go) (c : Core) (t t' : Trouble) where
  query-agree : (path : List Text) (r : Checked Core)
      → Agree (watch_next go (leaving path (r >>= λ d. passed (box d t))))
      (next run (box c t) (leaving path (r >>= λ d. passed (box d t))))
      (next run (box c t') (leaving path (r >>= λ d. passed (box d t'))))
  unfolding ◌>>=◌
  query-agree path (refused n) = refuse-core n c t t'
  query-agree path (passed d) = ih path d t t'

  -- a change, or its refusal by the lock or check 8
  change-agree : (m : Checked (Unit {0})) (path : List Text) (d : Core)
      → Agree (watch_next go (m >> passed (record { path = path; box = box d t })))
      (next run (box c t) (m >> passed (record { path = path; box = box d t })))
      (next run (box c t') (m >> passed (record { path = path; box = box d t' })))
  unfolding ◌>>◌
  change-agree (passed u) path d = ih path d t t'
  change-agree (refused n) path d = refuse-core n c t t'

  -- *SAV or *RCL, or its refusal
  setup-agree : (m : Checked (Unit {0})) (path : List Text) (r : Checked Core)
      → Agree (watch_next go (m >> leaving path (r >>= λ d. passed (box d t))))
      (next run (box c t) (m >> leaving path (r >>= λ d. passed (box d t))))
      (next run (box c t') (m >> leaving path (r >>= λ d. passed (box d t'))))
  unfolding ◌>>◌
  setup-agree (passed u) path r = query-agree path r
  setup-agree (refused n) path r = refuse-core n c t t'

  deed-agree : (d : Deed) (x : Text) (path : List Text)
      → Agree (then_watch (watch_deed d) (watch_next go (obeys c d x path t)))
      (next run (box c t) (obeys c d x path t)) (next run (box c t') (obeys c d x path t'))
  unfolding permitted perform ◌>>=◌ ◌>>◌ check
  deed-agree (Change y) x path = change-agree (permitted (Change y) c) path _
  deed-agree Complete x path = ih path c _ _
  deed-agree Clear x path = refl
  deed-agree (Query q) x path = query-agree path (reply (reply_to q c) (after_query q c))
  deed-agree (Inquire q) x path = tt
  deed-agree (Saving y p) x path = setup-agree (permitted (Saving y p) c) path (set_up y p c)

  read-agree : (m : Checked Read)
      → Agree (then_watch (watch_read m) (watch_next go (attempted c m t)))
      (next run (box c t) (attempted c m t)) (next run (box c t') (attempted c m t'))
  unfolding ◌>>=◌
  read-agree (refused n) = refuse-core n c t t'
  read-agree (passed r) = deed-agree r.deed r.text r.path

units-agree : (us path : List Text) (c : Core) (t t' : Trouble)
    → Agree (watch_units us path (box c t)) (run_units us path (box c t)) (run_units us path (box c t'))
unfolding watch_units run_units attempt
units-agree [] path c t t' = refl
units-agree (u ∷ us) path c t t' =
    read-agree (λ p b. run_units us p b) (λ p b. watch_units us p b) (λ p d s s'. units-agree us p d s s') c t t'
    (read_unit c.settings path u)

-- ---- lines

pub finished-core : (c : Core) (t t' : Trouble) → SameCore (finished (box c t)) (finished (box c t'))
unfolding finished
finished-core c t t' = if₂ SameCore (empty c.answer) refl refl

finished-agree : (w : Watch) (a b : Box) → Agree w a b → Agree w (finished a) (finished b)
finished-agree neither a b e = over-cores (λ x y. SameCore (finished x) (finished y)) finished-core a b e
finished-agree asked a b e = tt
finished-agree cleared a b e = ap finished e

line-agree : (line : Text) (overlong : Bool) (c : Core) (t t' : Trouble)
    → Agree (watch_line line overlong (box c t)) (run_line line overlong (box c t)) (run_line line overlong (box c t'))
unfolding watch_line run_line if◌then◌otherwise◌
line-agree line true c t t' = refl
line-agree line false c t t' = finished-agree (watch_units (units_of line) [] (box c t)) _ _ (units-agree (units_of line) [] c t t')

-- a line run after the -410 of a waiting answer
interrupted-agree : (line : Text) (overlong : Bool) (c : Core) (t t' : Trouble)
    → Agree (watch_line line overlong (interrupted (box c t))) (run_line line overlong (interrupted (box c t))) (run_line line overlong (interrupted (box c t')))
unfolding interrupted
interrupted-agree line overlong c t t' =
    if₂ (λ (a b : Box). Agree (watch_line line overlong a) (run_line line overlong a) (run_line line overlong b)) (empty c.answer)
    (line-agree line overlong c t t') (line-agree line overlong (with_answer [] c) (raised 410 t) (raised 410 t'))

pub byte-agree : (x : ℕ) (c : Core) (t t' : Trouble) → Agree (watch_byte (box c t) x) (byte (box c t) x) (byte (box c t') x)
unfolding watch_byte byte end_line if◌then◌otherwise◌
byte-agree x c t t' = go (eqb x 10)
  where
    go : (e : Bool) → Agree (if e then watch_line c.line c.overlong (at_newline (box c t)) otherwise neither)
        (if e then end_line (box c t) otherwise box (held x c) t)
        (if e then end_line (box c t') otherwise box (held x c) t')
    go true = interrupted-agree c.line c.overlong (with_line [] false c) t t'
    go false = refl

-- ---- pieces and events

then-agree : (xs : Text) → ((c : Core) (t t' : Trouble) → Agree (watch_piece (box c t) xs) (piece (box c t) xs) (piece (box c t') xs))
    → (w : Watch) (a b : Box) → Agree w a b → Agree (then_watch w (watch_piece a xs)) (piece a xs) (piece b xs)
then-agree xs ih neither a b e = over-cores (λ x y. Agree (watch_piece x xs) (piece x xs) (piece y xs)) ih a b e
then-agree xs ih asked a b e = tt
then-agree xs ih cleared a b e = ap (λ (x : Box). piece x xs) e

piece-agree : (xs : Text) (c : Core) (t t' : Trouble) → Agree (watch_piece (box c t) xs) (piece (box c t) xs) (piece (box c t') xs)
unfolding watch_piece piece
piece-agree [] c t t' = refl
piece-agree (x ∷ xs) c t t' = then-agree xs (λ d s s'. piece-agree xs d s s') (watch_byte (box c t) x) _ _ (byte-agree x c t t')

-- cores and results agree
abbrev Alike : Happened → Happened → Type 0
Alike x y = SameCore x.box y.box × (x.result ≡ y.result)

taken-alike : (buffer : Text) (c : Core) (t t' : Trouble) → Alike (taken buffer (box c t)) (taken buffer (box c t'))
unfolding taken
taken-alike buffer c t t' =
    if₂ Alike (empty c.answer) (refl, refl) (if₂ Alike (leb (length c.answer) (length buffer)) (refl, refl) (refl, refl))

reported-core : (r : RegisterSet) (n : ℕ) (c : Core) (t t' : Trouble) → SameCore (reported r n (box c t)).box (reported r n (box c t')).box
unfolding reported
reported-core r n c t t' = if₂ (λ (x y : Happened). SameCore x.box y.box) (leb n widest_group) refl refl

pub event-agree : (e : Event) (c : Core) (t t' : Trouble) → Agree (watch_event (box c t) e) (happens (box c t) e).box (happens (box c t') e).box
unfolding watch_event happens
event-agree started c t t' = refl
event-agree (received xs) c t t' = piece-agree xs c t t'
event-agree (take buffer) c t t' = (taken-alike buffer c t t').0
event-agree (condition r n) c t t' = reported-core r n c t t'
event-agree look c t t' = refl
event-agree (altered i x) c t t' = refl
event-agree (mislent buffer) c t t' = refl

-- ---- histories

-- boxes and answers, together
abbrev pub AgreeBoth : Watch → List Event → Box → Box → Type 0
AgreeBoth w es a b = Agree w (after a es) (after b es) × AgreeAnswers w (answers a es) (answers b es)

same-both : (w : Watch) (es : List Event) (a : Box) → AgreeBoth w es a a
same-both neither es a = (refl, refl)
same-both asked es a = (tt, tt)
same-both cleared es a = (refl, refl)

then-both : (es : List Event) → ((c : Core) (t t' : Trouble) → AgreeBoth (watch (box c t) es) es (box c t) (box c t'))
    → (w : Watch) (a b : Box) → Agree w a b → AgreeBoth (then_watch w (watch a es)) es a b
then-both es ih neither a b e = over-cores (λ x y. AgreeBoth (watch x es) es x y) ih a b e
then-both es ih asked a b e = (tt, tt)
then-both es ih cleared a b e = subst (λ (x : Box). AgreeBoth cleared es a x) e (same-both cleared es a)

-- one answer more in front
one-more : (w : Watch) (r r' : Result) (x y : List Result) → r ≡ r' → AgreeAnswers w x y → AgreeAnswers w (r ∷ x) (r' ∷ y)
one-more neither r r' x y e f = ap₂ ◌∷◌ e f
one-more asked r r' x y e f = tt
one-more cleared r r' x y e f = ap₂ ◌∷◌ e f

answer-more : (e : Event) (w : Watch) (c : Core) (t t' : Trouble) (x y : List Result) → AgreeAnswers w x y
    → AgreeAnswers w (if is_take e then (happens (box c t) e).result ∷ x otherwise x) (if is_take e then (happens (box c t') e).result ∷ y otherwise y)
unfolding happens if◌then◌otherwise◌
answer-more started w c t t' x y f = f
answer-more (received xs) w c t t' x y f = f
answer-more (take buffer) w c t t' x y f = one-more w _ _ x y (taken-alike buffer c t t').1 f
answer-more (condition r n) w c t t' x y f = f
answer-more look w c t t' x y f = f
answer-more (altered i z) w c t t' x y f = f
answer-more (mislent buffer) w c t t' x y f = f

pub history-agree : (es : List Event) (c : Core) (t t' : Trouble) → AgreeBoth (watch (box c t) es) es (box c t) (box c t')
unfolding watch after results_of
history-agree [] c t t' = (refl, refl)
history-agree (e ∷ es) c t t' =
    let w = then_watch (watch_event (box c t) e) (watch (happens (box c t) e).box es) in
    let r = then-both es (λ d s s'. history-agree es d s s') (watch_event (box c t) e) _ _ (event-agree e c t t') in
    (r.0, answer-more e w c t t' _ _ r.1)
