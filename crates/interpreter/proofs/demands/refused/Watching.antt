-- Demand 3: whether a unit asks, or a *CLS is obeyed first, is the same in both histories. It goes by the core alone until then, so the
-- induction is that of refused/Agreement, which says that the cores agree.
use mathlib.Core.Path.{◌≡◌, refl, sym}
use mathlib.Core.Bool.{Bool, false}
use mathlib.Core.List.{List, [], ◌∷◌}
use Prim.Native.Nat.{ℕ}
use lib.Dec.{eqb}
use Rattle.registers.specs.Text.{Text, empty}
use Rattle.registers.specs.Check.{Checked, refused, passed, ◌>>=◌, ◌>>◌, check}
use Rattle.registers.specs.Status.{Trouble, raised}
use Rattle.interpreter.specs.Box.{Core, Box, box, with_line, with_answer}
use Rattle.interpreter.specs.Unit.{Read, read_unit}
use Rattle.interpreter.specs.Perform.{permitted, after_query, set_up, perform}
use Rattle.interpreter.specs.Reply.{reply_to, reply}
use Rattle.interpreter.specs.Line.{attempt, units_of, interrupted}
use Rattle.interpreter.specs.Events.{Event, started, received, take, condition, look, altered, mislent}
use Rattle.interpreter.specs.Demand3.{Watch, neither, asked, cleared, then_watch, watch_deed, watch_read, watch_next, watch_units, watch_line, watch_byte, watch_piece, watch_event, watch, Agree}
use Rattle.interpreter.specs.declared.deed.Deed.{Deed}
use Rattle.interpreter.specs.declared.deed.Deed.TheVariants.{Change, Complete, Clear, Query, Inquire, Saving}
use Rattle.interpreter.proofs.Choices.{if₂}
use Rattle.interpreter.proofs.demands.refused.Agreement.{over-cores, leaving, obeys, attempted, byte-agree, event-agree}

-- ---- units

module _ (go : List Text → Box → Watch) (ih : (path : List Text) (c : Core) (t t' : Trouble) → go path (box c t) ≡ go path (box c t'))
    (c : Core) (t t' : Trouble) where
  query-watch : (path : List Text) (r : Checked Core)
      → watch_next go (leaving path (r >>= λ d. passed (box d t))) ≡ watch_next go (leaving path (r >>= λ d. passed (box d t')))
  unfolding ◌>>=◌
  query-watch path (refused n) = refl
  query-watch path (passed d) = ih path d t t'

  change-watch : (m : Checked (Unit {0})) (path : List Text) (d : Core)
      → watch_next go (m >> passed (record { path = path; box = box d t })) ≡ watch_next go (m >> passed (record { path = path; box = box d t' }))
  unfolding ◌>>◌
  change-watch (passed u) path d = ih path d t t'
  change-watch (refused n) path d = refl

  setup-watch : (m : Checked (Unit {0})) (path : List Text) (r : Checked Core)
      → watch_next go (m >> leaving path (r >>= λ d. passed (box d t))) ≡ watch_next go (m >> leaving path (r >>= λ d. passed (box d t')))
  unfolding ◌>>◌
  setup-watch (passed u) path r = query-watch path r
  setup-watch (refused n) path r = refl

  deed-watch : (d : Deed) (x : Text) (path : List Text)
      → then_watch (watch_deed d) (watch_next go (obeys c d x path t)) ≡ then_watch (watch_deed d) (watch_next go (obeys c d x path t'))
  unfolding permitted perform ◌>>=◌ ◌>>◌ check
  deed-watch (Change y) x path = change-watch (permitted (Change y) c) path _
  deed-watch Complete x path = ih path c _ _
  deed-watch Clear x path = refl
  deed-watch (Query q) x path = query-watch path (reply (reply_to q c) (after_query q c))
  deed-watch (Inquire q) x path = refl
  deed-watch (Saving y p) x path = setup-watch (permitted (Saving y p) c) path (set_up y p c)

  read-watch : (m : Checked Read)
      → then_watch (watch_read m) (watch_next go (attempted c m t)) ≡ then_watch (watch_read m) (watch_next go (attempted c m t'))
  unfolding ◌>>=◌
  read-watch (refused n) = refl
  read-watch (passed r) = deed-watch r.deed r.text r.path

units-watch : (us path : List Text) (c : Core) (t t' : Trouble) → watch_units us path (box c t) ≡ watch_units us path (box c t')
unfolding watch_units attempt
units-watch [] path c t t' = refl
units-watch (u ∷ us) path c t t' =
    read-watch (λ p b. watch_units us p b) (λ p d s s'. units-watch us p d s s') c t t' (read_unit c.settings path u)

-- ---- lines, pieces and events

line-watch : (line : Text) (overlong : Bool) (c : Core) (t t' : Trouble) → watch_line line overlong (box c t) ≡ watch_line line overlong (box c t')
unfolding watch_line
line-watch line overlong c t t' = if₂ (λ (v w : Watch). v ≡ w) overlong refl (units-watch (units_of line) [] c t t')

byte-watch : (x : ℕ) (c : Core) (t t' : Trouble) → watch_byte (box c t) x ≡ watch_byte (box c t') x
unfolding watch_byte interrupted
byte-watch x c t t' =
    let l = c.line in
    let o = c.overlong in
    let d = with_line [] false c in
    if₂ (λ (v w : Watch). v ≡ w) (eqb x 10)
    (if₂ (λ (a b : Box). watch_line l o a ≡ watch_line l o b) (empty c.answer)
    (line-watch l o d t t') (line-watch l o (with_answer [] d) (raised 410 t) (raised 410 t')))
    refl

-- the first that is not neither, where the boxes that are left agree
pub then-watch : (w w' : Watch) → w ≡ w' → (a b : Box) → Agree w a b → (f : Box → Watch) → ((c : Core) (t t' : Trouble) → f (box c t) ≡ f (box c t'))
    → then_watch w (f a) ≡ then_watch w' (f b)
then-watch w w' e a b g f h = rw (sym e) (go w g)
  where
    go : (v : Watch) → Agree v a b → then_watch v (f a) ≡ then_watch v (f b)
    go neither k = over-cores (λ x y. f x ≡ f y) h a b k
    go asked k = refl
    go cleared k = refl

piece-watch : (xs : Text) (c : Core) (t t' : Trouble) → watch_piece (box c t) xs ≡ watch_piece (box c t') xs
unfolding watch_piece
piece-watch [] c t t' = refl
piece-watch (x ∷ xs) c t t' =
    then-watch (watch_byte (box c t) x) (watch_byte (box c t') x) (byte-watch x c t t') _ _ (byte-agree x c t t')
    (λ b. watch_piece b xs) (λ d s s'. piece-watch xs d s s')

pub event-watch : (e : Event) (c : Core) (t t' : Trouble) → watch_event (box c t) e ≡ watch_event (box c t') e
unfolding watch_event
event-watch started c t t' = refl
event-watch (received xs) c t t' = piece-watch xs c t t'
event-watch (take buffer) c t t' = refl
event-watch (condition x n) c t t' = refl
event-watch look c t t' = refl
event-watch (altered i x) c t t' = refl
event-watch (mislent buffer) c t t' = refl

pub history-watch : (es : List Event) (c : Core) (t t' : Trouble) → watch (box c t) es ≡ watch (box c t') es
unfolding watch
history-watch [] c t t' = refl
history-watch (e ∷ es) c t t' =
    then-watch (watch_event (box c t) e) (watch_event (box c t') e) (event-watch e c t t') _ _ (event-agree e c t t')
    (λ b. watch b es) (λ d s s'. history-watch es d s s')
