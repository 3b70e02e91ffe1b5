-- While a line comes in, settings stay as they are, and a waiting answer stays until it is taken. Every event but a power-up and a newline
-- leaves them so (`Quiet`), and so do any number of them, by induction.
use mathlib.Core.Path.{◌≡◌, refl, ◌∙◌}
use mathlib.Core.Bool.{true, false, false≢true}
use mathlib.Core.List.{List, [], ◌∷◌}
use Prim.Native.Nat.{ℕ}
use native.Mathlib.Omega.{arith}
use lib.Dec.{leb, ltb}
use lib.ListN as L
use lib.ListN.{length, drop}
use lib.Seq.{take_at}
use Rattle.registers.specs.Text.{Text, every, empty}
use Rattle.registers.specs.Group.{widest_group}
use Rattle.registers.proofs.Tests.{and_both}
use Rattle.registers.specs.declared.status.RegisterSet.{RegisterSet}
use Rattle.interpreter.specs.Box.{Core, Box, box, most_line}
use Rattle.interpreter.specs.Line.{held, byte, piece}
use Rattle.interpreter.specs.Events.{Event, started, received, take, condition, look, altered, mislent, Happened, taken, reported, happens, after}
use Rattle.interpreter.specs.Demand3.{in_line}
use Rattle.interpreter.proofs.Choices.{if-elim}
use Rattle.interpreter.proofs.line.Pieces.{plain, byte-plain}

-- an answer that is as it was, or gone
pub data Left (a x : Text) : Type 0 where
  waits : x ≡ a → Left a x
  gone : x ≡ [] → Left a x

left-then : {a x y : Text} → Left a x → Left x y → Left a y
left-then (waits e) (waits f) = waits (f ∙ e)
left-then (waits e) (gone f) = gone f
left-then (gone e) (waits f) = gone (f ∙ e)
left-then (gone e) (gone f) = gone f

pub left-none : {x : Text} → Left [] x → x ≡ []
left-none (waits e) = e
left-none (gone e) = e

pub record Quiet (b c : Box) : Type 0 where
  pub settings : c.core.settings ≡ b.core.settings
  pub answer : Left b.core.answer c.core.answer

same : (b : Box) → Quiet b b
same b = record { settings = refl; answer = waits refl }

quiet_then : {a b c : Box} → Quiet a b → Quiet b c → Quiet a c
quiet_then p q = record { settings = q.settings ∙ p.settings; answer = left-then p.answer q.answer }

held-quiet : (x : ℕ) (b : Box) → Quiet b (box (held x b.core) b.trouble)
unfolding held
held-quiet x b =
    if-elim (λ (c : Core). Quiet b (box c b.trouble)) (ltb (length b.core.line) most_line)
    (λ _. record { settings = refl; answer = waits refl }) (λ _. record { settings = refl; answer = waits refl })

piece-quiet : (b : Box) (xs : Text) → every plain xs ≡ true → Quiet b (piece b xs)
unfolding piece
piece-quiet b [] t = same b
piece-quiet b (x ∷ xs) t =
    let p = and_both (plain x) (every plain xs) t in
    quiet_then (rw (byte-plain b x p.0) (held-quiet x b)) (piece-quiet (byte b x) xs p.1)

taken-quiet : (buffer : Text) (b : Box) → Quiet b (taken buffer b).box
unfolding taken
taken-quiet buffer b =
    if-elim (λ (h : Happened). Quiet b h.box) (empty b.core.answer) (λ _. record { settings = refl; answer = waits refl })
    (λ _. if-elim (λ (h : Happened). Quiet b h.box) (leb (length b.core.answer) (length buffer))
    (λ _. record { settings = refl; answer = gone refl }) (λ _. same b))

reported-quiet : (x : RegisterSet) (n : ℕ) (b : Box) → Quiet b (reported x n b).box
unfolding reported
reported-quiet x n b =
    if-elim (λ (h : Happened). Quiet b h.box) (leb n widest_group) (λ _. record { settings = refl; answer = waits refl }) (λ _. same b)

pub quiet : (b : Box) (es : List Event) → every in_line es ≡ true → Quiet b (after b es)
unfolding after happens in_line
quiet b [] t = same b
quiet b (started ∷ es) t = absurd (false≢true t)
quiet b (received xs ∷ es) t =
    let p = and_both (every plain xs) (every in_line es) t in quiet_then (piece-quiet b xs p.0) (quiet (piece b xs) es p.1)
quiet b (take buffer ∷ es) t = quiet_then (taken-quiet buffer b) (quiet _ es t)
quiet b (condition x n ∷ es) t = quiet_then (reported-quiet x n b) (quiet _ es t)
quiet b (look ∷ es) t = quiet b es t
quiet b (altered i x ∷ es) t = quiet_then (record { settings = refl; answer = waits refl }) (quiet _ es t)
quiet b (mislent buffer ∷ es) t = quiet b es t

-- ---- a take that succeeds

pub record Emptied (b : Box) (h : Happened) : Type 0 where
  pub bytes : L.take h.result.value h.result.buffer ≡ b.core.answer
  pub some : empty b.core.answer ≡ false
  pub none : h.box.core.answer ≡ []
  pub settings : h.box.core.settings ≡ b.core.settings

pub emptied : (buffer : Text) (b : Box) → (taken buffer b).result.number ≡ 0 → Emptied b (taken buffer b)
unfolding taken
emptied buffer b =
    let a = b.core.answer in
    if-elim (λ (h : Happened). h.result.number ≡ 0 → Emptied b h) (empty a) (λ _ e. absurd (omega (arith, e)))
    (λ s. if-elim (λ (h : Happened). h.result.number ≡ 0 → Emptied b h) (leb (length a) (length buffer))
    (λ _ _. record { bytes = take_at a (drop (length a) buffer) (length a) refl; some = s; none = refl; settings = refl })
    (λ _ e. absurd (omega (arith, e))))
