-- Demand 3, while the line comes in: cutting its bytes to the first k cuts the waiting line to its first k bytes, and nothing else. The
-- invariant over bytes and events (`Kept`, `DuringKept`): the box with its line cut, and how many of the k bytes are still to come.
use mathlib.Core.Path.{◌≡◌, refl, sym, ◌∙◌, ap, ap₂}
use mathlib.Core.Bool.{Bool, true, false, false≢true}
use mathlib.Core.List.{List, [], ◌∷◌, ◌++◌}
use Prim.Native.Nat.{ℕ, suc, ◌-◌, ◌≤◌, ◌<◌}
use native.Mathlib.Omega.{arith}
use native.Mathlib.Numerals.{add-one}
use lib.Dec.{leb, ltb}
use lib.ListN as L
use lib.ListN.{length, length-append}
use lib.Seq.{take-nil, take_all, take-append-le}
use borrow.Author.Tests.{lt-ltb, le-ltb, ltb-true, ltb-false}
use Rattle.registers.specs.Text.{Text, if◌then◌otherwise◌, every, empty}
use Rattle.registers.specs.Group.{widest_group}
use Rattle.registers.specs.Status.{Trouble}
use Rattle.registers.proofs.Tests.{and_both}
use Rattle.registers.specs.declared.status.RegisterSet.{RegisterSet}
use Rattle.interpreter.specs.Box.{Core, Box, box, with_line, most_line}
use Rattle.interpreter.specs.Line.{held, byte, piece}
use Rattle.interpreter.specs.Events.{Event, started, received, take, condition, look, altered, mislent, Happened, Result, taken, reported, happens, after}
use Rattle.interpreter.specs.Histories.{results_of}
use Rattle.interpreter.specs.Demand3.{in_line, keep}
use Rattle.interpreter.proofs.Choices.{if₂}
use Rattle.interpreter.proofs.line.Pieces.{plain, byte-plain}

-- the same box, its waiting line cut to the first k bytes
unfoldable pub cut_to : ℕ → Box → Box
cut_to k b = box (with_line (L.take k b.core.line) false b.core) b.trouble

-- ---- one byte

held-room : (x : ℕ) (c : Core) → length c.line < most_line → held x c ≡ with_line (c.line ++ x ∷ []) c.overlong c
unfolding held if◌then◌otherwise◌
held-room x c h = rw (lt-ltb (length c.line) most_line h)

held-full : (x : ℕ) (c : Core) → most_line ≤ length c.line → held x c ≡ with_line c.line true c
unfolding held if◌then◌otherwise◌
held-full x c h = rw (le-ltb (length c.line) most_line h)

module _ (k : ℕ) (most : k ≤ most_line) where
  -- room: the byte is among the first k
  room-line : (b : Box) (x : ℕ) → plain x ≡ true → length b.core.line < k → (byte b x).core.line ≡ b.core.line ++ x ∷ []
  room-line b x t h =
      ap (λ (y : Box). y.core.line) (byte-plain b x t) ∙ ap (λ (c : Core). c.line) (held-room x b.core (omega arith))

  room-byte : (b : Box) (x : ℕ) → plain x ≡ true → length b.core.line < k → byte (cut_to k b) x ≡ cut_to k (byte b x)
  unfolding cut_to
  room-byte b x t h =
      let l = b.core.line in
      let e : L.take k l ≡ l = take_all k l (omega arith) in
      let f : L.take k (l ++ x ∷ []) ≡ l ++ x ∷ [] = take_all k (l ++ x ∷ []) (simp length-append (omega arith)) in
      let n : length (L.take k l) < most_line = rw e (omega arith) in
      byte-plain (cut_to k b) x t
      ∙ ap (λ (c : Core). box c b.trouble) (held-room x (with_line (L.take k l) false b.core) n)
      ∙ ap (λ (y : Text). box (with_line y false b.core) b.trouble) (ap (λ (y : Text). y ++ x ∷ []) e ∙ sym f)
      ∙ sym (ap (cut_to k) (byte-plain b x t ∙ ap (λ (c : Core). box c b.trouble) (held-room x b.core (omega arith))))

  -- no room: the byte comes after the first k
  full-held : (x : ℕ) (c : Core) (t : Trouble) → k ≤ length c.line → (e : Bool) → ltb (length c.line) most_line ≡ e
      → (k ≤ length (held x c).line) × (cut_to k (box (held x c) t) ≡ cut_to k (box c t))
  unfolding cut_to
  full-held x c t h true q =
      let r = held-room x c (ltb-true (length c.line) most_line q) in
      let a = take-append-le k c.line (x ∷ []) h in
      (rw r (simp length-append (omega arith)), rw r (ap (λ (y : Text). box (with_line y false c) t) a))
  full-held x c t h false q = let r = held-full x c (ltb-false (length c.line) most_line q) in (rw r h, rw r refl)

  -- ---- a piece of the line: the box, and how many bytes are still kept

  abbrev Kept : Box → Text → Type 0
  Kept b xs =
      (piece (cut_to k b) (L.take (k - length b.core.line) xs) ≡ cut_to k (piece b xs))
      × (k - length (piece b xs).core.line ≡ k - length b.core.line - length xs)

  kept_byte : (b : Box) (x : ℕ) (xs : Text) → plain x ≡ true → Kept (byte b x) xs
      → (e : Bool) → ltb (length b.core.line) k ≡ e → Kept b (x ∷ xs)
  unfolding piece
  kept_byte b x xs t ih true q =
      let h = ltb-true (length b.core.line) k q in
      let l : length (byte b x).core.line ≡ suc (length b.core.line) = ap length (room-line b x t h) ∙ simp (length-append, add-one) in
      let n : k - length b.core.line ≡ suc (k - length (byte b x).core.line) = omega arith in
      (rw n (ap (λ (y : Box). piece y (L.take (k - length (byte b x).core.line) xs)) (room-byte b x t h) ∙ ih.0), omega (arith, ih.1))
  kept_byte b x xs t ih false q =
      let h = ltb-false (length b.core.line) k q in
      let f = full-held x b.core b.trouble h (ltb (length b.core.line) most_line) refl in
      let p = byte-plain b x t in
      let g : k ≤ length (byte b x).core.line = rw p f.0 in
      let n : k - length b.core.line ≡ 0 = omega arith in
      let n' : k - length (byte b x).core.line ≡ 0 = omega arith in
      (rw n (sym f.1 ∙ ap (cut_to k) (sym p) ∙ (rw n' at ih.0)), omega (arith, ih.1))

  kept : (b : Box) (xs : Text) → every plain xs ≡ true → Kept b xs
  unfolding piece
  kept b [] t = (rw (take-nil (k - length b.core.line)) refl, omega arith)
  kept b (x ∷ xs) t =
      let p = and_both (plain x) (every plain xs) t in
      kept_byte b x xs p.0 (kept (byte b x) xs p.1) (ltb (length b.core.line) k) refl

  -- ---- the other events see nothing of the line

  -- both leave the same, the waiting line cut or not, and the same line as before
  abbrev Blind : Box → Happened → Happened → Type 0
  Blind b x y = (x.box ≡ cut_to k y.box) × (x.result ≡ y.result) × (y.box.core.line ≡ b.core.line)

  taken-blind : (buffer : Text) (b : Box) → Blind b (taken buffer (cut_to k b)) (taken buffer b)
  unfolding taken cut_to
  taken-blind buffer b =
      if₂ (Blind b) (empty b.core.answer) (refl, refl, refl)
      (if₂ (Blind b) (leb (length b.core.answer) (length buffer)) (refl, refl, refl) (refl, refl, refl))

  reported-blind : (x : RegisterSet) (n : ℕ) (b : Box) → Blind b (reported x n (cut_to k b)) (reported x n b)
  unfolding reported cut_to
  reported-blind x n b = if₂ (Blind b) (leb n widest_group) (refl, refl, refl) (refl, refl, refl)

  look-blind : (b : Box) → Blind b (happens (cut_to k b) look) (happens b look)
  unfolding happens cut_to
  look-blind b = (refl, refl, refl)

  altered-blind : (i x : ℕ) (b : Box) → Blind b (happens (cut_to k b) (altered i x)) (happens b (altered i x))
  unfolding happens cut_to
  altered-blind i x b = (refl, refl, refl)

  mislent-blind : (buffer : Text) (b : Box) → Blind b (happens (cut_to k b) (mislent buffer)) (happens b (mislent buffer))
  unfolding happens cut_to
  mislent-blind buffer b = (refl, refl, refl)

  -- ---- the events of a line, with its bytes cut to the first k

  abbrev left : Box → ℕ
  left b = k - length b.core.line

  -- the box and all results but the pieces' counts
  pub record DuringKept (b : Box) (es : List Event) : Type 0 where
    pub state : after (cut_to k b) (keep (left b) es) ≡ cut_to k (after b es)
    pub results : (p : Event → Bool) → ((xs : Text) → p (received xs) ≡ false)
        → results_of p (cut_to k b) (keep (left b) es) ≡ results_of p b es

  -- one event more in front that is no piece
  blind-first : (b : Box) (e : Event) (es : List Event) → ((j : ℕ) → keep j (e ∷ es) ≡ e ∷ keep j es)
      → Blind b (happens (cut_to k b) e) (happens b e) → DuringKept (happens b e).box es → DuringKept b (e ∷ es)
  unfolding after results_of if◌then◌otherwise◌
  blind-first b e es first s ih =
      let n : left b ≡ left (happens b e).box = sym (ap (λ (l : Text). k - length l) s.2) in
      record {
        state = ap (after (cut_to k b)) (first (left b)) ∙ ap₂ (λ (y : Box) (j : ℕ). after y (keep j es)) s.0 n ∙ ih.state;
        results = λ p silent.
            ap (results_of p (cut_to k b)) (first (left b))
            ∙ ap₂ (λ (r : Result) (rs : List Result). if p e then r ∷ rs otherwise rs) s.1
            (ap₂ (λ (y : Box) (j : ℕ). results_of p y (keep j es)) s.0 n ∙ ih.results p silent);
      }

  piece-first : (b : Box) (xs : Text) (es : List Event) → Kept b xs → DuringKept (piece b xs) es → DuringKept b (received xs ∷ es)
  unfolding after happens keep results_of if◌then◌otherwise◌
  piece-first b xs es s ih =
      let n : left b - length xs ≡ left (piece b xs) = sym s.1 in
      record {
        state = ap₂ (λ (y : Box) (j : ℕ). after y (keep j es)) s.0 n ∙ ih.state;
        results = λ p silent.
            rw (silent (L.take (left b) xs), silent xs)
            (ap₂ (λ (y : Box) (j : ℕ). results_of p y (keep j es)) s.0 n ∙ ih.results p silent);
      }

  pub during-kept : (b : Box) (es : List Event) → every in_line es ≡ true → DuringKept b es
  unfolding after keep in_line happens results_of if◌then◌otherwise◌
  during-kept b [] t = record { state = refl; results = λ p silent. refl }
  during-kept b (started ∷ es) t = absurd (false≢true t)
  during-kept b (received xs ∷ es) t =
      let p = and_both (every plain xs) _ t in piece-first b xs es (kept b xs p.0) (during-kept (piece b xs) es p.1)
  during-kept b (take buffer ∷ es) t = blind-first b (take buffer) es (λ j. refl) (taken-blind buffer b) (during-kept _ es t)
  during-kept b (condition x n ∷ es) t = blind-first b (condition x n) es (λ j. refl) (reported-blind x n b) (during-kept _ es t)
  during-kept b (look ∷ es) t = blind-first b look es (λ j. refl) (look-blind b) (during-kept _ es t)
  during-kept b (altered i x ∷ es) t = blind-first b (altered i x) es (λ j. refl) (altered-blind i x b) (during-kept _ es t)
  during-kept b (mislent buffer ∷ es) t = blind-first b (mislent buffer) es (λ j. refl) (mislent-blind buffer b) (during-kept _ es t)
