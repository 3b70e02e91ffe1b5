-- How long lines are, and the rows' lines one after another.
use mathlib.Core.Path.{◌≡◌, refl, sym, ◌∙◌, ap}
use mathlib.Core.Bool.{Bool, true, false, not, ◌&&◌, ◌||◌}
use mathlib.Core.List.{[], ◌∷◌, ◌++◌, append_assoc, append-nil}
use Prim.Native.Nat.{ℕ, zero, suc, ◌+◌, ◌*◌, ◌≤◌, ◌<◌, zero-le}
use Prim.Native.Char.{code}
use native.Mathlib.Omega.{arith}
use lib.Dec.{leb, ltb, eqb}
use lib.Pointwise.{pointwise}
use lib.ListN.{length, take, drop, length-append, length-take}
use lib.IntN.{ℤ, pos, negsuc}
use lib.Signed.{le_z, lt_z, mag}
use mir.Syntax.{w32}
use mir.Val.{SFits, to_z, of_z}
use mir.Facts.{to_z-of_z}
use borrow.Author.Tests.{leb-true, ltb-false, lt-ltb, le-ltb, lt-leb, le-leb, not-true, not-false}
use Rattle.registers.specs.Text.{Text, if◌then◌otherwise◌, every, empty, same}
use Rattle.registers.specs.Label.{most_text, of_text, held_in, quoted_text}
use Rattle.registers.specs.Settings.{count, table_count, range, wide_range, kind_of, value_at, possible_settings, answer_of, displayed}
use Rattle.registers.specs.declared.settings.Settings.{Settings}
use Rattle.registers.proofs.Tests.{and_both}
use Rattle.registers.proofs.settings.Possible.{good-from}
use Rattle.interpreter.proofs.Choices.{if-elim}
use Rattle.interpreter.proofs.demands.trip.ReadBack.{plain_byte, plain_text, answer-plain}
use Rattle.interpreter.specs.Events.{result_of}
use Rattle.writer.specs.Lines.{copied, header_for, label_header, label_for, line_for, differs, slot_of, row_at, slot_at, line_at, lines_to, lines_for}
use Rattle.writer.specs.LinesParts.{Value, most_value, most_quoted, most_one_line}
use Rattle.writer.proofs.Headers.{header-short}
use Rattle.writer.proofs.Slots.{slot-at-below}

-- ---- how long

pub value-short : {i : ℕ} {v : ℤ} → Value i v → length (answer_of (kind_of i) v) ≤ most_value
unfolding plain_text
value-short {i} {v} h =
    let a = answer_of (kind_of i) v in
    let p = and_both (not (empty a)) _ (answer-plain h.settings i h.row v h.within) in
    leb-true (length a) 30 (and_both (every plain_byte a) (leb (length a) 30) p.1).1

pub line-short : {i : ℕ} {v : ℤ} → Value i v → length (line_for i v) ≤ most_one_line
unfolding line_for
line-short {i} {v} h =
    let a = value-short h in
    let b = header-short i h.row in
    simp length-append (omega arith)

pub wanted-value : (w : Settings) → possible_settings w ≡ true → (i : ℕ) → i < count → Value i (value_at w i)
wanted-value w p i h = record { row = h; settings = w; within = good-from w p i h }

pub row-short : (p w : Settings) → possible_settings w ≡ true → (i : ℕ) → i < count → length (line_at p w i) ≤ most_one_line
row-short p w g i h =
    if-elim (λ (t : Text). length t ≤ most_one_line) (differs p w i) (λ _. line-short (wanted-value w g i h)) (λ _. zero-le)

pub lines-short : (p w : Settings) (channel : ℕ) → possible_settings w ≡ true → (n : ℕ) → n ≤ table_count → length (lines_to p w channel n) ≤ most_one_line * n
unfolding lines_to
lines-short p w channel g zero h = zero-le
lines-short p w channel g (suc n) h =
    let a = lines-short p w channel g n (omega arith) in
    let b = row-short p w g (slot_at w channel n) (slot-at-below w channel n (omega arith)) in
    simp length-append (omega arith)

-- ---- the text's line

pub pointwise-same : (l m : Text) → pointwise eqb l m ≡ same l m
unfolding same
pointwise-same [] [] = refl
pointwise-same [] (y ∷ m) = refl
pointwise-same (x ∷ l) [] = refl
pointwise-same (x ∷ l) (y ∷ m) = ap (λ (t : Bool). eqb x y && t) (pointwise-same l m)

-- behind the rows' lines
module _ (p w : Settings) (channel : ℕ) {rows : Text} {differ : Bool} (is : rows ≡ lines_to p w channel table_count)
    (test : differ ≡ not (pointwise eqb p.text w.text)) where
  pub lines-alone : differ ≡ false → rows ≡ lines_for p w channel
  unfolding if◌then◌otherwise◌
  lines-alone e = is ∙ rw (not-false (same p.text w.text) (ap not (sym (pointwise-same p.text w.text)) ∙ sym test ∙ e)) (sym (append-nil (lines_to p w channel table_count)))

  pub lines-label : differ ≡ true → {all : Text} → all ≡ rows ++ label_for (displayed w) → all ≡ lines_for p w channel
  unfolding if◌then◌otherwise◌
  lines-label e f = f ∙ rw (not-true (same p.text w.text) (ap not (sym (pointwise-same p.text w.text)) ∙ sym test ∙ e), is) refl

held-short : (t : Text) → length (held_in t) ≤ length t
unfolding if◌then◌otherwise◌
held-short [] = zero-le
held-short (b ∷ t) = go (of_text b) (held-short t)
  where
    go : (z : Bool) → length (held_in t) ≤ length t → length (if z then b ∷ held_in t otherwise []) ≤ suc (length t)
    go true k = omega arith
    go false k = zero-le

pub quoted-short : (t : Text) → length t ≡ most_text → length (quoted_text (held_in t)) ≤ most_quoted
quoted-short t e = let k = length-append (held_in t) (34 ∷ []) in let h = held-short t in omega arith

-- the slot of the row at a place, as the code finds it
pub slot-found : (w : Settings) (channel place : ℕ) {wide : Bool} {row slot first : ℕ} {value : ℤ} → first ≡ slot_of channel range → value ≡ value_at w first
    → wide ≡ le_z (pos 1) value → row ≡ row_at wide place → slot ≡ slot_of channel row → slot ≡ slot_at w channel place
unfolding wide_range
slot-found w channel place {wide} f v e r s =
    s ∙ ap (slot_of channel) (r ∙ ap (λ (t : Bool). row_at t place) (e ∙ ap (le_z (pos 1)) (v ∙ ap (value_at w) f)))

-- ---- texts appended one after another

pub long-then : (s t u : Text) → s ≡ t ++ u → length s ≡ length t + length u
long-then s t u e = ap length e ∙ length-append t u

-- a header, a blank, a value and a newline are a line
pub line-whole : (i : ℕ) (v : ℤ) (s : Text) {s₁ s₂ s₃ s₄ : Text} → s₁ ≡ s ++ header_for i → s₂ ≡ s₁ ++ code " " ∷ [] → s₃ ≡ s₂ ++ answer_of (kind_of i) v → s₄ ≡ s₃ ++ 10 ∷ []
    → s₄ ≡ s ++ line_for i v
unfolding line_for
line-whole i v s a b c d = d ∙ rw (c, b, a) (simp append_assoc refl)

pub label-whole : (t s : Text) {s₁ s₂ s₃ : Text} → s₁ ≡ s ++ (label_header ++ code " " ∷ []) → s₂ ≡ s₁ ++ quoted_text t → s₃ ≡ s₂ ++ 10 ∷ [] → s₃ ≡ s ++ label_for t
unfolding label_for
label-whole t s a b c = c ∙ rw (b, a) (simp append_assoc refl)

-- ---- two values compared by their bits

ltb-apart : (a b : ℕ) → (a ≡ b → ⊥) → (ltb a b || ltb b a) ≡ true
ltb-apart a b h = go (ltb a b) refl
  where
    go : (t : Bool) → ltb a b ≡ t → (ltb a b || ltb b a) ≡ true
    go true e = rw e refl
    go false e = let k = ltb-false a b e in rw (e, lt-ltb b a (omega arith)) refl

apart : (x y : ℤ) → (x ≡ y → ⊥) → (lt_z x y || lt_z y x) ≡ true
apart (pos a) (pos b) h = ltb-apart a b (λ e. h (ap pos e))
apart (pos a) (negsuc b) h = refl
apart (negsuc a) (pos b) h = refl
apart (negsuc a) (negsuc b) h = ltb-apart b a (λ e. h (ap negsuc (sym e)))

alike : (x : ℤ) → (lt_z x x || lt_z x x) ≡ false
alike (pos a) = rw (le-ltb a a (omega arith)) refl
alike (negsuc a) = rw (le-ltb a a (omega arith)) refl

module _ {x y a b : ℤ} (p : x ≡ a) (q : y ≡ b) where
  pub bits-apart : (of_z w32 x ≡ of_z w32 y → ⊥) → (lt_z a b || lt_z b a) ≡ true
  bits-apart h = rw (← p, ← q) (apart x y (λ e. h (ap (of_z w32) e)))

  pub bits-alike : mag x < 2147483648 → mag y < 2147483648 → of_z w32 x ≡ of_z w32 y → (lt_z a b || lt_z b a) ≡ false
  bits-alike h k e =
      let f : SFits w32 x = record { sfits = h } in
      let g : SFits w32 y = record { sfits = k } in
      let is : x ≡ y = sym (to_z-of_z {w = w32} f) ∙ ap (to_z w32) e ∙ to_z-of_z {w = w32} g in
      rw (← p, ← q, is) (alike y)

-- ---- the lines in a buffer

module _ (bytes t buffer : Text) (n : ℕ) (view : take n bytes ≡ t) (within : n ≤ length bytes) where
  view-long : length t ≡ n
  view-long = let k : length (take n bytes) ≡ n = simp length-take (omega arith) in rw view at k

  pub copied-short : length buffer < n → result_of 7 n buffer ≡ copied t buffer
  unfolding if◌then◌otherwise◌
  copied-short h = let l = view-long in rw (lt-leb (length t) (length buffer) (omega arith), l) refl

  pub copied-whole : n ≤ length buffer → {front : Text} → front ≡ take n bytes → result_of 0 n (front ++ drop n buffer) ≡ copied t buffer
  unfolding if◌then◌otherwise◌
  copied-whole h e = let l = view-long in rw (le-leb (length t) (length buffer) (omega arith), l, e, view) refl
