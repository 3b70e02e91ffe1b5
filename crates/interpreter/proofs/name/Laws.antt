-- Reading a name. The loop's invariant, `Spelled`: the number of the bytes before i, continued over the rest of the name's stem, is the
-- stem's; a code of 0 ends it. The name's first byte, a letter, is added last, as the lowest place. A name is its stem and, from the first
-- digit on, its suffix.
use mathlib.Core.Path.{◌≡◌, refl, sym, ◌∙◌, ap}
use mathlib.Core.Bool.{Bool, true, false, not, ◌&&◌, false≢true}
use mathlib.Core.List.{[], ◌∷◌}
use Prim.Native.Nat.{ℕ, suc, ◌+◌, ◌*◌, ◌≤◌, ◌<◌}
use native.Mathlib.Omega.{arith}
use native.Mathlib.Nat.{zero-add}
use lib.Dec.{eqb}
use borrow.Author.Tests.{ne_eqb}
use lib.ListN.{length, get_or, drop, length-drop}
use lib.Seq.{drop-cons, drop-drop}
use native.Mathlib.Numerals.{add-one}
use Rattle.std.specs.List.{list_all}
use Rattle.registers.specs.Text.{Text, if◌then◌otherwise◌, bytes, same, letter, small, digit, word_byte, every, first, start, after}
use Rattle.registers.proofs.text.Laws.{first-at, first-within, start-more, start-stop, start-end, start-short, end-drop, OnWay, way_on, way-stop, way_end}
use Rattle.interpreter.specs.Header.{stem, suffix}
use Rattle.interpreter.specs.NameParts.{code_of, with_code, key_from, word_key, class_of, key_of, suffix_place, stem_byte, name_in, StemRead, NameHere}
use Rattle.interpreter.specs.declared.name.Name.{Name}
use Rattle.interpreter.proofs.table.Codes.{letter-stem, code-small, code-some, code-none, stem-is}

-- ---- a byte by its code

coded : (b : ℕ) → (code_of b ≡ 0 → ⊥) → stem_byte b ≡ true
coded b ne = go (stem_byte b) refl
  where
    go : (w : Bool) → stem_byte b ≡ w → stem_byte b ≡ true
    go true q = q
    go false q = absurd (ne (code-none b q))

uncoded : (b : ℕ) → code_of b ≡ 0 → stem_byte b ≡ false
uncoded b e = go (stem_byte b) refl
  where
    go : (w : Bool) → stem_byte b ≡ w → stem_byte b ≡ false
    go true q = absurd (let s = code-some b q in omega arith)
    go false q = q

-- ---- the loop over a name's bytes

-- i is on the way through the stem that starts a text, and key is the number of the bytes before i
pub record Spelled (t : Text) (key i : ℕ) : Type 0 where
  pub on : key_from key (start stem_byte (drop i t)) ≡ key_from 0 (start stem_byte t)
  pub way : OnWay stem_byte t 0 i

pub spelled_none : (t : Text) → Spelled t 0 0
spelled_none t = record { on = refl; way = refl }

module _ {t : Text} {key i : ℕ} (s : Spelled t key i) where
  module _ (h : i < length t) (c : ℕ) (is : c ≡ code_of (get_or t i 0)) where
    pub spelled-on : (c ≡ 0 → ⊥) → Spelled t (with_code key c) (i + 1)
    unfolding key_from
    spelled-on ne =
        let w = coded (get_or t i 0) (λ e. ne (is ∙ e)) in
        record { on = rw is (rw (start-more stem_byte t i h w) at s.on); way = way_on stem_byte t 0 i s.way h w }

    pub spelled-stop : c ≡ 0 → StemRead t (record { key = key; end = i })
    unfolding key_from
    spelled-stop e =
        let w = uncoded (get_or t i 0) (sym is ∙ e) in
        record { key = rw (start-stop stem_byte t i h w) at s.on; end = way-stop stem_byte t 0 i s.way h w ∙ zero-add _ }

  pub spelled-end : length t ≤ i → StemRead t (record { key = key; end = length t })
  unfolding key_from
  spelled-end h =
      let short = start-short stem_byte t in
      let e = way_end stem_byte t 0 i s.way h in
      record { key = rw (start-end stem_byte t i h) at s.on; end = omega arith }

-- ---- a suffix, by its bytes

pub no_suffix : (t : Text) → length t < 1 → 0 ≡ class_of t
unfolding class_of if◌then◌otherwise◌
no_suffix [] h = refl
no_suffix (b ∷ t) h = absurd (omega arith)

pub first-channel : (t : Text) → 1 ≤ length t → length t < 2 → get_or t 0 0 ≡ 49 → 1 ≡ class_of t
unfolding class_of same bytes if◌then◌otherwise◌
first-channel [] k h e = absurd (omega arith)
first-channel (b ∷ []) k h e = rw e
first-channel (b ∷ c ∷ t) k h e = absurd (omega arith)

pub second-channel : (t : Text) → 1 ≤ length t → length t < 2 → get_or t 0 0 ≡ 50 → 2 ≡ class_of t
unfolding class_of same bytes if◌then◌otherwise◌
second-channel [] k h e = absurd (omega arith)
second-channel (b ∷ []) k h e = rw e
second-channel (b ∷ c ∷ t) k h e = absurd (omega arith)

pub no-channel : (t : Text) → 1 ≤ length t → (length t < 2 → get_or t 0 0 ≡ 49 → ⊥) → (length t < 2 → get_or t 0 0 ≡ 50 → ⊥) → class_of t ≡ (if every digit t then 3 otherwise 4)
unfolding class_of same bytes if◌then◌otherwise◌
no-channel [] k one two = absurd (omega arith)
no-channel (b ∷ []) k one two = rw (ne_eqb b 49 (one (omega arith)), ne_eqb b 50 (two (omega arith)))
no-channel (b ∷ c ∷ t) k one two = go (eqb b 49) (eqb b 50)
  where
    go : (x y : Bool) → ◌≡◌ {A = ℕ} (if x && false then 1 otherwise (if y && false then 2 otherwise (if every digit (b ∷ c ∷ t) then 3 otherwise 4))) (if every digit (b ∷ c ∷ t) then 3 otherwise 4)
    go true true = refl
    go true false = refl
    go false true = refl
    go false false = refl

pub all-digits : (t : Text) → list_all digit t ≡ every digit t
all-digits [] = refl
all-digits (b ∷ t) = rw (all-digits t)

-- ---- a name is its stem and its suffix

stem-start : (u : Text) → stem (start word_byte u) ≡ start stem_byte u
unfolding if◌then◌otherwise◌
stem-start [] = refl
stem-start (b ∷ u) = rw (stem-is b) (go (word_byte b) (digit b) refl (stem-start u))
  where
    go : (w d : Bool) → digit b ≡ d → stem (start word_byte u) ≡ start stem_byte u
        → stem (if w then b ∷ start word_byte u otherwise []) ≡ (if w && not d then b ∷ start stem_byte u otherwise [])
    go false d q ih = refl
    go true true q ih = rw q
    go true false q ih = rw (q, ih)

suffix-start : (u : Text) → suffix (start word_byte u) ≡ start word_byte (after stem_byte u)
unfolding if◌then◌otherwise◌
suffix-start [] = refl
suffix-start (b ∷ u) = rw (stem-is b) (go (word_byte b) refl (digit b) refl (suffix-start u))
  where
    go : (w : Bool) → word_byte b ≡ w → (d : Bool) → digit b ≡ d → suffix (start word_byte u) ≡ start word_byte (after stem_byte u)
        → suffix (if w then b ∷ start word_byte u otherwise []) ≡ start word_byte (if w && not d then after stem_byte u otherwise b ∷ u)
    go false p d q ih = rw p
    go true p true q ih = rw (p, q)
    go true p false q ih = rw (q, ih)

parts-length : (u : Text) → length (start word_byte u) ≡ length (start stem_byte u) + length (start word_byte (after stem_byte u))
unfolding if◌then◌otherwise◌
parts-length [] = refl
parts-length (b ∷ u) = rw (stem-is b) (go (word_byte b) refl (digit b) (parts-length u))
  where
    go : (w : Bool) → word_byte b ≡ w → (d : Bool) → length (start word_byte u) ≡ length (start stem_byte u) + length (start word_byte (after stem_byte u))
        → length (if w then b ∷ start word_byte u otherwise [])
        ≡ length (if w && not d then b ∷ start stem_byte u otherwise []) + length (start word_byte (if w && not d then after stem_byte u otherwise b ∷ u))
    go false p d ih = rw p
    go true p true ih = rw p (omega arith)
    go true p false ih = omega arith

-- what follows a stem is no byte of one
after-stem : (u : Text) → stem_byte (first (after stem_byte u)) ≡ false
unfolding letter small if◌then◌otherwise◌
after-stem [] = refl
after-stem (b ∷ u) = go (stem_byte b) refl (after-stem u)
  where
    go : (s : Bool) → stem_byte b ≡ s → stem_byte (first (after stem_byte u)) ≡ false → stem_byte (first (if s then after stem_byte u otherwise b ∷ u)) ≡ false
    go true q ih = ih
    go false q ih = q

no_word : (u : Text) → stem_byte (first u) ≡ false → digit (first u) ≡ false → start word_byte u ≡ []
unfolding if◌then◌otherwise◌
no_word [] s d = refl
no_word (b ∷ u) s d = go (word_byte b) refl
  where
    go : (w : Bool) → word_byte b ≡ w → (if w then b ∷ start word_byte u otherwise []) ≡ []
    go true q = absurd (false≢true (sym s ∙ stem-is b ∙ rw (q, d)))
    go false q = refl

-- ---- the whole name: a letter, the rest of its stem, and the suffix after that

module _ (lead : ℕ) (t : Text) (e : letter lead ≡ true) where
  name-is : name_in (lead ∷ t) ≡ start word_byte (lead ∷ t)
  unfolding name_in if◌then◌otherwise◌
  name-is = rw e

  stem-of : start stem_byte (lead ∷ t) ≡ lead ∷ start stem_byte t
  unfolding if◌then◌otherwise◌
  stem-of = rw (letter-stem lead e)

  module _ (r : Name) (p : StemRead t r) where
    after_is : drop r.end t ≡ after stem_byte (lead ∷ t)
    unfolding if◌then◌otherwise◌
    after_is = rw (letter-stem lead e) (end-drop stem_byte t 0 r.end (p.end ∙ sym (zero-add _)))

    pub none-left : digit (first (drop r.end t)) ≡ false → start word_byte (drop r.end t) ≡ []
    none-left d = rw after_is (no_word (after stem_byte (lead ∷ t)) (after-stem (lead ∷ t)) (rw after_is at d))

    pub stem-within : r.end ≤ length t
    stem-within = rw p.end (start-short stem_byte t)

    pub whole-key : with_code r.key (code_of lead) + class_of (start word_byte (drop r.end t)) * suffix_place ≡ key_of (name_in (lead ∷ t))
    unfolding key_of word_key
    whole-key = rw (name-is, stem-start (lead ∷ t), suffix-start (lead ∷ t), stem-of, p.key, after_is)

    pub whole-end : 1 + r.end + length (start word_byte (drop r.end t)) ≡ length (name_in (lead ∷ t))
    whole-end =
        let n = parts-length (lead ∷ t) in
        let a : length (start stem_byte (lead ∷ t)) ≡ suc r.end = rw (stem-of, p.end) in
        let b : length (start word_byte (drop r.end t)) ≡ length (start word_byte (after stem_byte (lead ∷ t))) = ap (λ (u : Text). length (start word_byte u)) after_is in
        rw name-is (omega arith)

-- the number fits
pub key-few : (k b : ℕ) → with_code k (code_of b) < suffix_place
unfolding with_code
key-few k b = let c = code-small b in omega arith

-- where it stands in a text
module _ (t : Text) (at lead : ℕ) (is : lead ≡ first (drop at t)) (e : letter lead ≡ true) where
  pub name-within : at < length t
  unfolding letter small
  name-within = first-within letter t at refl (ap letter (sym is) ∙ e)

  here : drop at t ≡ lead ∷ drop (at + 1) t
  here = rw (drop-cons t at 0 name-within, add-one at, is ∙ first-at t at)

  module _ (r : Name) (p : StemRead (drop (at + 1) t) r) where
    pub ends-within : at + 1 + r.end ≤ length t
    ends-within = let w = name-within in let n = stem-within lead (drop (at + 1) t) e r p in let d = length-drop (at + 1) t in omega arith

    pub whole-name : (k n : ℕ) → k ≡ class_of (start word_byte (drop (at + 1 + r.end) t)) → n ≡ length (start word_byte (drop (at + 1 + r.end) t))
        → NameHere t at (record { key = with_code r.key (code_of lead) + k * suffix_place; end = at + 1 + r.end + n })
    whole-name k n kind long =
        let d = drop-drop r.end (at + 1) t in
        let key = whole-key lead (drop (at + 1) t) e r p in
        let len = whole-end lead (drop (at + 1) t) e r p in
        record {
          lettered = ap letter (sym is) ∙ e;
          key = rw (kind, ← d, here) key;
          end = rw (long, ← d, here) (omega arith);
        }

    -- no digit follows the stem
    pub plain-name : digit (first (drop (at + 1 + r.end) t)) ≡ false → NameHere t at (record { key = with_code r.key (code_of lead); end = at + 1 + r.end })
    unfolding class_of if◌then◌otherwise◌
    plain-name d =
        let n : start word_byte (drop (at + 1 + r.end) t) ≡ [] =
        rw (← drop-drop r.end (at + 1) t) (none-left lead (drop (at + 1) t) e r p (rw (drop-drop r.end (at + 1) t) d)) in
        let w = whole-name 0 0 (rw n) (rw n) in
        let k : with_code r.key (code_of lead) ≡ with_code r.key (code_of lead) + 0 * suffix_place = omega arith in
        let z : at + 1 + r.end ≡ at + 1 + r.end + 0 = omega arith in
        record { lettered = w.lettered; key = k ∙ w.key; end = z ∙ w.end }
