-- The scan over a header against the definitions, which cut it at colons. A name at the text's start is their first; a colon after it
-- leads to the rest of their names (`scan-on`), nothing or a `?` ends them (`scan-last`), and any other byte spoils them (`scan-bad`).
use mathlib.Core.Path.{◌≡◌, refl, sym, ◌∙◌, ap}
use mathlib.Core.Bool.{Bool, true, false, not, ◌&&◌, false≢true}
use mathlib.Core.List.{List, [], ◌∷◌, ◌++◌}
use Prim.Native.Nat.{ℕ, suc, ◌+◌}
use native.Mathlib.Omega.{arith}
use lib.Dec.{eqb, leb}
use lib.ListN.{length, length-append}
use borrow.Author.Tests.{eqb-true, ne_eqb, leb-true, lt-leb}
use mir.Val.{bool_byte}
use Rattle.registers.specs.Text.{Text, if◌then◌otherwise◌, white, visible, letter, small, digit, word_byte, every, empty, first, start}
use Rattle.registers.proofs.Tests.{and_both, and_assoc, and-fails}
use Rattle.interpreter.specs.Cuts.{front, join_first, cut_at}
use Rattle.interpreter.specs.Header.{name, asks, body_of}
use Rattle.interpreter.specs.HeaderParts.{asks_in, names_in, unasked}
use Prim.Native.Char.{code}
use Rattle.interpreter.proofs.Separators.{other, free, cut-more, cut-one}
use Rattle.interpreter.proofs.Lists.{is-empty, every_map}

-- ---- bytes of names

-- a byte that fails where a name's byte would not
word-not : (x b : ℕ) → word_byte x ≡ false → word_byte b ≡ true → eqb b x ≡ false
word-not x b f e = ne_eqb b x (λ q. false≢true (sym f ∙ ap word_byte (sym q) ∙ e))

mark-word : word_byte (code "?") ≡ false
unfolding word_byte letter small digit
mark-word = refl

pub colon-word : word_byte (code ":") ≡ false
unfolding word_byte letter small digit
colon-word = refl

word-visible : (b : ℕ) → word_byte b ≡ true → white b ≡ false
unfolding white word_byte letter small digit
word-visible b e = go (leb b 32) refl
  where
    go : (t : Bool) → leb b 32 ≡ t → (t && not (eqb b 10)) ≡ false
    go true q =
        let h = leb-true b 32 q in
        absurd (false≢true (rw (lt-leb 65 b (omega arith), lt-leb 97 b (omega arith), lt-leb 48 b (omega arith), ne_eqb b 95 (λ z. omega arith)) at e))
    go false q = refl

-- ---- the `?` at the end

pub asks-cons : (x : ℕ) (r : Text) → eqb x (code "?") ≡ false → asks (x ∷ r) ≡ asks r
unfolding if◌then◌otherwise◌
asks-cons x [] e = e
asks-cons x (y ∷ r) e = refl

body_more : (x y : ℕ) (r : Text) → body_of (x ∷ y ∷ r) ≡ x ∷ body_of (y ∷ r)
unfolding body_of if◌then◌otherwise◌
body_more x y r = go (asks (y ∷ r))
  where
    go : (q : Bool) → (if q then x ∷ front (y ∷ r) otherwise x ∷ y ∷ r) ≡ x ∷ (if q then front (y ∷ r) otherwise y ∷ r)
    go true = refl
    go false = refl

pub body-cons : (x : ℕ) (r : Text) → eqb x (code "?") ≡ false → body_of (x ∷ r) ≡ x ∷ body_of r
unfolding body_of if◌then◌otherwise◌
body-cons x [] e = rw e
body-cons x (y ∷ r) e = body_more x y r

body-none : body_of [] ≡ []
unfolding body_of if◌then◌otherwise◌
body-none = refl

body-mark : body_of ((code "?") ∷ []) ≡ []
unfolding body_of if◌then◌otherwise◌
body-mark = refl

-- a header's body starts as the text does, or is empty
pub body-first : (p : ℕ → Bool) → p 0 ≡ false → (u : Text) → p (first u) ≡ false → p (first (body_of (start visible u))) ≡ false
unfolding if◌then◌otherwise◌
body-first p z [] e = rw body-none z
body-first p z (b ∷ t) e = go (visible b) (start visible t)
  where
    go : (d : Bool) (r : Text) → p (first (body_of (if d then b ∷ r otherwise []))) ≡ false
    go false r = rw body-none z
    go true (y ∷ r) = rw (body_more b y r) e
    go true [] = one (eqb b (code "?")) refl
      where
        one : (q : Bool) → eqb b (code "?") ≡ q → p (first (body_of (b ∷ []))) ≡ false
        one true q = rw (eqb-true b (code "?") q, body-mark) z
        one false q = rw (body-cons b [] q) e

-- ---- cut at colons: parts of which the first goes on a name

unfoldable first_word : List Text → Bool
first_word [] = true
first_word (u ∷ us) = every word_byte u && every name us

join-word : (b : ℕ) (c : List Text) → first_word (join_first b c) ≡ (word_byte b && first_word c)
unfolding first_word
join-word b [] = and_assoc (word_byte b) true true
join-word b (u ∷ us) = and_assoc (word_byte b) (every word_byte u) (every name us)

-- a part that starts with no letter is no name
join-other : (b : ℕ) (c : List Text) → letter b ≡ false → every name (join_first b c) ≡ false
unfolding name
join-other b [] e = rw e
join-other b (u ∷ us) e = rw e

-- nor is one that goes on with a byte that no name has
join-bad : (b : ℕ) (c : List Text) → first_word c ≡ false → every name (join_first b c) ≡ false
unfolding name first_word
join-bad b [] e = absurd (false≢true (sym e))
join-bad b (u ∷ us) e = go (letter b) (word_byte b) (every word_byte u) (every name us) e
  where
    go : (l w v r : Bool) → (v && r) ≡ false → ((l && (w && v)) && r) ≡ false
    go false w v r k = refl
    go true false v r k = refl
    go true true false r k = refl
    go true true true r k = k

nameless : name [] ≡ false
unfolding name letter small
nameless = refl

cut-other : (u : Text) → letter (first u) ≡ false → every name (cut_at (code ":") u) ≡ false
unfolding cut_at if◌then◌otherwise◌
cut-other [] e = rw nameless
cut-other (b ∷ t) e = go (eqb b (code ":"))
  where
    go : (q : Bool) → every name (if q then [] ∷ cut_at (code ":") t otherwise join_first b (cut_at (code ":") t)) ≡ false
    go true = rw nameless
    go false = join-other b (cut_at (code ":") t) e

module _ (x : ℕ) (r : Text) (f : word_byte x ≡ false) where
  cut-word-bad : eqb x (code ":") ≡ false → (w : Text) → every word_byte w ≡ true → first_word (cut_at (code ":") (w ++ x ∷ r)) ≡ false
  unfolding cut_at if◌then◌otherwise◌
  cut-word-bad n [] e = rw n (join-word x (cut_at (code ":") r) ∙ rw f)
  cut-word-bad n (b ∷ w) e =
      let p = and_both (word_byte b) (every word_byte w) e in
      rw (word-not (code ":") b colon-word p.0)
      (join-word b (cut_at (code ":") (w ++ x ∷ r)) ∙ and-fails (word_byte b) (first_word (cut_at (code ":") (w ++ x ∷ r))) (cut-word-bad n w p.1))

  cut-bad : eqb x (code ":") ≡ false → (w : Text) → name w ≡ true → every name (cut_at (code ":") (w ++ x ∷ r)) ≡ false
  unfolding cut_at name if◌then◌otherwise◌
  cut-bad n [] e = absurd (false≢true (sym nameless ∙ e))
  cut-bad n (b ∷ w) e =
      let p = and_both (word_byte b) (every word_byte w) (and_both (letter b) (word_byte b && every word_byte w) e).1 in
      rw (word-not (code ":") b colon-word p.0) (join-bad b (cut_at (code ":") (w ++ x ∷ r)) (cut-word-bad n w p.1))

  words-bad : (w : Text) → every word_byte (w ++ x ∷ r) ≡ false
  words-bad [] = rw f
  words-bad (b ∷ w) = and-fails (word_byte b) (every word_byte (w ++ x ∷ r)) (words-bad w)

  name-bad : (w : Text) → name (w ++ x ∷ r) ≡ false
  unfolding name
  name-bad w = and-fails (letter (first (w ++ x ∷ r))) (every word_byte (w ++ x ∷ r)) (words-bad w)

-- ---- a name at the start

module _ (z : Text) where
  visible-word : (w : Text) → every word_byte w ≡ true → start visible (w ++ z) ≡ w ++ start visible z
  unfolding if◌then◌otherwise◌
  visible-word [] e = refl
  visible-word (b ∷ w) e =
      let p = and_both (word_byte b) (every word_byte w) e in
      rw (word-visible b p.0, visible-word w p.1)

  asks-word : (w : Text) → every word_byte w ≡ true → asks (w ++ z) ≡ asks z
  asks-word [] e = refl
  asks-word (b ∷ w) e =
      let p = and_both (word_byte b) (every word_byte w) e in
      asks-cons b (w ++ z) (word-not (code "?") b mark-word p.0) ∙ asks-word w p.1

  body-word : (w : Text) → every word_byte w ≡ true → body_of (w ++ z) ≡ w ++ body_of z
  body-word [] e = refl
  body-word (b ∷ w) e =
      let p = and_both (word_byte b) (every word_byte w) e in
      body-cons b (w ++ z) (word-not (code "?") b mark-word p.0) ∙ ap (λ (u : Text). b ∷ u) (body-word w p.1)

-- a name has no colon
word-free : (w : Text) → every word_byte w ≡ true → free (code ":") w ≡ true
unfolding free
word-free w e = every_map word_byte (other (code ":")) (λ b k. rw (word-not (code ":") b colon-word k)) w e

append-none : (w : Text) → w ++ [] ≡ w
append-none [] = refl
append-none (b ∷ w) = ap (λ (u : Text). b ∷ u) (append-none w)

-- no letter starts a text
pub scan-none : (joined : Bool) (u : Text) → letter (first u) ≡ false → every name (names_in joined u) ≡ false
unfolding names_in name letter small if◌then◌otherwise◌
scan-none true u e = cut-other (body_of (start visible u)) (body-first letter refl u e)
scan-none false u e = let f = body-first letter refl u e in rw f

module _ (w : Text) (good : name w ≡ true) where
  words : every word_byte w ≡ true
  unfolding name
  words = (and_both (letter (first w)) (every word_byte w) good).1

  -- a colon joins another name
  module _ (r : Text) where
    joined-visible : start visible (w ++ (code ":") ∷ r) ≡ w ++ (code ":") ∷ start visible r
    unfolding white if◌then◌otherwise◌
    joined-visible = visible-word ((code ":") ∷ r) w words

    pub scan-on : names_in true (w ++ (code ":") ∷ r) ≡ w ∷ names_in true r
    unfolding names_in if◌then◌otherwise◌
    scan-on =
        rw (joined-visible, body-word ((code ":") ∷ start visible r) w words, body-cons (code ":") (start visible r) refl)
        (cut-more (code ":") w (body_of (start visible r)) (word-free w words))

    pub scan-on-asks : asks_in (w ++ (code ":") ∷ r) ≡ asks_in r
    scan-on-asks = ap asks joined-visible ∙ asks-word ((code ":") ∷ start visible r) w words ∙ asks-cons (code ":") (start visible r) refl

    pub scan-on-length : length (start visible (w ++ (code ":") ∷ r)) ≡ length w + suc (length (start visible r))
    scan-on-length = ap length joined-visible ∙ length-append w ((code ":") ∷ start visible r)

  -- it is the last name
  module _ (z : Text) where
    abbrev asked : Bool
    asked = eqb (first z) (code "?")

    -- what is left of the header: nothing, or a `?`
    module _ (closed : empty (start visible (unasked z)) ≡ true) where
      abbrev Left : Text → Bool → Type 0
      Left l q = (body_of l ≡ []) × (asks l ≡ q) × (length l ≡ bool_byte q)

      left : Left (start visible z) asked
      unfolding unasked if◌then◌otherwise◌ white
      left = go z refl
        where
          go : (t : Text) → z ≡ t → Left (start visible z) asked
          go [] e = rw e (body-none, refl, refl)
          go (x ∷ t) e = rw e (one (eqb x (code "?")) refl (rw e at closed))
            where
              one : (q : Bool) → eqb x (code "?") ≡ q → empty (start visible (if q then t otherwise x ∷ t)) ≡ true → Left (start visible (x ∷ t)) q
              one true q k = rw (eqb-true x (code "?") q, is-empty (start visible t) k) (body-mark, refl, refl)
              one false q k = rw (is-empty (start visible (x ∷ t)) k) (body-none, refl, refl)

      pub scan-last : (joined : Bool) → names_in joined (w ++ z) ≡ w ∷ []
      unfolding names_in if◌then◌otherwise◌
      scan-last true = rw (visible-word z w words, body-word (start visible z) w words, left.0, append-none w) (cut-one (code ":") w (word-free w words))
      scan-last false = rw (visible-word z w words, body-word (start visible z) w words, left.0, append-none w)

      pub scan-last-asks : asks_in (w ++ z) ≡ asked
      scan-last-asks = ap asks (visible-word z w words) ∙ asks-word (start visible z) w words ∙ left.1

      pub scan-last-length : length (start visible (w ++ z)) ≡ length w + bool_byte asked
      scan-last-length = ap length (visible-word z w words) ∙ length-append w (start visible z) ∙ ap (λ (n : ℕ). length w + n) left.2

    -- something else stands there
    module _ (goes-on : empty (start visible (unasked z)) ≡ false) (other : word_byte (first z) ≡ false) where
      abbrev Goes : Text → Type 0
      Goes l = (r : Text) × (body_of l ≡ first z ∷ r)

      goes : Goes (start visible z)
      unfolding unasked white if◌then◌otherwise◌
      goes = go z refl
        where
          go : (t : Text) → z ≡ t → Goes (start visible z)
          go [] e = absurd (false≢true (sym (rw e at goes-on)))
          go (x ∷ t) e = rw e (one (eqb x (code "?")) refl (visible x) refl (rw e at goes-on))
            where
              one : (q : Bool) → eqb x (code "?") ≡ q → (d : Bool) → visible x ≡ d → empty (start visible (if q then t otherwise x ∷ t)) ≡ false
                  → (r : Text) × (body_of (if d then x ∷ start visible t otherwise []) ≡ x ∷ r)
              one false q true k o = (body_of (start visible t), body-cons x (start visible t) q)
              one false q false k o = absurd (false≢true (sym (rw k at o)))
              one true q true k o = two (start visible t) o
                where
                  two : (s : Text) → empty s ≡ false → (r : Text) × (body_of (x ∷ s) ≡ x ∷ r)
                  two [] i = absurd (false≢true (sym i))
                  two (y ∷ s) i = (body_of (y ∷ s), body_more x y s)
              one true q false k o = absurd (false≢true (sym (rw (eqb-true x (code "?") q) at k)))

      pub scan-bad : (joined : Bool) → (joined ≡ true → eqb (first z) (code ":") ≡ false) → every name (names_in joined (w ++ z)) ≡ false
      unfolding names_in if◌then◌otherwise◌
      scan-bad true n =
          rw (visible-word z w words, body-word (start visible z) w words, goes.1) (cut-bad (first z) goes.0 other (n refl) w good)
      scan-bad false n =
          rw (visible-word z w words, body-word (start visible z) w words, goes.1, name-bad (first z) goes.0 other w)
