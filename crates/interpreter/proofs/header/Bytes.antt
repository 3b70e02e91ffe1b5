-- Which bytes a header has before its `?`: letters, digits, underscores, colons and a star, since it is names cut at colons, after what
-- leads it. None of them is white space or parts units (`solid`), by one computed test over the bytes below 128.
use mathlib.Core.Path.{◌≡◌, refl, ◌∙◌, ap}
use mathlib.Core.Bool.{Bool, true, false, not, ◌&&◌, ◌||◌, false≢true}
use mathlib.Core.List.{List, [], ◌∷◌}
use Prim.Native.Nat.{ℕ, ◌<◌}
use Prim.Native.Char.{code}
use native.Mathlib.Omega.{arith}
use lib.Dec.{ltb, eqb}
use borrow.Author.Tests.{eqb-true, ne_eqb, le-leb, lt-leb, ltb-true, ltb-false}
use Rattle.registers.specs.Text.{Text, if◌then◌otherwise◌, white, printable, digit, small, letter, word_byte, every, first, rest, below}
use Rattle.registers.specs.Check.{Checked, refused, passed, check, ◌>>◌}
use Rattle.registers.proofs.Tests.{and_both, and-true, below_at}
use Rattle.interpreter.specs.Cuts.{join_first, cut_at, is_quote}
use Rattle.interpreter.specs.Header.{Place, Header, asks, name, placed, header, body_of, by_first}
use Rattle.interpreter.proofs.Choices.{if-elim}
use Rattle.interpreter.proofs.Checks.{apart}
use Rattle.interpreter.proofs.Lists.{every_map}

-- ---- bytes of names

unfoldable header_byte : ℕ → Bool
header_byte b = word_byte b || (eqb b (code ":") || eqb b (code "*"))

word-header : (b : ℕ) → word_byte b ≡ true → header_byte b ≡ true
unfolding header_byte
word-header b e = rw e

-- a byte that is no white space, allowed in a unit, and parts no units
unfoldable pub solid : ℕ → Bool
solid b = not (white b) && (printable b && not (eqb b (code ";")))

below-128 : (b : ℕ) → header_byte b ≡ true → (t : Bool) → ltb b 128 ≡ t → b < 128
unfolding header_byte word_byte letter small digit
below-128 b e true q = ltb-true b 128 q
below-128 b e false q =
    let h = ltb-false b 128 q in
    absurd (false≢true (rw (
      le-leb 65 b (omega arith),
      lt-leb b 90 (omega arith),
      le-leb 97 b (omega arith),
      lt-leb b 122 (omega arith),
      le-leb 48 b (omega arith),
      lt-leb b 57 (omega arith),
      ne_eqb b 95 (λ z. omega arith),
      ne_eqb b (code ":") (λ z. omega arith),
      ne_eqb b (code "*") (λ z. omega arith),
    ) at e))

all-solid : below 128 (λ b. not (header_byte b) || solid b) ≡ true
unfolding header_byte solid word_byte letter small digit white printable
all-solid = refl

header-solid : (b : ℕ) → header_byte b ≡ true → solid b ≡ true
header-solid b e = rw e at (below_at 128 (λ b. not (header_byte b) || solid b) all-solid b (below-128 b e (ltb b 128) refl))

-- nor does any open a quote
unfoldable pub unquoted : ℕ → Bool
unquoted b = not (is_quote b)

all-unquoted : below 128 (λ b. not (header_byte b) || unquoted b) ≡ true
unfolding header_byte unquoted word_byte letter small digit
all-unquoted = refl

header-unquoted : (b : ℕ) → header_byte b ≡ true → unquoted b ≡ true
header-unquoted b e = rw e at (below_at 128 (λ b. not (header_byte b) || unquoted b) all-unquoted b (below-128 b e (ltb b 128) refl))

-- ---- names joined by separators

join-bytes : (p : ℕ → Bool) (b : ℕ) (us : List Text) → every (every p) (join_first b us) ≡ true → (p b ≡ true) × (every (every p) us ≡ true)
join-bytes p b [] h = ((and_both (p b) true (and_both (p b && true) true h).0).0, refl)
join-bytes p b (u ∷ us) h =
    let e = and_both (p b && every p u) (every (every p) us) h in
    let f = and_both (p b) (every p u) e.0 in
    (f.0, and-true f.1 e.1)

cut-bytes : (p q : ℕ → Bool) (s : ℕ) → q s ≡ true → ((b : ℕ) → p b ≡ true → q b ≡ true)
    → (t : Text) → every (every p) (cut_at s t) ≡ true → every q t ≡ true
unfolding cut_at if◌then◌otherwise◌
cut-bytes p q s e f [] h = refl
cut-bytes p q s e f (b ∷ bs) h = go (eqb b s) refl h (λ k. cut-bytes p q s e f bs k)
  where
    go : (t : Bool) → eqb b s ≡ t → every (every p) (if t then [] ∷ cut_at s bs otherwise join_first b (cut_at s bs)) ≡ true
        → (every (every p) (cut_at s bs) ≡ true → every q bs ≡ true) → every q (b ∷ bs) ≡ true
    go true r k ih = and-true (ap q (eqb-true b s r) ∙ e) (ih k)
    go false r k ih = let j = join-bytes p b (cut_at s bs) k in and-true (f b j.0) (ih j.1)

all_words : (ns : List Text) → every name ns ≡ true → every (every word_byte) ns ≡ true
unfolding name
all_words [] h = refl
all_words (n ∷ ns) h =
    let e = and_both (name n) (every name ns) h in and-true (and_both (letter (first n)) (every word_byte n) e.0).1 (all_words ns e.1)

-- ---- the header

query_of : Checked Header → Bool
query_of (refused n) = false
query_of (passed x) = x.query

placed-names : (p : Place) (names : List Text) (q : Bool) (x : Header) → placed p names q ≡ passed x → (every name names ≡ true) × (q ≡ x.query)
unfolding placed check ◌>>◌ query_of
placed-names p names q x e = go (every name names) refl
  where
    go : (t : Bool) → every name names ≡ t → (every name names ≡ true) × (q ≡ x.query)
    go true r = (r, ap query_of (rw r at e))
    go false r = absurd (apart 102 x (rw r at e))

colon-header : header_byte (code ":") ≡ true
unfolding header_byte word_byte letter small digit
colon-header = refl

star-header : header_byte (code "*") ≡ true
unfolding header_byte word_byte letter small digit
star-header = refl

one_name : (t : Text) → every name (t ∷ []) ≡ true → every header_byte t ≡ true
one_name t h = every_map word_byte header_byte word-header t (and_both (every word_byte t) true (all_words (t ∷ []) h)).0

joined-names : (t : Text) → every name (cut_at (code ":") t) ≡ true → every header_byte t ≡ true
joined-names t h = cut-bytes word_byte header_byte (code ":") colon-header word-header t (all_words (cut_at (code ":") t) h)

led-by : (x : ℕ) → header_byte x ≡ true → (t : Text) → eqb (first t) x ≡ true → every header_byte (rest t) ≡ true → every header_byte t ≡ true
led-by x a [] e k = refl
led-by x a (b ∷ t) e k = and-true (ap header_byte (eqb-true b x e) ∙ a) k

first-bytes : (t : Text) (q : Bool) (x : Header) → by_first t q ≡ passed x → (every header_byte t ≡ true) × (q ≡ x.query)
unfolding by_first
first-bytes t q x =
    let P : Checked Header → Type 0 = λ m. m ≡ passed x → (every header_byte t ≡ true) × (q ≡ x.query) in
    if-elim P (eqb (first t) (code "*"))
    (λ r e. let n = placed-names _ _ q x e in (led-by (code "*") star-header t r (one_name (rest t) n.0), n.1))
    (λ _. if-elim P (eqb (first t) (code ":"))
    (λ r e. let n = placed-names _ _ q x e in (led-by (code ":") colon-header t r (joined-names (rest t) n.0), n.1))
    (λ _ e. let n = placed-names _ _ q x e in (joined-names t n.0, n.1)))

-- without the `?` every byte is solid
pub body-solid : (t : Text) (x : Header) → header t ≡ passed x → (every solid (body_of t) ≡ true) × (asks t ≡ x.query)
unfolding header
body-solid t x e =
    let r = first-bytes (body_of t) (asks t) x e in
    (every_map header_byte solid header-solid (body_of t) r.0, r.1)

-- and so of a header that is no query
pub header-is-solid : (h : Text) (x : Header) → header h ≡ passed x → x.query ≡ false → every solid h ≡ true
unfolding body_of if◌then◌otherwise◌
header-is-solid h x e set =
    let r = body-solid h x e in
    rw (r.1 ∙ set) at r.0

pub header-is-unquoted : (h : Text) (x : Header) → header h ≡ passed x → x.query ≡ false → every unquoted h ≡ true
unfolding header body_of if◌then◌otherwise◌
header-is-unquoted h x e set =
    let r = first-bytes (body_of h) (asks h) x e in
    rw (r.1 ∙ set) at (every_map header_byte unquoted header-unquoted (body_of h) r.0)
