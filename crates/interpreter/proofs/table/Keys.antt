-- Two names have the same number exactly where they have the same letters in any letter case, if one of them is a form of at most
-- eleven capitals. A name of twelve or more bytes has twelve lowest places that are all taken, whatever was shifted out, and such
-- a form has not.
use mathlib.Core.Path.{◌≡◌, refl, sym, ◌∙◌, ap, ap₂}
use mathlib.Core.Bool.{Bool, true, false, not, ◌&&◌, ◌||◌, false≢true}
use mathlib.Core.List.{List, [], ◌∷◌, map, reverse, reverse_aux, reverse-reverse}
use Prim.Native.Nat.{ℕ, zero, suc, ◌+◌, ◌*◌, ◌%◌, ◌/◌, ◌≤◌, ◌<◌, ◌-◌}
use Prim.Native.String.{String}
use native.Mathlib.Nat.{div-add-mod', mod-lt, mod-eq_of_lt, zero-mod, mul-add-mod_self_right, mul_assoc}
use native.Mathlib.Omega.{arith}
use lib.Dec.{eqb, leb, ltb}
use lib.ListN.{length, length-map, length-reverse_aux}
use borrow.Author.Tests.{eqb-true, eqb-false, ne_eqb, leb-true, le-leb, ltb-true, ltb-false, lt-ltb, le-ltb}
use Rattle.registers.specs.Text.{Text, if◌then◌otherwise◌, bytes, every, empty, same, digit, letter, small, word_byte, capital}
use Rattle.registers.specs.Words.{short_form, long_form, matches}
use Rattle.registers.proofs.Tests.{and_both, and-true, and-fails}
use Rattle.interpreter.specs.Header.{numbered, stem, suffix, node_matches}
use Rattle.interpreter.specs.NameParts.{code_of, with_code, key_from, word_key, class_of, key_of, suffix_place, no_number, stem_byte, code_count}
use Rattle.interpreter.specs.RowsParts.{shown_key, key_matches}
use Rattle.interpreter.proofs.Lists.{is-empty, same-eq, same_refl}
use Rattle.interpreter.proofs.table.Codes.{upper, upper-letter, letter-stem, code-small, code-some, same-letter, capital-same, stem-is, digit-alone}

-- ---- codes as the places of a number, the lowest first: as many as there are, and in 60 bits

places : List ℕ → ℕ
places [] = 0
places (c ∷ cs) = places cs * code_count + c

wrapped : List ℕ → ℕ
wrapped [] = 0
wrapped (c ∷ cs) = with_code (wrapped cs) c

abbrev code : ℕ → Bool
code c = leb 1 c && leb c (code_count - 1)

code-bounds : (c : ℕ) → code c ≡ true → (1 ≤ c) × (c < code_count)
code-bounds c e =
    let p = and_both (leb 1 c) (leb c (code_count - 1)) e in
    let l = leb-true c (code_count - 1) p.1 in
    (leb-true 1 c p.0, omega arith)

wraps : (cs : List ℕ) → every code cs ≡ true → wrapped cs ≡ places cs % 1152921504606846976
unfolding wrapped places with_code
wraps [] e = refl
wraps (c ∷ cs) e =
    let p = and_both (code c) (every code cs) e in
    let b = code-bounds c p.0 in
    let ih = wraps cs p.1 in
    rw ih (omega arith)

-- ---- places that are all taken tell the codes, in as many bits as there are, as long as the other number leaves one place free

module _ (m : ℕ) (pos : 0 < m) where
  place-mod : (x c : ℕ) → c < code_count → (x * code_count + c) % (m * code_count) ≡ x % m * code_count + c
  place-mod x c h =
      let d = div-add-mod' x m in
      let r = mod-lt x pos in
      let a = mul_assoc (x / m) m code_count in
      let e : x * code_count + c ≡ x / m * (m * code_count) + (x % m * code_count + c) = omega arith in
      rw e (mul-add-mod_self_right (x / m) (m * code_count) (x % m * code_count + c) ∙ mod-eq_of_lt (omega arith))

-- so many powers of 32
modulus : ℕ → ℕ
modulus zero = 1
modulus (suc n) = modulus n * code_count

modulus-some : (n : ℕ) → 0 < modulus n
unfolding modulus
modulus-some zero = omega arith
modulus-some (suc n) = let ih = modulus-some n in omega arith

same-places : (n : ℕ) (l m : List ℕ) → every code l ≡ true → every code m ≡ true → length m < n
    → places l % modulus n ≡ places m % modulus n → l ≡ m
unfolding places modulus
same-places zero l m e f h q = absurd (omega arith)
same-places (suc n) [] [] e f h q = refl
same-places (suc n) (c ∷ l) [] e f h q =
    let b = code-bounds c (and_both (code c) (every code l) e).0 in
    let p = place-mod (modulus n) (modulus-some n) (places l) c b.1 in
    let z = zero-mod (modulus n * code_count) in
    absurd (omega arith)
same-places (suc n) [] (d ∷ m) e f h q =
    let b = code-bounds d (and_both (code d) (every code m) f).0 in
    let p = place-mod (modulus n) (modulus-some n) (places m) d b.1 in
    let z = zero-mod (modulus n * code_count) in
    absurd (omega arith)
same-places (suc n) (c ∷ l) (d ∷ m) e f h q =
    let u = and_both (code c) (every code l) e in
    let v = and_both (code d) (every code m) f in
    let b = code-bounds c u.0 in
    let g = code-bounds d v.0 in
    let p = place-mod (modulus n) (modulus-some n) (places l) c b.1 in
    let r = place-mod (modulus n) (modulus-some n) (places m) d g.1 in
    let low : c ≡ d = omega arith in
    let high : places l % modulus n ≡ places m % modulus n = omega arith in
    ap₂ (λ (x : ℕ) (xs : List ℕ). x ∷ xs) low (same-places n l m u.1 v.1 (omega arith) high)

same_codes : (l m : List ℕ) → every code l ≡ true → every code m ≡ true → length m ≤ 11 → wrapped l ≡ wrapped m → l ≡ m
unfolding modulus
same_codes l m e f h q = same-places 12 l m e f (omega arith) (sym (wraps l e) ∙ q ∙ wraps m f)

-- ---- a name's codes as places: the first lowest, then the last, and so on back to the second

turned : Text → List ℕ
turned [] = []
turned (b ∷ bs) = code_of b ∷ reverse (map code_of bs)

from-turned : (t : Text) (r : List ℕ) → key_from (wrapped r) t ≡ wrapped (reverse_aux (map code_of t) r)
unfolding key_from wrapped
from-turned [] r = refl
from-turned (b ∷ bs) r = from-turned bs (code_of b ∷ r)

key-turned : (t : Text) → word_key t ≡ wrapped (turned t)
unfolding word_key wrapped turned
key-turned [] = refl
key-turned (b ∷ bs) = ap (λ (k : ℕ). with_code k (code_of b)) (from-turned bs [])

turned-back : (t f : Text) → turned t ≡ turned f → map code_of t ≡ map code_of f
unfolding turned
turned-back [] [] q = refl
turned-back [] (x ∷ xs) q = cc
turned-back (b ∷ bs) [] q = cc
turned-back (b ∷ bs) (x ∷ xs) q =
    let low : code_of b ≡ code_of x = cc in
    let high : reverse (map code_of bs) ≡ reverse (map code_of xs) = cc in
    ap₂ (λ (c : ℕ) (cs : List ℕ). c ∷ cs) low (sym (reverse-reverse (map code_of bs)) ∙ ap reverse high ∙ reverse-reverse (map code_of xs))

word-code : (b : ℕ) → stem_byte b ≡ true → code (code_of b) ≡ true
word-code b e = let s = code-some b e in let l = code-small b in and-true (le-leb 1 (code_of b) (omega arith)) (le-leb (code_of b) (code_count - 1) (omega arith))

every-turned : (l r : List ℕ) → every code l ≡ true → every code r ≡ true → every code (reverse_aux l r) ≡ true
every-turned [] r e f = f
every-turned (c ∷ l) r e f = let p = and_both (code c) (every code l) e in every-turned l (c ∷ r) p.1 (and-true p.0 f)

all_codes : (t : Text) → every stem_byte t ≡ true → every code (map code_of t) ≡ true
all_codes [] e = refl
all_codes (b ∷ bs) e = let p = and_both (stem_byte b) (every stem_byte bs) e in and-true (word-code b p.0) (all_codes bs p.1)

turned-codes : (t : Text) → every stem_byte t ≡ true → every code (turned t) ≡ true
unfolding turned
turned-codes [] e = refl
turned-codes (b ∷ bs) e =
    let p = and_both (stem_byte b) (every stem_byte bs) e in
    and-true (word-code b p.0) (every-turned (map code_of bs) [] (all_codes bs p.1) refl)

turned-length : (t : Text) → length (turned t) ≡ length t
unfolding turned
turned-length [] = refl
turned-length (b ∷ bs) = let r = length-reverse_aux (map code_of bs) [] in let m = length-map bs code_of in omega arith

-- ---- the law

-- a form as the table has it
abbrev pub capitals : Text → Bool
capitals f = every upper f && leb (length f) 11

-- the same codes as those of capitals
same-letters : (t f : Text) → every upper f ≡ true → map code_of t ≡ map code_of f → map capital t ≡ f
same-letters [] [] e q = refl
same-letters [] (x ∷ f) e q = cc
same-letters (b ∷ t) [] e q = cc
same-letters (b ∷ t) (x ∷ f) e q =
    let p = and_both (upper x) (every upper f) e in
    let low : code_of b ≡ code_of x = cc in
    let high : map code_of t ≡ map code_of f = cc in
    ap₂ (λ (c : ℕ) (cs : Text). c ∷ cs) (same-letter b x p.0 low) (same-letters t f p.1 high)

from-capitals : (k : ℕ) (t : Text) → key_from k (map capital t) ≡ key_from k t
unfolding key_from
from-capitals k [] = refl
from-capitals k (b ∷ bs) =
    ap (λ (c : ℕ). key_from (with_code k c) (map capital bs)) (capital-same b) ∙ from-capitals (with_code k (code_of b)) bs

key-capitals : (t : Text) → word_key (map capital t) ≡ word_key t
unfolding word_key
key-capitals [] = refl
key-capitals (b ∷ bs) = rw (capital-same b, from-capitals 0 bs)

upper-word : (x : ℕ) → upper x ≡ true → stem_byte x ≡ true
upper-word x e = letter-stem x (upper-letter x e)

every-upper : (f : Text) → every upper f ≡ true → every stem_byte f ≡ true
every-upper [] e = refl
every-upper (x ∷ f) e = let p = and_both (upper x) (every upper f) e in and-true (upper-word x p.0) (every-upper f p.1)

pub form-key : (t f : Text) → every stem_byte t ≡ true → capitals f ≡ true → eqb (word_key t) (word_key f) ≡ same (map capital t) f
form-key t f w c = go (eqb (word_key t) (word_key f)) refl (same (map capital t) f) refl
  where
    p : (every upper f ≡ true) × (leb (length f) 11 ≡ true)
    p = and_both (every upper f) (leb (length f) 11) c

    back : word_key t ≡ word_key f → map capital t ≡ f
    back q =
        let l = turned-length f in
        let s = leb-true (length f) 11 p.1 in
        let u = turned-codes t w in
        let v = turned-codes f (every-upper f p.0) in
        let e = same_codes (turned t) (turned f) u v (omega arith) (sym (key-turned t) ∙ q ∙ key-turned f) in
        same-letters t f p.0 (turned-back t f e)

    go : (a : Bool) → eqb (word_key t) (word_key f) ≡ a → (b : Bool) → same (map capital t) f ≡ b → a ≡ b
    go true x true y = refl
    go false x false y = refl
    go true x false y = absurd (false≢true (sym y ∙ same_refl (map capital t) f (back (eqb-true (word_key t) (word_key f) x))))
    go false x true y = absurd (eqb-false (word_key t) (word_key f) x (sym (key-capitals t) ∙ ap word_key (same-eq (map capital t) f y)))

-- ---- a word's number leaves the suffix's place free

wrapped-small : (cs : List ℕ) → every code cs ≡ true → wrapped cs < suffix_place
unfolding wrapped with_code
wrapped-small [] e = omega arith
wrapped-small (c ∷ cs) e = let b = code-bounds c (and_both (code c) (every code cs) e).0 in omega arith

pub key-small : (t : Text) → every stem_byte t ≡ true → word_key t < suffix_place
key-small t e = rw (key-turned t) (wrapped-small (turned t) (turned-codes t e))

-- ---- a suffix by its number

pub class-most : (t : Text) → class_of t ≤ 4
unfolding class_of if◌then◌otherwise◌
class-most t = go (empty t) (same t _) (same t _) (every digit t)
  where
    go : (a b c d : Bool) → (if a then 0 otherwise (if b then 1 otherwise (if c then 2 otherwise (if d then 3 otherwise 4)))) ≤ 4
    go true b c d = omega arith
    go false true c d = omega arith
    go false false true d = omega arith
    go false false false true = omega arith
    go false false false false = omega arith

-- it is less than 4 where all are digits
class-digits : (t : Text) → ltb (class_of t) 4 ≡ every digit t
unfolding class_of if◌then◌otherwise◌ bytes digit
class-digits t = go (empty t) refl (same t (bytes "1")) refl (same t (bytes "2")) refl (every digit t) refl
  where
    go : (a : Bool) → empty t ≡ a → (b : Bool) → same t (bytes "1") ≡ b → (c : Bool) → same t (bytes "2") ≡ c → (d : Bool) → every digit t ≡ d
        → ltb (if a then 0 otherwise (if b then 1 otherwise (if c then 2 otherwise (if d then 3 otherwise 4)))) 4 ≡ d
    go true p b q c r d s = sym (ap (every digit) (is-empty t p)) ∙ s
    go false p true q c r d s = sym (ap (every digit) (same-eq t (bytes "1") q)) ∙ s
    go false p false q true r d s = sym (ap (every digit) (same-eq t (bytes "2") r)) ∙ s
    go false p false q false r true s = refl
    go false p false q false r false s = refl

-- it is 0 where there is none
pub class-none : (t : Text) → eqb (class_of t) 0 ≡ empty t
unfolding class_of if◌then◌otherwise◌
class-none [] = refl
class-none (x ∷ t) = go (same (x ∷ t) _) (same (x ∷ t) _) (every digit (x ∷ t))
  where
    go : (b c d : Bool) → eqb (if b then 1 otherwise (if c then 2 otherwise (if d then 3 otherwise 4))) 0 ≡ false
    go true c d = refl
    go false true d = refl
    go false false true = refl
    go false false false = refl

-- ---- a name's number: its stem's, and its suffix's above that

stem-bytes : (t : Text) → every word_byte t ≡ true → every stem_byte (stem t) ≡ true
unfolding if◌then◌otherwise◌
stem-bytes [] e = refl
stem-bytes (b ∷ bs) e =
    let p = and_both (word_byte b) (every word_byte bs) e in
    go (digit b) refl p.0 (stem-bytes bs p.1)
  where
    go : (d : Bool) → digit b ≡ d → word_byte b ≡ true → every stem_byte (stem bs) ≡ true
        → every stem_byte (if not d then b ∷ stem bs otherwise []) ≡ true
    go true q w ih = refl
    go false q w ih = and-true (stem-is b ∙ rw (w, q)) ih

module _ (t : Text) (w : every word_byte t ≡ true) where
  abbrev a : ℕ
  a = word_key (stem t)

  abbrev c : ℕ
  c = class_of (suffix t)

  low : a < suffix_place
  low = key-small (stem t) (stem-bytes t w)

  pub key-stem : key_of t % suffix_place ≡ word_key (stem t)
  unfolding key_of
  key-stem = let h = low in omega arith

  pub key-class : key_of t / suffix_place ≡ class_of (suffix t)
  unfolding key_of
  key-class = let h = low in omega arith

  key-digits : ltb (key_of t) no_number ≡ every digit (suffix t)
  unfolding key_of
  key-digits = go (ltb c 4) refl ∙ class-digits (suffix t)
    where
      go : (b : Bool) → ltb c 4 ≡ b → ltb (a + c * suffix_place) no_number ≡ ltb c 4
      go true q = let h = low in let k = ltb-true c 4 q in lt-ltb (a + c * suffix_place) no_number (omega arith) ∙ sym q
      go false q = let k = ltb-false c 4 q in le-ltb (a + c * suffix_place) no_number (omega arith) ∙ sym q

  key-high : every digit (suffix t) ≡ false → suffix_place ≤ key_of t
  unfolding key_of
  key-high e = let k = ltb-false c 4 (class-digits (suffix t) ∙ e) in omega arith

  key-suffixed : empty (suffix t) ≡ false → suffix_place ≤ key_of t
  unfolding key_of
  key-suffixed e = let k = eqb-false c 0 (class-none (suffix t) ∙ e) in omega arith

whole-key : (t : Text) → empty (suffix t) ≡ true → key_of t ≡ word_key (stem t)
unfolding key_of
whole-key t e = let c = eqb-true (class_of (suffix t)) 0 (class-none (suffix t) ∙ e) in omega arith

-- a name without a suffix is its stem
pub stem-whole : (t : Text) → empty (suffix t) ≡ true → stem t ≡ t
unfolding if◌then◌otherwise◌
stem-whole [] e = refl
stem-whole (b ∷ bs) e = go (digit b) e (stem-whole bs)
  where
    go : (d : Bool) → empty (if not d then suffix bs otherwise b ∷ bs) ≡ true → (empty (suffix bs) ≡ true → stem bs ≡ bs)
        → (if not d then b ∷ stem bs otherwise []) ≡ b ∷ bs
    go true q ih = absurd (false≢true q)
    go false q ih = ap (λ (l : Text). b ∷ l) (ih q)

-- capitals have no suffix
upper-digit : (b : ℕ) → upper (capital b) ≡ true → digit b ≡ false
unfolding capital letter if◌then◌otherwise◌
upper-digit b e = go (digit b) refl
  where
    go : (d : Bool) → digit b ≡ d → digit b ≡ false
    go false q = q
    go true q = absurd (two (upper b) refl (small b) refl (digit-alone b q).0 e)
      where
        two : (u : Bool) → upper b ≡ u → (s : Bool) → small b ≡ s → (u || s) ≡ false → upper (if s then b - 32 otherwise b) ≡ true → ⊥
        two true p s r k x = false≢true (sym k)
        two false p true r k x = false≢true (sym k)
        two false p false r k x = false≢true (sym p ∙ x)

pub upper-whole : (t : Text) → every upper (map capital t) ≡ true → empty (suffix t) ≡ true
unfolding if◌then◌otherwise◌
upper-whole [] e = refl
upper-whole (b ∷ bs) e =
    let p = and_both (upper (capital b)) (every upper (map capital bs)) e in
    rw (upper-digit b p.0) (upper-whole bs p.1)

-- ---- a name's number is that of one of a word's forms exactly where the name spells the word, with a numeric suffix where it takes one

not-form : (k : ℕ) (f : Text) → capitals f ≡ true → suffix_place ≤ k → eqb k (word_key f) ≡ false
not-form k f e h =
    let s = key-small f (every-upper f (and_both (every upper f) (leb (length f) 11) e).0) in
    ne_eqb k (word_key f) (λ q. omega arith)

not_same : (t f : Text) → capitals f ≡ true → empty (suffix t) ≡ false → same (map capital t) f ≡ false
not_same t f e n = go (same (map capital t) f) refl
  where
    go : (b : Bool) → same (map capital t) f ≡ b → same (map capital t) f ≡ false
    go false q = q
    go true q =
        let u = (and_both (every upper f) (leb (length f) 11) e).0 in
        absurd (false≢true (sym n ∙ upper-whole t (rw (same-eq (map capital t) f q) u)))

module _ (w : String) (t : Text) (e : every word_byte t ≡ true) (x : (capitals (short_form w) && capitals (long_form w)) ≡ true) where
  p : (capitals (short_form w) ≡ true) × (capitals (long_form w) ≡ true)
  p = and_both (capitals (short_form w)) (capitals (long_form w)) x

  stem-matches : (eqb (key_of t % suffix_place) (word_key (short_form w)) || eqb (key_of t % suffix_place) (word_key (long_form w))) ≡ matches w (stem t)
  unfolding matches
  stem-matches =
      rw (key-stem t e, form-key (stem t) (short_form w) (stem-bytes t e) p.0, form-key (stem t) (long_form w) (stem-bytes t e) p.1)

  takes-number : (b : Bool) → every digit (suffix t) ≡ b
      → (let k = if b then key_of t % suffix_place otherwise key_of t in eqb k (word_key (short_form w)) || eqb k (word_key (long_form w))) ≡ (matches w (stem t) && b)
  unfolding if◌then◌otherwise◌
  takes-number true q = stem-matches ∙ sym (and_right (matches w (stem t)))
    where
      and_right : (m : Bool) → (m && true) ≡ m
      and_right true = refl
      and_right false = refl
  takes-number false q =
      let h = key-high t e q in
      rw (not-form (key_of t) (short_form w) p.0 h, not-form (key_of t) (long_form w) p.1 h) (sym (and-fails (matches w (stem t)) false refl))

  takes_none : (b : Bool) → empty (suffix t) ≡ b → (eqb (key_of t) (word_key (short_form w)) || eqb (key_of t) (word_key (long_form w))) ≡ matches w t
  unfolding matches
  takes_none false q =
      let h = key-suffixed t e q in
      rw (not-form (key_of t) (short_form w) p.0 h, not-form (key_of t) (long_form w) p.1 h, not_same t (short_form w) p.0 q, not_same t (long_form w) p.1 q)
  takes_none true q =
      let whole = stem-whole t q in
      let bytes : every stem_byte t ≡ true = rw whole at (stem-bytes t e) in
      let k : key_of t ≡ word_key t = plain-key t q whole in
      rw (k, form-key t (short_form w) bytes p.0, form-key t (long_form w) bytes p.1)
    where
      plain-key : (t : Text) → empty (suffix t) ≡ true → stem t ≡ t → key_of t ≡ word_key t
      plain-key t q s = whole-key t q ∙ ap word_key s

  pub key-matches : key_matches w (key_of t) ≡ node_matches w t
  unfolding key_matches shown_key node_matches if◌then◌otherwise◌
  key-matches = go (numbered w)
    where
      go : (b : Bool) → (let k = if b && ltb (key_of t) no_number then key_of t % suffix_place otherwise key_of t in eqb k (word_key (short_form w)) || eqb k (word_key (long_form w)))
          ≡ (if b then matches w (stem t) && every digit (suffix t) otherwise matches w t)
      go true = rw (key-digits t e) (takes-number (every digit (suffix t)) refl)
      go false = takes_none (empty (suffix t)) refl
