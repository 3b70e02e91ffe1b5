-- Check 5 on a word. The loop's invariant, `Searching`: what is found among the words not yet tried is what is found among all. No text with
-- another byte than letters, digits and underscore spells a word (`word_bytes`), so that the search alone refuses it.
use mathlib.Core.Path.{◌≡◌, refl}
use mathlib.Core.Bool.{Bool, true, false, ◌&&◌, ◌||◌, false≢true, or-true}
use mathlib.Core.List.{List, [], ◌∷◌, map}
use Prim.Native.Nat.{ℕ, suc, ◌+◌, ◌-◌, ◌≤◌, ◌<◌}
use Prim.Native.String.{String}
use native.Mathlib.Omega.{arith}
use native.Mathlib.Numerals.{add-one}
use lib.ListN.{length, take, drop, length-take, length-drop, drop_of_length-le}
use lib.Seq.{drop-cons, get_or-drop, get_or-take}
use lib.Dec.{eqb}
use borrow.Author.Tests.{eqb-true}
use Rattle.std.specs.Prelude.{Option, Some, None, Result, Ok, Err}
use Rattle.registers.specs.Error.{meant}
use Rattle.registers.specs.declared.error.Error.{Error}
use Rattle.registers.specs.Text.{Text, if◌then◌otherwise◌, bytes, between, small, letter, digit, word_byte, capital, every, first, same}
use Rattle.registers.specs.Check.{Checked, refused, passed, ◌>>=◌, ◌>>◌, check}
use Rattle.registers.specs.Words.{short_form, long_form, matches}
use Rattle.registers.specs.Number.{number, sign, point}
use Rattle.registers.specs.declared.number.Decimal.{Decimal}
use Rattle.registers.proofs.Tests.{and_both, and-true}
use Rattle.interpreter.proofs.Checks.{apart}
use Rattle.interpreter.specs.WordsParts.{word_count, word_list, word_at}
use Rattle.registers.specs.declared.suffix.Quantity.{Quantity}
use Rattle.interpreter.specs.ParameterParts.{parameter_where, meant_figure}
use Rattle.interpreter.specs.Parameter.{Given, Word, Figure, find_word, parameter, read_word, read_figure}
use Rattle.interpreter.proofs.Lists.{every-at}

-- so many words of the table, the first of them at a place
abbrev from : ℕ → ℕ → List String
from at count = take count (drop at word_list)

from-length : (at count : ℕ) → at + count ≤ word_count → length (from at count) ≡ count
unfolding word_list
from-length at count room = simp (length-take, length-drop) (omega arith)

-- ---- the words have letters, digits and underscores only, and so has what spells one

abbrev plain : String → Bool
plain w = every word_byte (short_form w) && every word_byte (long_form w)

all_plain : every plain word_list ≡ true
unfolding word_list short_form long_form bytes small capital letter digit word_byte if◌then◌otherwise◌
all_plain = refl

capital-in : (b : ℕ) → word_byte (capital b) ≡ true → word_byte b ≡ true
unfolding capital word_byte letter if◌then◌otherwise◌
capital-in b h = go (small b) refl h
  where
    go : (s : Bool) → small b ≡ s → word_byte (if s then b - 32 otherwise b) ≡ true → word_byte b ≡ true
    go true e h = rw (e, or-true (between 65 90 b))
    go false e h = h

spelled-in : (t l : Text) → same (map capital t) l ≡ true → every word_byte l ≡ true → every word_byte t ≡ true
unfolding same
spelled-in [] l e h = refl
spelled-in (b ∷ t) [] e h = absurd (false≢true e)
spelled-in (b ∷ t) (x ∷ l) e h =
    let p = and_both (eqb (capital b) x) (same (map capital t) l) e in
    let q = and_both (word_byte x) (every word_byte l) h in
    and-true (capital-in b (rw (eqb-true (capital b) x p.0) q.0)) (spelled-in t l p.1 q.1)

word_bytes : (i : ℕ) (t : Text) → i < word_count → matches (word_at i) t ≡ true → every word_byte t ≡ true
unfolding word_at word_list matches
word_bytes i t h e = go (same (map capital t) (short_form w)) refl e
  where
    w : String
    w = word_at i

    is : (every word_byte (short_form w) ≡ true) × (every word_byte (long_form w) ≡ true)
    is = and_both (every word_byte (short_form w)) (every word_byte (long_form w)) (every-at plain word_list i "" all_plain h)

    go : (s : Bool) → same (map capital t) (short_form w) ≡ s → (s || same (map capital t) (long_form w)) ≡ true → every word_byte t ≡ true
    go true q e = spelled-in t (short_form w) q is.0
    go false q e = spelled-in t (long_form w) e is.1

-- ---- the search: what is found among the words that are not tried yet is what is found among all

pub record Searching (at count : ℕ) (t : Text) (n : ℕ) : Type 0 where
  pub room : at + count ≤ word_count
  pub left : find_word n (drop n (from at count)) t ≡ find_word 0 (from at count) t

module _ {at count : ℕ} {t : Text} {n : ℕ} (w : Searching at count t n) where
  next : n < count → drop n (from at count) ≡ word_at (at + n) ∷ drop (n + 1) (from at count)
  unfolding word_at
  next h =
      let l : n < length (from at count) = omega (arith, from-length at count w.room) in
      rw (drop-cons (from at count) n "" l, add-one n, get_or-take, get_or-drop)

  pub search-hit : n < count → matches (word_at (at + n)) t ≡ true → passed (Word n) ≡ read_word (from at count) t
  unfolding find_word read_word check ◌>>◌ if◌then◌otherwise◌
  search-hit h e =
      let room = w.room in
      rw (word_bytes (at + n) t (omega arith) e) (rw (next h, e) at w.left)

  pub search-miss : n < count → matches (word_at (at + n)) t ≡ false → Searching at count t (n + 1)
  unfolding find_word if◌then◌otherwise◌
  search-miss h e = record { room = w.room; left = rw (add-one n) (rw (next h, e, add-one n) at w.left) }

  pub search-end : count ≤ n → refused 141 ≡ read_word (from at count) t
  unfolding find_word read_word check ◌>>◌
  search-end h =
      let l : length (from at count) ≤ n = omega (arith, from-length at count w.room) in
      rw (← rw (drop_of_length-le (from at count) l) at w.left) (go (every word_byte t))
    where
      go : (b : Bool) → ◌≡◌ {A = Checked Given} (refused 141) (check 141 b >> refused 141)
      go true = refl
      go false = refl

-- ---- check 5 by the first byte

pub starts-word : (ws : List String) (numbers : Option Quantity) (t : Text) → letter (first t) ≡ true → read_word ws t ≡ parameter_where ws numbers t
unfolding parameter_where parameter read_word if◌then◌otherwise◌
starts-word ws (Some q) t l = rw l
starts-word ws None t l = rw l

-- no word is read then, whatever words may be given
pub no-letter : (ws : List String) (numbers : Option Quantity) (t : Text) → letter (first t) ≡ false → parameter_where [] numbers t ≡ parameter_where ws numbers t
unfolding parameter_where parameter if◌then◌otherwise◌
no-letter ws (Some q) t l = rw l
no-letter ws None t l = rw l

module _ (t : Text) (l : letter (first t) ≡ false) where
  abbrev starts : Bool
  starts = digit (first t) || sign (first t) || point (first t)

  pub starts-figure : (q : Quantity) (r : Result Decimal Error) → meant r ≡ number q t → starts ≡ true → meant_figure r ≡ parameter_where [] (Some q) t
  unfolding parameter_where parameter read_figure check ◌>>◌ ◌>>=◌ if◌then◌otherwise◌
  starts-figure q (Ok d) is e = rw (l, e, ← is)
  starts-figure q (Err f) is e = rw (l, e, ← is)

  pub starts-neither : (q : Quantity) → starts ≡ false → refused 104 ≡ parameter_where [] (Some q) t
  unfolding parameter_where parameter check ◌>>◌ if◌then◌otherwise◌
  starts-neither q e = rw (l, e)

  pub starts-nothing : refused 104 ≡ parameter_where [] None t
  unfolding parameter_where parameter check ◌>>◌ if◌then◌otherwise◌
  starts-nothing = rw l (go starts)
    where
      go : (d : Bool) → ◌≡◌ {A = Checked Given} (refused 104) (if d then refused 104 otherwise refused 104)
      go true = refl
      go false = refl

-- as the definition has it, what numbers measure doesn't matter where none may be given
pub where-is : (ws : List String) (also : Bool) (q : Quantity) (t : Text) → parameter_where ws (if also then Some q otherwise None) t ≡ parameter ws also q t
unfolding parameter_where parameter check ◌>>◌ if◌then◌otherwise◌
where-is ws true q t = refl
where-is ws false q t = refl

-- ---- what a search finds has a place in the list

found_below : (i : ℕ) (ws : List String) (t : Text) (n : ℕ) → find_word i ws t ≡ passed (Word n) → n < i + length ws
unfolding find_word if◌then◌otherwise◌
found_below i [] t n e = absurd (apart _ _ e)
found_below i (w ∷ ws) t n e = go (matches w t) (found_below (suc i) ws t n) e
  where
    go : (b : Bool) → (find_word (suc i) ws t ≡ passed (Word n) → n < suc i + length ws)
        → (if b then passed (Word i) otherwise find_word (suc i) ws t) ≡ passed (Word n) → n < i + suc (length ws)
    go true ih e = let z : n ≡ i = cc in omega arith
    go false ih e = omega (arith, ih e)

-- a number is no word
no_word : (q : Quantity) (t : Text) (n : ℕ) → read_figure q t ≡ passed (Word n) → ⊥
unfolding read_figure ◌>>=◌
no_word q t n e = go (number q t) e
  where
    go : (r : Checked Decimal) → (r >>= λ d. passed (Figure d)) ≡ passed (Word n) → ⊥
    go (refused m) e = apart _ _ e
    go (passed d) e = let z : ◌≡◌ {A = ℕ} 0 1 = cc in omega arith

pub word-placed : (ws : List String) (numbers : Bool) (q : Quantity) (t : Text) (n : ℕ) → parameter ws numbers q t ≡ passed (Word n) → n < length ws
unfolding parameter read_word check ◌>>◌ if◌then◌otherwise◌
word-placed ws numbers q t n e = go (letter (first t)) (every word_byte t) (digit (first t) || sign (first t) || point (first t)) numbers e
  where
    go : (l w d b : Bool)
        → (if l then (check 141 w >> find_word 0 ws t) otherwise (if d then (check 104 b >> read_figure q t) otherwise refused 104)) ≡ passed (Word n)
        → n < length ws
    go true true d b e = omega (arith, found_below 0 ws t n e)
    go true false d b e = absurd (apart _ _ e)
    go false w true true e = absurd (no_word q t n e)
    go false w true false e = absurd (apart _ _ e)
    go false w false b e = absurd (apart _ _ e)

-- a word is no number, and a query takes none
no-figure : (i : ℕ) (ws : List String) (t : Text) (d : Decimal) → find_word i ws t ≡ passed (Figure d) → ⊥
unfolding find_word if◌then◌otherwise◌
no-figure i [] t d e = apart _ _ e
no-figure i (w ∷ ws) t d e = go (matches w t) (no-figure (suc i) ws t d) e
  where
    go : (b : Bool) → (find_word (suc i) ws t ≡ passed (Figure d) → ⊥) → (if b then passed (Word i) otherwise find_word (suc i) ws t) ≡ passed (Figure d) → ⊥
    go true ih e = let z : ◌≡◌ {A = ℕ} 0 1 = cc in omega arith
    go false ih e = ih e

pub asked-word : (ws : List String) (q : Quantity) (t : Text) (d : Decimal) → parameter ws false q t ≡ passed (Figure d) → ⊥
unfolding parameter read_word check ◌>>◌ if◌then◌otherwise◌
asked-word ws q t d e = go (letter (first t)) (every word_byte t) (digit (first t) || sign (first t) || point (first t)) e
  where
    go : (l w b : Bool)
        → (if l then (check 141 w >> find_word 0 ws t) otherwise (if b then (check 104 false >> read_figure q t) otherwise refused 104)) ≡ passed (Figure d)
        → ⊥
    go true true b e = no-figure 0 ws t d e
    go true false b e = apart _ _ e
    go false w true e = apart _ _ e
    go false w false e = apart _ _ e
