-- How far a text and a word's letters agree tells whether the text spells the word (`word-is`, by induction over both). `Agreeing` is the walk's
-- invariant: the first n bytes agree, and the rest is to be compared.
use mathlib.Core.Path.{◌≡◌, refl, sym, ◌∙◌, ap}
use mathlib.Core.Bool.{Bool, true, false, ◌&&◌, ◌||◌}
use mathlib.Core.List.{[], ◌∷◌, map}
use Prim.Native.Nat.{ℕ, zero, suc, ◌+◌, ◌≤◌, ◌<◌, ◌-◌}
use native.Mathlib.Numerals.{add-one}
use native.Mathlib.Omega.{arith}
use lib.Dec.{eqb, eqb-zero-suc, eqb-suc-zero, eqb-suc-suc}
use lib.ListN.{length, get_or, take, drop}
use lib.Seq.{drop-cons, take-length}
use borrow.Author.Tests.{eq-eqb, ne_eqb}
use Rattle.registers.specs.Text.{Text, if◌then◌otherwise◌, capital, empty, same}
use Rattle.registers.specs.Words.{short_form, long_form, matches}
use Rattle.interpreter.specs.WordsParts.{word_count, word_at, agreed, word_cell, form_length, word_size}
use Rattle.interpreter.proofs.words.Forms.{forms, short-cell, long-cell, short-is, short-small, long-at}

pub agreed-most : (t l : Text) → (agreed t l ≤ length t) × (agreed t l ≤ length l)
unfolding agreed if◌then◌otherwise◌
agreed-most [] l = (omega arith, omega arith)
agreed-most (b ∷ bs) [] = (omega arith, omega arith)
agreed-most (b ∷ bs) (x ∷ xs) = go (eqb (capital b) x) (agreed-most bs xs)
  where
    go : (e : Bool) → (agreed bs xs ≤ length bs) × (agreed bs xs ≤ length xs)
        → ((if e then suc (agreed bs xs) otherwise 0) ≤ suc (length bs)) × ((if e then suc (agreed bs xs) otherwise 0) ≤ suc (length xs))
    go true m = (omega arith, omega arith)
    go false m = (omega arith, omega arith)

-- a text is the first k letters exactly if so many agree and it ends there
pub form-is : (t l : Text) (k : ℕ) → k ≤ length l → same (map capital t) (take k l) ≡ (eqb (agreed t l) k && empty (drop (agreed t l) t))
unfolding same agreed if◌then◌otherwise◌
form-is [] l zero h = refl
form-is [] [] (suc k) h = absurd (omega arith)
form-is [] (x ∷ l) (suc k) h = rw (eqb-zero-suc k)
form-is (b ∷ bs) [] zero h = refl
form-is (b ∷ bs) (x ∷ l) zero h = go (eqb (capital b) x)
  where
    go : (c : Bool) → false ≡ (eqb (if c then suc (agreed bs l) otherwise 0) 0 && empty (drop (if c then suc (agreed bs l) otherwise 0) (b ∷ bs)))
    go true = rw (eqb-suc-zero (agreed bs l))
    go false = refl
form-is (b ∷ bs) [] (suc k) h = absurd (omega arith)
form-is (b ∷ bs) (x ∷ l) (suc k) h = go (eqb (capital b) x) (form-is bs l k (omega arith))
  where
    go : (c : Bool) → same (map capital bs) (take k l) ≡ (eqb (agreed bs l) k && empty (drop (agreed bs l) bs))
        → (c && same (map capital bs) (take k l))
        ≡ (eqb (if c then suc (agreed bs l) otherwise 0) (suc k) && empty (drop (if c then suc (agreed bs l) otherwise 0) (b ∷ bs)))
    go true ih = rw (eqb-suc-suc (agreed bs l) k) ih
    go false ih = rw (eqb-zero-suc k)

pub word-is : (t : Text) (w : ℕ) → w < word_count
    → let n = agreed t (long_form (word_at w)) in
    matches (word_at w) t ≡ (form_length w n && empty (drop n t))
unfolding matches form_length
word-is t w h =
    let short = short_form (word_at w) in
    let long = long_form (word_at w) in
    let c = map capital t in
    let a = ap (same c) (short-is w h) ∙ form-is t long (length short) (short-small w h) in
    let b = ap (same c) (sym (take-length long)) ∙ form-is t long (length long) (omega arith) in
    rw (short-cell w h, long-cell w h, a, b)
    (go (eqb (agreed t long) (length short)) (eqb (agreed t long) (length long)) (empty (drop (agreed t long) t)))
  where
    go : (a b c : Bool) → ((a && c) || (b && c)) ≡ ((a || b) && c)
    go true b true = refl
    go true true false = refl
    go true false false = refl
    go false b c = refl

-- ---- the walk over the letters

-- so many first bytes of the text are the word's letters, and the rest is to be compared
pub record Agreeing (t : Text) (w n : ℕ) : Type 0 where
  pub word : w < word_count
  pub most : word_cell w 1 ≤ word_size - 2
  pub all : n + agreed (drop n t) (drop n (long_form (word_at w))) ≡ agreed t (long_form (word_at w))

pub agreeing-none : (t : Text) (w : ℕ) → w < word_count → Agreeing t w 0
agreeing-none t w h = record { word = h; most = (forms w h).2; all = omega arith }

module _ {t : Text} {w n : ℕ} (s : Agreeing t w n) where
  abbrev letters : Text
  letters = long_form (word_at w)

  pub agreeing-on : n < length t → n < word_cell w 1 → capital (get_or t n 0) ≡ word_cell w (n + 2) → Agreeing t w (n + 1)
  unfolding agreed if◌then◌otherwise◌
  agreeing-on l m e =
      let c = long-cell w s.word in
      let k : n < length letters = omega arith in
      let q : agreed (drop n t) (drop n letters) ≡ suc (agreed (drop (suc n) t) (drop (suc n) letters)) =
      rw (drop-cons t n 0 l, drop-cons letters n 0 k, eq-eqb (capital (get_or t n 0)) (get_or letters n 0) (e ∙ sym (long-at w s.word n k))) in
      let r = s.all in
      record { word = s.word; most = s.most; all = rw add-one (omega arith) }

  pub agreeing-miss : n < length t → n < word_cell w 1 → (capital (get_or t n 0) ≡ word_cell w (n + 2) → ⊥) → n ≡ agreed t letters
  unfolding agreed if◌then◌otherwise◌
  agreeing-miss l m ne =
      let c = long-cell w s.word in
      let k : n < length letters = omega arith in
      let q : agreed (drop n t) (drop n letters) ≡ 0 =
      rw (drop-cons t n 0 l, drop-cons letters n 0 k, ne_eqb (capital (get_or t n 0)) (get_or letters n 0) (λ e. ne (e ∙ long-at w s.word n k))) in
      let r = s.all in
      omega arith

  pub agreeing-end : length t ≤ n → n ≡ agreed t letters
  agreeing-end l = let m = (agreed-most t letters).0 in let r = s.all in omega arith

  pub agreeing-full : word_cell w 1 ≤ n → n ≡ agreed t letters
  agreeing-full l = let c = long-cell w s.word in let m = (agreed-most t letters).1 in let r = s.all in omega arith
