-- Laws of a byte's code in a name: a letter's is its five lowest bits, the same in either case, that of an underscore is 31, and
-- that of any other byte 0. So a code tells a letter apart from all other bytes.
use mathlib.Core.Path.{◌≡◌, refl, sym, ◌∙◌}
use mathlib.Core.Bool.{Bool, true, false, not, ◌&&◌, ◌||◌, false≢true}
use Prim.Native.Nat.{ℕ, ◌+◌, ◌-◌, ◌%◌, ◌≤◌, ◌<◌}
use native.Mathlib.Omega.{arith}
use Prim.Native.Char.{code}
use lib.Dec.{leb, eqb}
use borrow.Author.Tests.{leb-true, le-leb, eqb-true}
use Rattle.registers.specs.Text.{if◌then◌otherwise◌, between, letter, small, digit, word_byte, capital}
use Rattle.registers.proofs.Tests.{and_both}
use Rattle.interpreter.specs.NameParts.{code_of, code_count, stem_byte}

-- a capital letter
abbrev pub upper : ℕ → Bool
upper x = between 65 90 x

bounds : (low high b : ℕ) → between low high b ≡ true → (low ≤ b) × (b ≤ high)
bounds low high b e =
    let p = and_both (leb low b) (leb b high) e in
    (leb-true low b p.0, leb-true b high p.1)

small-bounds : (b : ℕ) → small b ≡ true → (97 ≤ b) × (b ≤ 122)
unfolding small
small-bounds b e = bounds 97 122 b e

-- ---- by the kind of byte

code-letter : (b : ℕ) → letter b ≡ true → code_of b ≡ b % code_count
unfolding code_of if◌then◌otherwise◌
code-letter b e = rw e

code_other : (b : ℕ) → letter b ≡ false → eqb b (code "_") ≡ true → code_of b ≡ code_count - 1
unfolding code_of if◌then◌otherwise◌
code_other b e f = rw (e, f)

pub letter-word : (b : ℕ) → letter b ≡ true → word_byte b ≡ true
unfolding word_byte
letter-word b e = rw e

pub letter-stem : (b : ℕ) → letter b ≡ true → stem_byte b ≡ true
letter-stem b e = rw e

pub code-none : (b : ℕ) → stem_byte b ≡ false → code_of b ≡ 0
unfolding code_of if◌then◌otherwise◌
code-none b e = go (letter b) (eqb b (code "_")) e
  where
    go : (l u : Bool) → (l || u) ≡ false → (if l then b % code_count otherwise (if u then code_count - 1 otherwise 0)) ≡ 0
    go true u q = absurd (false≢true (sym q))
    go false true q = absurd (false≢true (sym q))
    go false false q = refl

-- a letter's code by its capital
capital-code : (b : ℕ) → letter b ≡ true → capital b ≡ code_of b + 64
unfolding letter capital if◌then◌otherwise◌
capital-code b e = rw (code-letter b e) (go (small b) refl e)
  where
    go : (s : Bool) → small b ≡ s → (between 65 90 b || s) ≡ true → (if s then b - 32 otherwise b) ≡ b % code_count + 64
    go true q k = let h = small-bounds b q in omega arith
    go false q k = up (upper b) refl k
      where
        up : (u : Bool) → upper b ≡ u → (u || false) ≡ true → b ≡ b % code_count + 64
        up true r l = let h = bounds 65 90 b r in omega arith
        up false r l = absurd (false≢true l)

pub upper-letter : (x : ℕ) → upper x ≡ true → letter x ≡ true
unfolding letter
upper-letter x e = rw e

upper-code : (x : ℕ) → upper x ≡ true → x ≡ code_of x + 64
upper-code x e = let h = bounds 65 90 x e in rw (code-letter x (upper-letter x e)) (omega arith)

-- ---- every code

pub code-small : (b : ℕ) → code_of b < code_count
unfolding code_of if◌then◌otherwise◌
code-small b = go (letter b) (eqb b (code "_"))
  where
    go : (l w : Bool) → (if l then b % code_count otherwise (if w then code_count - 1 otherwise 0)) < code_count
    go true w = omega arith
    go false true = omega arith
    go false false = omega arith

pub code-some : (b : ℕ) → stem_byte b ≡ true → 0 < code_of b
unfolding letter
code-some b e = go (letter b) refl e
  where
    go : (l : Bool) → letter b ≡ l → (l || eqb b (code "_")) ≡ true → 0 < code_of b
    go true q k = rw (code-letter b q) (up (upper b) refl (small b) refl q)
      where
        up : (u : Bool) → upper b ≡ u → (s : Bool) → small b ≡ s → letter b ≡ true → 0 < b % code_count
        up true r s p k = let h = bounds 65 90 b r in omega arith
        up false r true p k = let h = small-bounds b p in omega arith
        up false r false p k = absurd (false≢true (rw (r, p) at k))
    go false q k = rw (code_other b q k) (omega arith)

-- a byte with the code of a capital letter is that letter, in either case
pub same-letter : (b x : ℕ) → upper x ≡ true → code_of b ≡ code_of x → capital b ≡ x
same-letter b x e q = go (letter b) refl
  where
    go : (l : Bool) → letter b ≡ l → capital b ≡ x
    go true k = capital-code b k ∙ rw q (sym (upper-code x e))
    go false k = absurd (other (eqb b (code "_")) refl)
      where
        other : (u : Bool) → eqb b (code "_") ≡ u → ⊥
        other true r = let h = bounds 65 90 x e in let c = upper-code x e in let z = code_other b k r in omega arith
        other false r = let h = bounds 65 90 x e in let c = upper-code x e in let z = code-none b (rw (k, r)) in omega arith

pub capital-same : (b : ℕ) → code_of (capital b) ≡ code_of b
unfolding capital letter if◌then◌otherwise◌
capital-same b = go (small b) refl
  where
    go : (s : Bool) → small b ≡ s → code_of (if s then b - 32 otherwise b) ≡ code_of b
    go true q =
        let h = small-bounds b q in
        let u : upper (b - 32) ≡ true = rw (le-leb 65 (b - 32) (omega arith), le-leb (b - 32) 90 (omega arith)) in
        let l : letter b ≡ true = two (upper b) (small b) q in
        rw (code-letter (b - 32) (upper-letter (b - 32) u), code-letter b l) (omega arith)
      where
        two : (u s : Bool) → s ≡ true → (u || s) ≡ true
        two true s k = refl
        two false s k = k
    go false q = refl

-- ---- a name's bytes before its first digit

pub digit-alone : (b : ℕ) → digit b ≡ true → (letter b ≡ false) × (eqb b (code "_") ≡ false)
unfolding digit letter
digit-alone b e =
    let h = bounds 48 57 b e in
    (up (upper b) refl (small b) refl h, under (eqb b (code "_")) refl h)
  where
    up : (u : Bool) → upper b ≡ u → (s : Bool) → small b ≡ s → (48 ≤ b) × (b ≤ 57) → (upper b || small b) ≡ false
    up true r s p h = absurd (let k = bounds 65 90 b r in omega arith)
    up false r true p h = absurd (let k = small-bounds b p in omega arith)
    up false r false p h = rw (r, p)

    under : (u : Bool) → eqb b (code "_") ≡ u → (48 ≤ b) × (b ≤ 57) → eqb b (code "_") ≡ false
    under true r h = absurd (let k = eqb-true b (code "_") r in omega arith)
    under false r h = r

pub stem-is : (b : ℕ) → stem_byte b ≡ (word_byte b && not (digit b))
unfolding word_byte
stem-is b = go (letter b) refl (digit b) refl (eqb b (code "_")) refl
  where
    go : (l : Bool) → letter b ≡ l → (d : Bool) → digit b ≡ d → (u : Bool) → eqb b (code "_") ≡ u → (l || u) ≡ ((l || d || u) && not d)
    go true p true q u r = absurd (false≢true (sym (digit-alone b q).0 ∙ p))
    go true p false q u r = refl
    go false p true q true r = absurd (false≢true (sym (digit-alone b q).1 ∙ r))
    go false p true q false r = refl
    go false p false q true r = refl
    go false p false q false r = refl
