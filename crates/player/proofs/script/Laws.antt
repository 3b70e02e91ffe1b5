-- A script's number, read one digit at a time. `Reading` is the loop's invariant: the digits left, read after the number so far, spell what the
-- whole text does.
use Rattle.std.proofs.Common.{◌≡◌, ℕ, Bool, true, false, ◌+◌, ◌-◌, ◌*◌, ◌^◌, ◌<◌, ◌≤◌, ◌==◌, nat_lt, Option, Some, None, [], ◌∷◌, length, get_or, drop, sym, refl, ap, ◌∙◌, add-one, arith, drop_of_length-le, drop-cons, eqb-true, lt-ltb, le-ltb, le-leb, ltb-true, ltb-false}
use Rattle.std.specs.Char.{digit_value}
use Rattle.std.specs.Option.{SomeIff}
use Rattle.std.proofs.lemmas.Str.{digit_value_digit}
use Rattle.std.proofs.lemmas.Str.Parse.{digit_from_value}
use Rattle.registers.specs.Text.{Text, if◌then◌otherwise◌, digit, every}
use Rattle.registers.specs.Number.{numeral_from}
use Rattle.registers.proofs.text.Laws.{digit-bounds}
use Rattle.player.specs.ScriptParts.{held, with_digit, decimal_from, decimal_in}

-- ---- what 64 bits hold

pub held-some : (n : ℕ) → n < 2 ^ 64 → held n ≡ Some n
unfolding held if◌then◌otherwise◌
held-some n h = rw (lt-ltb n (2 ^ 64) h)

pub held-none : (n : ℕ) → 2 ^ 64 ≤ n → held n ≡ None
unfolding held if◌then◌otherwise◌
held-none n h = rw (le-ltb n (2 ^ 64) h)

pub held-is : (r : Option ℕ) (n : ℕ) → SomeIff r (n < 2 ^ 64) n → r ≡ held n
held-is None n h = sym (held-none n (omega (arith, h)))
held-is (Some m) n h = ap Some h.1 ∙ sym (held-some n h.0)

pub of-some : (n m : ℕ) → held n ≡ Some m → (m ≡ n) × (m < 2 ^ 64)
unfolding held if◌then◌otherwise◌
of-some n m e = go (nat_lt n (2 ^ 64)) refl
  where
    go : (l : Bool) → nat_lt n (2 ^ 64) ≡ l → (m ≡ n) × (m < 2 ^ 64)
    go true l = let is : Some n ≡ Some m = rw l at e in let same : m ≡ n = cc in (same, rw same (ltb-true n (2 ^ 64) l))
    go false l = let is : None ≡ Some m = rw l at e in absurd cc

pub of-none : (n : ℕ) → held n ≡ None → 2 ^ 64 ≤ n
unfolding held if◌then◌otherwise◌
of-none n e = go (nat_lt n (2 ^ 64)) refl
  where
    go : (l : Bool) → nat_lt n (2 ^ 64) ≡ l → 2 ^ 64 ≤ n
    go true l = let is : Some n ≡ None = rw l at e in absurd cc
    go false l = ltb-false n (2 ^ 64) l

grows : (n : ℕ) (t : Text) → n ≤ numeral_from n t
unfolding numeral_from
grows n [] = omega arith
grows n (b ∷ t) = let more = grows (n * 10 + (b - 48)) t in omega (arith, more)

-- ---- one digit more

digit-yes : (b : ℕ) → digit_value b < 10 → digit b ≡ true
unfolding digit
digit-yes b h = let r = digit_from_value b h in rw (le-leb 48 b r.0, le-leb b 57 r.1)

pub with-other : (n b : ℕ) → (digit_value b < 10 → ⊥) → with_digit n b ≡ None
unfolding with_digit if◌then◌otherwise◌
with-other n b h = go (digit b) refl
  where
    go : (e : Bool) → digit b ≡ e → with_digit n b ≡ None
    go true q = let r = digit-bounds b (rw q tt) in let v = digit_value_digit b r in absurd (h (omega (arith, r.1, v)))
    go false q = rw q

pub with-one : (n b : ℕ) → digit_value b < 10 → with_digit n b ≡ held (n * 10 + digit_value b)
unfolding with_digit if◌then◌otherwise◌
with-one n b h =
    let v = digit_value_digit b (digit_from_value b h) in
    let e : n * 10 + (b - 48) ≡ n * 10 + digit_value b = omega (arith, v) in
    rw (digit-yes b h) (ap held e)

-- a digit that was read, and what it leaves to spell
module _ (n b : ℕ) where
  pub one-is : (m : ℕ) → with_digit n b ≡ Some m → (digit b ≡ true) × (m ≡ n * 10 + (b - 48)) × (m < 2 ^ 64)
  unfolding with_digit if◌then◌otherwise◌
  one-is m e = go (digit b) refl
    where
      go : (d : Bool) → digit b ≡ d → (digit b ≡ true) × (m ≡ n * 10 + (b - 48)) × (m < 2 ^ 64)
      go true d = let is = of-some (n * 10 + (b - 48)) m (rw d at e) in (d, is.0, is.1)
      go false d = let is : None ≡ Some m = rw d at e in absurd cc

  pub with-some : (m : ℕ) (t : Text) → with_digit n b ≡ Some m → decimal_from n (b ∷ t) ≡ decimal_from m t
  unfolding decimal_from numeral_from
  with-some m t e = let is = one-is m e in rw (is.0, is.1)

  pub with-none : (t : Text) → with_digit n b ≡ None → decimal_from n (b ∷ t) ≡ None
  unfolding decimal_from numeral_from with_digit if◌then◌otherwise◌
  with-none t e = go (digit b) refl (every digit t) refl
    where
      go : (d : Bool) → digit b ≡ d → (l : Bool) → every digit t ≡ l → decimal_from n (b ∷ t) ≡ None
      go true d true l =
          let m = n * 10 + (b - 48) in
          let big = of-none m (rw d at e) in
          let more = grows m t in
          rw (d, l) (held-none (numeral_from m t) (omega (arith, big, more)))
      go true d false l = rw (d, l)
      go false d l k = rw d

-- ---- a whole text

with_none : (n : ℕ) → n < 2 ^ 64 → decimal_from n [] ≡ Some n
unfolding decimal_from if◌then◌otherwise◌ numeral_from
with_none n h = held-some n h

pub record Reading (t : Text) (n i : ℕ) : Type 0 where
  pub low : n < 2 ^ 64
  pub spells : decimal_from n (drop i t) ≡ decimal_in t

pub nothing-spelt : (t : Text) → true ≡ (length t == 0) → None ≡ decimal_in t
unfolding decimal_in
nothing-spelt [] h = refl
nothing-spelt (b ∷ t) h = absurd (omega (arith, eqb-true (length (b ∷ t)) 0 (sym h)))

pub reading-start : (t : Text) → false ≡ (length t == 0) → Reading t 0 0
unfolding decimal_in
reading-start [] h = absurd cc
reading-start (b ∷ t) h = record { low = omega arith; spells = refl }

module _ {t : Text} {n i : ℕ} (g : Reading t n i) where
  pub reading-more : i < length t → (m : ℕ) → Some m ≡ with_digit n (get_or t i 0) → Reading t m (i + 1)
  reading-more h m e =
      let is = rw (drop-cons t i 0 h) at g.spells in
      record { low = (one-is n _ m (sym e)).2; spells = rw add-one (sym (with-some n _ m _ (sym e)) ∙ is) }

  pub reading-stop : i < length t → None ≡ with_digit n (get_or t i 0) → None ≡ decimal_in t
  reading-stop h e = sym (with-none n _ _ (sym e)) ∙ rw (drop-cons t i 0 h) at g.spells

  pub reading-end : length t ≤ i → Some n ≡ decimal_in t
  reading-end h = sym (with_none n g.low) ∙ rw (drop_of_length-le t h) at g.spells
