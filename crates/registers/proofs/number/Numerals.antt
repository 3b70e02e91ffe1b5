-- Digits as a number, held at a bound, and how many digits a number has. That thirteen digits make 10 to the power 12 or more, and
-- twelve less, is by induction over the digits: each multiplies by ten what stands before it.
use mathlib.Core.Path.{◌≡◌, refl, ap, sym, ◌∙◌}
use mathlib.Core.Bool.{Bool, true, false}
use mathlib.Core.List.{[], ◌∷◌, ◌++◌}
use Prim.Native.Nat.{ℕ, suc, ◌+◌, ◌-◌, ◌*◌, ◌^◌, min, ◌≤◌, ◌<◌}
use Prim.Native.Char.{code}
use native.Mathlib.Omega.{arith}
use native.Mathlib.Nat.{pow-suc, pow-le-pow_right, mul-le-mul_right}
use lib.Dec.{T, leb, ltb, eqb}
use lib.ListN.{length, get_or, drop}
use mir.Facts.{and_yes}
use borrow.Author.Tests.{le-leb, lt-leb, leb-true, leb-false, eqb-true, eqb-false}
use Rattle.registers.specs.Text.{Text, if◌then◌otherwise◌, digit, every, start, after}
use Rattle.registers.specs.Number.{most_digits, numeral_from}
use Rattle.registers.specs.NumberParts.{held, DigitsRead}
use Rattle.registers.proofs.text.Laws.{start-more, end-drop, end-within, digit-bounds}

-- two tests that say the same of their numbers are equal; ltb a b is leb (suc a) b
pub same_test : (a b c d : ℕ) → (a ≤ b → c ≤ d) → (b < a → d < c) → leb a b ≡ leb c d
same_test a b c d f g = go (leb a b) refl
  where
    go : (e : Bool) → leb a b ≡ e → e ≡ leb c d
    go true q = sym (le-leb c d (f (leb-true a b q)))
    go false q = sym (lt-leb c d (g (leb-false a b q)))

-- a number held at a bound before further digits is the same held number
pub held-before : (bound n : ℕ) (ds : Text) → min bound (numeral_from (min bound n) ds) ≡ min bound (numeral_from n ds)
unfolding numeral_from
held-before bound n [] = omega arith
held-before bound n (d ∷ ds) =
    let next : min bound (min bound n * 10 + (d - code "0")) ≡ min bound (n * 10 + (d - code "0")) = omega arith in
    sym (held-before bound (min bound n * 10 + (d - code "0")) ds)
    ∙ ap (λ (m : ℕ). min bound (numeral_from m ds)) next
    ∙ held-before bound (n * 10 + (d - code "0")) ds

pub numeral-append : (n : ℕ) (a b : Text) → numeral_from n (a ++ b) ≡ numeral_from (numeral_from n a) b
unfolding numeral_from
numeral-append n [] b = refl
numeral-append n (x ∷ a) b = numeral-append (n * 10 + (x - code "0")) a b

-- ---- how many digits, by the number that they make

one-more : (n x p r : ℕ) → x ≤ 9 → (n * 10 + x) * p ≤ r → r < (n * 10 + x + 1) * p
    → (n * (p * 10) ≤ r) × (r < (n + 1) * (p * 10))
one-more n x p r h low high = let a = mul-le-mul_right p h in (omega arith, omega arith)

-- so many digits after n make a number from n to n + 1, times 10 to the power of their count
numeral-bounds : (n : ℕ) (ds : Text) → T (every digit ds)
    → (n * 10 ^ length ds ≤ numeral_from n ds) × (numeral_from n ds < (n + 1) * 10 ^ length ds)
unfolding numeral_from
numeral-bounds n [] t = (omega arith, omega arith)
numeral-bounds n (d ∷ ds) t =
    let both = and_yes (digit d) (every digit ds) t in
    let b = digit-bounds d both.0 in
    let ih = numeral-bounds (n * 10 + (d - code "0")) ds both.1 in
    rw (pow-suc 10 (length ds))
    (one-more n (d - code "0") (10 ^ length ds) (numeral_from (n * 10 + (d - code "0")) ds) (omega arith) ih.0 ih.1)

-- "more than 12 mantissa digits after leading zeros" make a number of 10 to the power 12 or more, and twelve a lower one
pub few-digits : (ds : Text) → T (every digit ds) → leb (length (after (eqb (code "0")) ds)) most_digits ≡ ltb (numeral_from 0 ds) held
unfolding numeral_from if◌then◌otherwise◌
few-digits [] t = refl
few-digits (d ∷ ds) t = go (eqb (code "0") d) refl (few-digits ds both.1)
  where
    both : T (digit d) × T (every digit ds)
    both = and_yes (digit d) (every digit ds) t

    few : (x : ℕ) → 1 ≤ x → x ≤ 9 → leb (suc (length ds)) most_digits ≡ ltb (numeral_from x ds) held
    few x low high =
        let b = numeral-bounds x ds both.1 in
        let p = mul-le-mul_right (10 ^ length ds) low in
        let q = mul-le-mul_right (10 ^ length ds) high in
        same_test (suc (length ds)) most_digits (suc (numeral_from x ds)) held
        (λ k. let z = pow-le-pow_right {n = 10} (omega arith) {i = length ds} {j = most_digits - 1} (omega arith) in omega arith)
        (λ k. let z = pow-le-pow_right {n = 10} (omega arith) {i = most_digits} {j = length ds} (omega arith) in omega arith)

    go : (e : Bool) → eqb (code "0") d ≡ e → leb (length (after (eqb (code "0")) ds)) most_digits ≡ ltb (numeral_from 0 ds) held
        → leb (length (if e then after (eqb (code "0")) ds otherwise d ∷ ds)) most_digits ≡ ltb (numeral_from (0 * 10 + (d - code "0")) ds) held
    go true q ih = let y = eqb-true (code "0") d q in let z : 0 * 10 + (d - code "0") ≡ 0 = omega arith in rw z ih
    go false q ih =
        let ne = eqb-false (code "0") d q in
        let b = digit-bounds d both.0 in
        let z : 0 * 10 + (d - code "0") ≡ d - code "0" = omega arith in
        rw z (few (d - code "0") (omega arith) (omega arith))

-- ---- the loop over digits, by what is left to read

pub record DigitsLeft (t : Text) (at from value i : ℕ) : Type 0 where
  pub within : i ≤ length t
  pub low : value ≤ held
  pub number : min held (numeral_from value (start digit (drop i t))) ≡ min held (numeral_from from (start digit (drop at t)))
  pub end : i + length (start digit (drop i t)) ≡ at + length (start digit (drop at t))

module _ {t : Text} {at from value i : ℕ} (g : DigitsLeft t at from value i) where
  pub left-more : i < length t → digit (get_or t i 0) ≡ true → (v : ℕ) → v ≡ min held (value * 10 + (get_or t i 0 - code "0"))
      → DigitsLeft t at from v (i + 1)
  unfolding numeral_from
  left-more h d v e =
      let more = start-more digit t i h d in
      let number = rw more at g.number in
      let end = rw more at g.end in
      record {
        within = omega arith;
        low = omega arith;
        number = rw e (held-before held (value * 10 + (get_or t i 0 - code "0")) (start digit (drop (i + 1) t)) ∙ number);
        end = omega arith;
      }

  pub left_end : at ≤ length t → start digit (drop i t) ≡ [] → DigitsRead t at from (record { value = value; end = i })
  unfolding numeral_from
  left_end h s =
      let n = rw s at g.number in
      let k = rw s at g.end in
      let low = g.low in
      let e : i ≡ at + length (start digit (drop at t)) = omega arith in
      record { value = omega arith; end = e; rest = end-drop digit t at i e; within = end-within digit t at i e h }
