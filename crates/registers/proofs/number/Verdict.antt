-- Check 6 by the tests that the reader makes on what it found. The definition's answer is brought, part by part, to a `verdict` over
-- what the functions read; its tests of digits and exponent are then comparisons of held numbers.
use mathlib.Core.Path.{◌≡◌, refl, ap, sym, ◌∙◌}
use mathlib.Core.Bool.{Bool, true, false, not}
use mathlib.Core.List.{[], ◌∷◌}
use Prim.Native.Nat.{ℕ, suc, min}
use Prim.Native.Char.{code}
use native.Mathlib.Omega.{arith}
use lib.Dec.{T, leb, ltb, eqb}
use lib.ListN.{length, drop}
use mir.Val.{bool_byte}
use borrow.Author.Tests.{ne_eqb, leb-true, ltb-true}
use Rattle.registers.specs.Text.{Text, if◌then◌otherwise◌, every, digit, white, first, rest, empty, start, after}
use Rattle.registers.specs.Check.{Checked, refused, passed, ◌>>=◌, ◌>>◌, check}
use Rattle.registers.specs.Number.{most_digits, most_exponent, numeral, point, after_sign, fraction_of, after_fraction, exponent_of, after_exponent, lowering, sign, written, value_of, decimal_of, scaled, number}
use Rattle.registers.specs.Suffix.{remains}
use Rattle.registers.specs.NumberParts.{held, mantissa_of, MantissaRead, ExponentRead, value_read}
use Rattle.registers.specs.declared.number.Decimal.{Decimal}
use Rattle.registers.specs.declared.number.Mantissa.{Mantissa}
use Rattle.registers.specs.declared.number.Exponent.{Exponent}
use Rattle.registers.specs.declared.suffix.Power.{Power}
use Rattle.registers.specs.declared.suffix.Quantity.{Quantity}
use Rattle.registers.proofs.text.Laws.{start-passes}
use Rattle.registers.proofs.Tests.{every_append, holds, is_true}
use Rattle.registers.proofs.number.Laws.{sign_start}
use Rattle.registers.proofs.number.Numerals.{same_test, few-digits}

-- check 6 by what is told of a text: there is no digit, the power of ten of what remains, the digits are few, the exponent is low
unfoldable chain : Bool → Checked Power → Bool → Bool → Decimal → Checked Decimal
chain none scale few low d =
    check 121 (not none)
    >> scale >>= λ p.
    check 124 few
    >> check 123 low
    >> passed (scaled p d)

-- the value counts only where both the last are true
chain-value : (none : Bool) (scale : Checked Power) (few low : Bool) {d e : Decimal} → (few ≡ true → low ≡ true → d ≡ e)
    → chain none scale few low d ≡ chain none scale few low e
unfolding chain check ◌>>=◌ ◌>>◌
chain-value none (refused n) few low h = refl
chain-value none (passed p) true true h = rw (h refl refl)
chain-value none (passed p) true false h = refl
chain-value none (passed p) false low h = refl

-- check 6 by the first two and what the reader found: the first byte, the mantissa and the exponent
unfoldable pub verdict : Bool → Checked Power → ℕ → Mantissa → Exponent → Checked Decimal
verdict none scale b m x = check 121 (not none) >> scale >>= λ p. value_read (eqb b (code "-")) m x p

no-digits : (l : Text) (n : ℕ) → n ≡ length l → empty l ≡ eqb n 0
no-digits [] n e = rw e
no-digits (x ∷ l) n e = let z : n ≡ suc (length l) = e in sym (ne_eqb n 0 (λ k. omega arith))

fraction-digits : (u : Text) → T (every digit (fraction_of u))
unfolding fraction_of if◌then◌otherwise◌
fraction-digits u = go (point (first u))
  where
    go : (e : Bool) → T (every digit (if e then start digit (rest u) otherwise []))
    go true = start-passes digit (rest u)
    go false = tt

-- the reader found the first byte, and the mantissa after the sign that it may be
module _ {t : Text} {b : ℕ} {m : Mantissa} (byte : b ≡ first t) (mantissa : MantissaRead t (bool_byte (sign b)) m) where
  abbrev digits : Text
  digits = mantissa_of (after_sign t)

  signed : drop (bool_byte (sign b)) t ≡ after_sign t
  signed = (sign_start t b byte).0

  none : empty digits ≡ eqb m.count 0
  none = no-digits digits m.count (mantissa.count ∙ ap (λ (u : Text). length (mantissa_of u)) signed)

  pub none_is : (q : Quantity) → m.count ≡ 0 → refused 121 ≡ number q t
  unfolding number written check ◌>>◌
  none_is q e = rw (none, e)

-- and the exponent after the mantissa
module _ {t : Text} {b : ℕ} {m : Mantissa} {x : Exponent} (byte : b ≡ first t) (mantissa : MantissaRead t (bool_byte (sign b)) m)
    (exponent : ExponentRead t m.end x) where
  abbrev start_is : drop (bool_byte (sign b)) t ≡ after_sign t
  start_is = (sign_start t b byte).0

  abbrev all : Text
  all = mantissa_of (after_sign t)

  abbrev power : Text
  power = exponent_of (after_fraction (after digit (after_sign t)))

  after_is : drop m.end t ≡ after_fraction (after digit (after_sign t))
  after_is = mantissa.rest ∙ ap (λ (u : Text). after_fraction (after digit u)) start_is

  value-is : m.value ≡ min held (numeral all)
  value-is = mantissa.value ∙ ap (λ (u : Text). min held (numeral (mantissa_of u))) start_is

  size_is : x.size ≡ min held (numeral power)
  size_is = exponent.size ∙ ap (λ (u : Text). min held (numeral (exponent_of u))) after_is

  places_is : m.places ≡ length (fraction_of (after digit (after_sign t)))
  places_is = mantissa.places ∙ ap (λ (u : Text). length (fraction_of (after digit u))) start_is

  -- check 6 of the text, where e is the place after the white space that follows the number
  number_is : (q : Quantity) (e : ℕ) → drop e t ≡ after white (drop x.end t)
      → number q t ≡ verdict (eqb m.count 0) (remains q (drop e t)) b m x
  unfolding number written value_of chain verdict value_read
  number_is q e rest-is =
      let remainder = ap (after white) (sym (exponent.rest ∙ ap after_exponent after_is)) ∙ sym rest-is in
      let lowers = exponent.lowers ∙ ap lowering after_is in
      rw (none byte mantissa, remainder, few, low, sym byte, sym lowers, sym places_is)
      (chain-value (eqb m.count 0) (remains q (drop e t)) _ _ exact)
    where
      few : leb (length (after (eqb (code "0")) all)) most_digits ≡ ltb m.value held
      few =
          let whole = start digit (after_sign t) in
          let fraction = fraction_of (after digit (after_sign t)) in
          let passing = holds (every_append digit whole fraction (is_true _ (start-passes digit (after_sign t))) (is_true _ (fraction-digits (after digit (after_sign t))))) in
          let v = value-is in
          few-digits all passing ∙ same_test (suc (numeral all)) held (suc m.value) held (λ k. omega arith) (λ k. omega arith)

      low : leb (numeral power) most_exponent ≡ leb x.size most_exponent
      low = let z = size_is in same_test (numeral power) most_exponent x.size most_exponent (λ k. omega arith) (λ k. omega arith)

      exact : ltb m.value held ≡ true → leb x.size most_exponent ≡ true
          → decimal_of (eqb b (code "-")) (numeral all) m.places x.lowers (numeral power)
          ≡ decimal_of (eqb b (code "-")) m.value m.places x.lowers x.size
      exact few low =
          let l = ltb-true m.value held few in
          let k = leb-true x.size most_exponent low in
          let v : numeral all ≡ m.value = omega (arith, value-is) in
          let z : numeral power ≡ x.size = omega (arith, size_is) in
          rw (v, z)

  -- where there are digits, what is read there decides: a refusal ends the check, a power of ten scales the number
  module _ (some : m.count ≡ 0 → ⊥) (q : Quantity) (e : ℕ) (rest-is : drop e t ≡ after white (drop x.end t)) where
    pub refused_is : {n : ℕ} → refused n ≡ remains q (drop e t) → refused n ≡ number q t
    unfolding verdict check ◌>>=◌ ◌>>◌
    refused_is r = sym (number_is q e rest-is ∙ rw (ne_eqb m.count 0 some, ← r))

    pub passed_is : {p : Power} → passed p ≡ remains q (drop e t) → value_read (eqb b (code "-")) m x p ≡ number q t
    unfolding verdict check ◌>>=◌ ◌>>◌
    passed_is r = sym (number_is q e rest-is ∙ rw (ne_eqb m.count 0 some, ← r))
