-- The number reader: its result is determined, and the laws of its parts, the sign, the mantissa and the exponent.
use mathlib.Core.Path.{◌≡◌, refl, ap, sym, ◌∙◌}
use mathlib.Core.Bool.{Bool, true, false}
use mathlib.Core.List.{[], ◌∷◌, ◌++◌, append-nil}
use Prim.Native.Nat.{ℕ, ◌+◌, ◌-◌, min, ◌≤◌}
use Prim.Native.Char.{code}
use native.Mathlib.Nat.{add-zero, zero-add}
use native.Mathlib.Omega.{arith}
use lib.Dec.{eqb}
use lib.ListN.{length, length-append, drop}
use mir.Val.{bool_byte}
use borrow.Author.Tests.{eq-eqb, ne_eqb}
use Rattle.registers.specs.Text.{Text, if◌then◌otherwise◌, digit, capital, small, first, rest, empty, start, after}
use Rattle.registers.specs.Number.{numeral_from, numeral, sign, point, after_sign, fraction_of, after_fraction, exponent_of, after_exponent, lowering}
use Rattle.registers.specs.NumberParts.{held, mantissa_of, DigitsRead, MantissaRead, ExponentRead}
use Rattle.registers.specs.declared.number.Digits.{Digits}
use Rattle.std.proofs.lemmas.List.{nil_from_length}
use Rattle.std.specs.Prelude.{Result, Ok, Err}
use Rattle.registers.specs.Error.{meant}
use Rattle.registers.specs.declared.error.Error.{Error}
use Rattle.registers.specs.declared.number.Decimal.{Decimal}
use Rattle.registers.proofs.error.Numbers.{number_of-injective}
use Rattle.registers.proofs.text.Laws.{first-within, rest_at}
use Rattle.registers.proofs.number.Numerals.{held-before, numeral-append}

-- two readings that mean the same are equal: `read`'s contract determines its result
pub number-unique : (a b : Result Decimal Error) → meant a ≡ meant b → a ≡ b
number-unique (Err x) (Err y) e = ap Err (number_of-injective x y (cc))
number-unique (Err x) (Ok y) e = cc
number-unique (Ok x) (Err y) e = cc
number-unique (Ok x) (Ok y) e = cc

-- ---- the parts, at a place

-- a sign is one byte
pub sign-end : (t : Text) (at b : ℕ) → b ≡ first (drop at t) → at ≤ length t
    → (drop (at + bool_byte (sign b)) t ≡ after_sign (drop at t)) × (at + bool_byte (sign b) ≤ length t)
unfolding after_sign if◌then◌otherwise◌
sign-end t at b e l = rw e (go (sign (first (drop at t))) refl)
  where
    go : (y : Bool) → sign (first (drop at t)) ≡ y
        → (drop (at + bool_byte y) t ≡ (if y then rest (drop at t) otherwise drop at t)) × (at + bool_byte y ≤ length t)
    go true q = let h = first-within sign t at refl q in (sym (rest_at t at), omega arith)
    go false q = (rw (add-zero at), omega arith)

pub sign_start : (t : Text) (b : ℕ) → b ≡ first t → (drop (bool_byte (sign b)) t ≡ after_sign t) × (bool_byte (sign b) ≤ length t)
sign_start t b e = rw zero-add at (sign-end t 0 b e (omega arith))

-- ---- the mantissa

module _ (t : Text) (at : ℕ) (w : Digits) (h : DigitsRead t at 0 w) where
  abbrev whole : Text
  whole = start digit (drop at t)

  pub no-point : (first (drop w.end t) ≡ code "." → ⊥)
      → MantissaRead t at (record { value = w.value; count = w.end - at; places = 0; end = w.end })
  unfolding fraction_of after_fraction if◌then◌otherwise◌
  no-point ne =
      let q : point (first (after digit (drop at t))) ≡ false = rw (sym h.rest) (ne_eqb (first (drop w.end t)) (code ".") ne) in
      let none : fraction_of (after digit (drop at t)) ≡ [] = rw q in
      let rest-is : after_fraction (after digit (drop at t)) ≡ after digit (drop at t) = rw q in
      let all : mantissa_of (drop at t) ≡ whole = rw none (append-nil whole) in
      let n = h.end in
      let long : w.end - at ≡ length whole = omega arith in
      record {
        value = h.value ∙ ap (λ (u : Text). min held (numeral u)) (sym all);
        count = long ∙ ap length (sym all);
        places = ap length (sym none);
        rest = h.rest ∙ sym rest-is;
        within = h.within;
        short = omega arith;
      }

  pub with-point : first (drop w.end t) ≡ code "." → (d : Digits) → DigitsRead t (w.end + 1) w.value d
      → MantissaRead t at (record { value = d.value; count = d.end - at - 1; places = d.end - w.end - 1; end = d.end })
  unfolding fraction_of after_fraction if◌then◌otherwise◌
  with-point e d k =
      let more = ap rest (sym h.rest) ∙ rest_at t w.end in
      let q : point (first (after digit (drop at t))) ≡ true = rw (sym h.rest, e) in
      let fraction = start digit (drop (w.end + 1) t) in
      let is : fraction_of (after digit (drop at t)) ≡ fraction = rw (q, more) in
      let rest-is : after_fraction (after digit (drop at t)) ≡ after digit (drop (w.end + 1) t) = rw (q, more) in
      let all : mantissa_of (drop at t) ≡ whole ++ fraction = ap (λ (u : Text). whole ++ u) is in
      let n = h.end in
      let m = k.end in
      let l = k.within in
      let both = length-append whole fraction in
      let count : d.end - at - 1 ≡ length (whole ++ fraction) = omega arith in
      let places : d.end - w.end - 1 ≡ length fraction = omega arith in
      record {
        value =
            k.value
            ∙ ap (λ (v : ℕ). min held (numeral_from v fraction)) h.value
            ∙ held-before held (numeral whole) fraction
            ∙ ap (min held) (sym (numeral-append 0 whole fraction) ∙ ap numeral (sym all));
        count = count ∙ ap length (sym all);
        places = places ∙ ap length (sym is);
        rest = k.rest ∙ sym rest-is;
        within = l;
        short = omega arith;
      }

-- ---- the exponent

zero-capital : eqb (capital 0) (code "E") ≡ false
unfolding capital small if◌then◌otherwise◌
zero-capital = refl

module _ (t : Text) (at : ℕ) where
  pub exponent-none : at ≤ length t → exponent_of (drop at t) ≡ [] → ExponentRead t at (record { lowers = false; size = 0; end = at })
  unfolding lowering after_exponent if◌then◌otherwise◌ numeral_from
  exponent-none l e = record { lowers = rw e; size = rw e; rest = rw e; within = l }

  pub exponent-no : (capital (first (drop at t)) ≡ code "E" → ⊥) → exponent_of (drop at t) ≡ []
  unfolding exponent_of if◌then◌otherwise◌
  exponent-no ne = rw (ne_eqb (capital (first (drop at t))) (code "E") ne)

  -- the digits begin after the E and the sign that may follow it
  pub exponent-start : capital (first (drop at t)) ≡ code "E" → (b : ℕ) → b ≡ first (drop (at + 1) t)
      → let s = at + 1 + bool_byte (sign b) in (drop s t ≡ after_sign (drop (at + 1) t)) × (s ≤ length t)
  exponent-start e b eb =
      let l = first-within (λ x. eqb (capital x) (code "E")) t at zero-capital (eq-eqb _ _ e) in
      sign-end t (at + 1) b eb (omega arith)

  module _ (e : capital (first (drop at t)) ≡ code "E") (s : ℕ) (signed : drop s t ≡ after_sign (drop (at + 1) t))
      (d : Digits) (h : DigitsRead t s 0 d) where
    is-there : exponent_of (drop at t) ≡ start digit (drop s t)
    unfolding exponent_of if◌then◌otherwise◌
    is-there = rw (e, rest_at t at, signed)

    pub exponent-bare : d.end ≡ s → exponent_of (drop at t) ≡ []
    exponent-bare q = let n = h.end in is-there ∙ nil_from_length (start digit (drop s t)) (omega arith)

    pub exponent-some : (d.end ≡ s → ⊥) → (b : ℕ) → b ≡ first (drop (at + 1) t)
        → ExponentRead t at (record { lowers = eqb b (code "-"); size = d.value; end = d.end })
    unfolding lowering after_exponent if◌then◌otherwise◌
    exponent-some ne b eb =
        let n = h.end in
        let z = ap empty is-there ∙ full (start digit (drop s t)) (λ q. ne (omega arith)) in
        record {
          lowers = rw (z, eb, rest_at t at);
          size = h.value ∙ ap (λ (u : Text). min held (numeral u)) (sym is-there);
          rest = rw z (h.rest ∙ ap (after digit) (signed ∙ ap after_sign (sym (rest_at t at))));
          within = h.within;
        }
      where
        full : (u : Text) → (length u ≡ 0 → ⊥) → empty u ≡ false
        full [] f = absurd (f refl)
        full (x ∷ u) f = refl
