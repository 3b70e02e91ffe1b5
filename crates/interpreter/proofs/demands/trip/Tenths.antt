-- "one decimal for step 0.1": a value answered so is read as that value. A law of all values, since thousands are too many to try
-- one by one; its digits by induction over the places that they may have.
use mathlib.Core.Path.{◌≡◌, refl, ◌∙◌}
use mathlib.Core.Bool.{Bool, true, false, not, ◌||◌}
use mathlib.Core.List.{List, [], ◌∷◌, ◌++◌}
use Prim.Native.Nat.{ℕ, zero, suc, ◌+◌, ◌*◌, ◌/◌, ◌%◌, ◌^◌, ◌<◌}
use Prim.Native.String.{String}
use native.Mathlib.Omega.{arith}
use native.Mathlib.Nat.{pow-suc}
use lib.Dec.{ltb, eqb}
use lib.IntN.{ℤ, pos, negsuc, nat_abs}
use lib.Signed.{non_neg}
use borrow.Author.Tests.{ltb-true, lt-ltb, le-leb, lt-leb, ne_eqb}
use Rattle.registers.specs.Text.{Text, if◌then◌otherwise◌, digit, small, letter, capital, every, empty, first, start, after}
use Rattle.registers.specs.Check.{passed, check, ◌>>=◌, ◌>>◌}
use Rattle.registers.specs.Number.{sign, point, after_sign, fraction_of, after_fraction, exponent_of, after_exponent, lowering, written, numeral_from, numeral, decimal_of, value_of, scaled, number, most_digits}
use Rattle.registers.specs.Suffix.{remains}
use Rattle.registers.specs.Rounding.{nearest, size_in, rounded, side_in}
use Rattle.registers.specs.Answer.{in_places, decimal, tenths, signed_text}
use Rattle.registers.specs.declared.number.Decimal.{Decimal}
use Rattle.registers.specs.declared.rounding.Side.TheVariants.{On}
use Rattle.registers.specs.declared.suffix.Quantity.{Quantity}
use Rattle.registers.proofs.Tests.{holds, and_both, and-true, every_append}
use Rattle.registers.proofs.text.Laws.{digit-bounds}
use Rattle.registers.proofs.number.Numerals.{numeral-append, few-digits}
use Rattle.registers.proofs.answer.Decimals.{decimal-one}
use Rattle.registers.proofs.rounding.Sides.{side-on}
use Rattle.interpreter.specs.Parameter.{Figure, parameter, read_figure, read_word}
use Rattle.interpreter.proofs.Choices.{if-elim}
use Rattle.interpreter.proofs.unit.Trims.{some_after}
use Rattle.interpreter.proofs.Lists.{every_map}

-- ---- a number in decimal

-- digits that make n
record Makes (n : ℕ) (ds : Text) : Type 0 where
  all : every digit ds ≡ true
  value : numeral ds ≡ n

figure : (d : ℕ) → d < 10 → digit (48 + d) ≡ true
unfolding digit
figure d h = rw (le-leb 48 (48 + d) (omega arith), le-leb (48 + d) 57 (omega arith))

makes-more : (n d : ℕ) {w : ℕ} {ds : Text} → d < 10 → n ≡ w * 10 + d → Makes w ds → Makes n (ds ++ (48 + d) ∷ [])
unfolding numeral_from
makes-more n d {w} {ds} h e m =
    let v = m.value in
    record {
      all = every_append digit ds ((48 + d) ∷ []) m.all (and-true (figure d h) refl);
      value = numeral-append 0 ds ((48 + d) ∷ []) ∙ omega arith;
    }

makes-places : (p n : ℕ) → n < 10 ^ p → Makes n (in_places p n)
unfolding in_places numeral_from
makes-places zero n h = record { all = refl; value = omega arith }
makes-places (suc p) n h =
    let none : Makes 0 [] = record { all = refl; value = refl } in
    let rest : n / 10 < 10 ^ p = omega (arith, pow-suc 10 p) in
    if-elim (Makes n) (ltb n 10) (λ q. makes-more n n (ltb-true n 10 q) (omega arith) none)
    (λ _. makes-more n (n % 10) (omega arith) (omega arith) (makes-places p (n / 10) rest))

-- ---- a number of tenths, below 10 to the power 12: its whole part, a point and one digit

tenths-is : (n : ℕ) → tenths n ≡ decimal (n / 10) ++ 46 ∷ (48 + n % 10) ∷ []
unfolding tenths
tenths-is n = rw (decimal-one (n % 10) (omega arith))

whole : (n : ℕ) → n < 10 ^ most_digits → Makes (n / 10) (decimal (n / 10))
unfolding decimal
whole n h = makes-places 20 (n / 10) (omega arith)

-- the whole part ends at the point
to-point : (ds r : Text) → every digit ds ≡ true → (start digit (ds ++ 46 ∷ r) ≡ ds) × (after digit (ds ++ 46 ∷ r) ≡ 46 ∷ r)
unfolding if◌then◌otherwise◌ digit
to-point [] r h = (refl, refl)
to-point (d ∷ ds) r h =
    let p = and_both (digit d) (every digit ds) h in
    let ih = to-point ds r p.1 in
    (rw (p.0, ih.0), rw (p.0, ih.1))

-- check 6
number-tenths : (q : Quantity) (t : Text) (n : ℕ) → n < 10 ^ most_digits → after_sign t ≡ tenths n
    → number q t ≡ passed (record { minus = eqb (first t) 45; digits = n; up = 0; down = 1 })
unfolding number written value_of decimal_of scaled remains fraction_of after_fraction exponent_of after_exponent lowering numeral_from
    check ◌>>=◌ ◌>>◌ if◌then◌otherwise◌ letter small capital
number-tenths q t n h e =
    let w = whole n h in
    let ds = decimal (n / 10) in
    let d = 48 + n % 10 in
    let m = makes-more n (n % 10) (omega arith) (omega arith) w in
    let split = to-point ds (d ∷ []) w.all in
    let few = few-digits (ds ++ d ∷ []) (holds m.all) in
    rw (e, tenths-is n, split.0, split.1, figure (n % 10) (omega arith), some_after ds d [], few, m.value, lt-ltb n (10 ^ most_digits) h)

-- what a text starts with that is a number and has no sign
record Starts (b : ℕ) : Type 0 where
  no_letter : letter b ≡ false
  no_plus : eqb b 43 ≡ false
  no_minus : eqb b 45 ≡ false
  a_number : (digit b || sign b || point b) ≡ true

starts : (ds r : Text) → every digit ds ≡ true → Starts (first (ds ++ 46 ∷ r))
unfolding digit letter small
starts [] r h = record { no_letter = refl; no_plus = refl; no_minus = refl; a_number = refl }
starts (d ∷ ds) r h =
    let p = (and_both (digit d) (every digit ds) h).0 in
    let b = digit-bounds d (holds p) in
    record {
      no_letter = rw (lt-leb 65 d (omega arith), lt-leb 97 d (omega arith));
      no_plus = ne_eqb d 43 (λ e. omega arith);
      no_minus = ne_eqb d 45 (λ e. omega arith);
      a_number = rw p;
    }

-- ---- with its sign

abbrev pub as_tenths : ℤ → Decimal
as_tenths v = record { minus = not (non_neg v); digits = nat_abs v; up = 0; down = 1 }

-- checks 5 and 6
pub tenths-read : (ws : List String) (q : Quantity) (v : ℤ) → nat_abs v < 10 ^ most_digits → parameter ws true q (signed_text tenths v) ≡ passed (Figure (as_tenths v))
unfolding parameter read_word read_figure after_sign digit letter small if◌then◌otherwise◌ check ◌>>◌ ◌>>=◌
tenths-read ws q (pos n) h =
    let s : Starts (first (tenths n)) = rw (tenths-is n) (starts (decimal (n / 10)) _ (whole n h).all) in
    let e : after_sign (tenths n) ≡ tenths n = rw (s.no_plus, s.no_minus) in
    rw (s.no_letter, s.a_number, number-tenths q (tenths n) n h e, s.no_minus)
tenths-read ws q (negsuc n) h = rw (number-tenths q (45 ∷ tenths (suc n)) (suc n) h refl)

-- check 7
in-steps : (n : ℕ) → nearest (n * 1 * 10) 10 ≡ n
unfolding nearest
in-steps n = omega arith

pub tenths-rounded : (v : ℤ) → rounded 10 (as_tenths v) ≡ v
unfolding rounded size_in
tenths-rounded (pos n) = rw (in-steps n)
tenths-rounded (negsuc n) = rw (in-steps (suc n))

-- nothing is rounded off
pub tenths-on : (v : ℤ) → side_in 10 (as_tenths v) ≡ On
unfolding side_in size_in
tenths-on (pos n) = rw (in-steps n, side-on (n * 1 * 10) 10 n (omega arith))
tenths-on (negsuc n) = rw (in-steps (suc n), side-on (suc n * 1 * 10) 10 (suc n) (omega arith))

-- ---- its bytes are digits, a point and a minus

pub tenths-some : (v : ℤ) → empty (signed_text tenths v) ≡ false
tenths-some (pos n) = rw (tenths-is n) (some_after (decimal (n / 10)) 46 _)
tenths-some (negsuc n) = refl

module _ (p : ℕ → Bool) (minus : p 45 ≡ true) (dot : p 46 ≡ true) (figures : (b : ℕ) → digit b ≡ true → p b ≡ true) where
  unsigned : (n : ℕ) → n < 10 ^ most_digits → every p (tenths n) ≡ true
  unsigned n h =
      let ds = decimal (n / 10) in
      let last = figures (48 + n % 10) (figure (n % 10) (omega arith)) in
      rw (tenths-is n) (every_append p ds _ (every_map digit p figures ds (whole n h).all) (and-true dot (and-true last refl)))

  pub tenths-bytes : (v : ℤ) → nat_abs v < 10 ^ most_digits → every p (signed_text tenths v) ≡ true
  tenths-bytes (pos n) h = unsigned n h
  tenths-bytes (negsuc n) h = and-true minus (unsigned (suc n) h)
