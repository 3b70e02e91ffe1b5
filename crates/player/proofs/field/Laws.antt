-- A place, spelt without leading zeros: a text spells a number so just where it is that number in decimal.
use Rattle.std.proofs.Common.{◌≡◌, ℕ, zero, suc, Bool, true, false, ◌^◌, ◌<◌, ◌≤◌, Option, Some, None, IfSome, Result, Ok, Err, ltb, lt-ltb, [], ◌∷◌, length, get_or, sym, refl, ap, ◌∙◌, arith, rules}
use Rattle.std.specs.declared.num.TryFromIntError.{TryFromIntError}
use Rattle.std.specs.Bool.{then_some}
use Rattle.std.specs.Fmt.{decimal}
use Rattle.std.specs.Result.{OkIff}
use Rattle.std.proofs.lemmas.Str.Parse.{IsNumeralModel, numerals_by_fold}
use Rattle.std.proofs.lemmas.Fmt.{digits_decimal, digits_value-decimal, decimal-digits_value, decimal_nonempty, decimal_digit, first_decimal}
use Rattle.registers.specs.Text.{Text, if◌then◌otherwise◌, digit, every}
use Rattle.registers.specs.Number.{numeral_from}
use Rattle.player.specs.ScriptParts.{decimal_from, decimal_in, Converted}
use Rattle.player.proofs.script.Laws.{held-some, of-some}

own : IsNumeralModel (λ t. every digit t ≡ true) (λ t. numeral_from 0 t)
unfolding digit numeral_from
own = numerals_by_fold _ (search rules) numeral_from (search rules)

-- ---- what `number` gives at a type of 64 bits

decimal-low : (t : Text) (n : ℕ) → decimal_in t ≡ Some n → n < 2 ^ 64
unfolding decimal_in decimal_from if◌then◌otherwise◌
decimal-low [] n e = absurd cc
decimal-low (b ∷ t) n e = go (every digit (b ∷ t)) refl
  where
    go : (d : Bool) → every digit (b ∷ t) ≡ d → n < 2 ^ 64
    go true d = (of-some (numeral_from 0 (b ∷ t)) n (rw d at e)).1
    go false d = let none : None ≡ Some n = rw d at e in absurd cc

-- every number of 64 bits is given, as it is
abbrev pub whole : ℕ → Result ℕ TryFromIntError → Type 0
whole n given = OkIff given (n < 2 ^ 64) n

pub number-same : (t : Text) (r : Option ℕ) → Converted whole (decimal_in t) r → r ≡ decimal_in t
number-same t r c = go (decimal_in t) refl c
  where
    go : (o : Option ℕ) → decimal_in t ≡ o → Converted whole o r → r ≡ decimal_in t
    go None e c = c ∙ sym e
    go (Some n) e (Ok m, fits, is) = is ∙ ap Some fits.1 ∙ sym e
    go (Some n) e (Err d, over, is) = absurd (over (decimal-low t n e))

-- ---- texts without leading zeros

-- only a lone zero begins with one
pub record Plain (t : Text) : Type 0 where
  pub first : get_or t 0 0 ≡ 48 → length t ≡ 1

pub short-plain : (t : Text) → length t ≤ 1 → Plain t
short-plain [] h = record { first = λ z. absurd (omega (arith, z)) }
short-plain (b ∷ t) h = record { first = λ z. omega (arith, h) }

pub is-decimal : (t : Text) (n : ℕ) → Plain t → decimal_in t ≡ Some n → t ≡ decimal n
unfolding decimal_in decimal_from if◌then◌otherwise◌
is-decimal [] n p e = absurd cc
is-decimal (b ∷ t) n p e = go (every digit (b ∷ t)) refl
  where
    go : (d : Bool) → every digit (b ∷ t) ≡ d → b ∷ t ≡ decimal n
    go true d =
        let is = of-some (numeral_from 0 (b ∷ t)) n (rw d at e) in
        rw is.0 (sym (decimal-digits_value own (b ∷ t) d (omega arith) p.first (rw is.0 at is.1)))
    go false d = let none : None ≡ Some n = rw d at e in absurd cc

pub of-decimal : (t : Text) (n : ℕ) → n < 2 ^ 64 → t ≡ decimal n → decimal_in t ≡ Some n
unfolding decimal_in decimal_from if◌then◌otherwise◌
of-decimal [] n h e = let some = decimal_nonempty n h in absurd (omega (arith, ap length e, some))
of-decimal (b ∷ t) n h e =
    let all = rw (← e) at (digits_decimal own n h) in
    let value = rw (← e) at (digits_value-decimal own n h) in
    rw (all, value) (held-some n h)

pub no-other : (t : Text) (n : ℕ) → n < 2 ^ 64 → t ≡ decimal n → Plain t
no-other t n h e = record { first = λ z. go n h e z }
  where
    go : (m : ℕ) → m < 2 ^ 64 → t ≡ decimal m → get_or t 0 0 ≡ 48 → length t ≡ 1
    go zero h e z = rw (e, decimal_digit 0 (omega arith)) refl
    go (suc m) h e z = let more = first_decimal (suc m) (omega arith) h in absurd (omega (arith, more, rw e at z))

-- ---- a number that is given under a condition

pub kept : (b : Bool) (n : ℕ) (P : ℕ → Type 0) → P n → IfSome (then_some b n) P
kept true n P h = h
kept false n P h = tt

pub below-kept : (n m k : ℕ) → n < k → Some m ≡ Some n → then_some (ltb m k) m ≡ Some n
below-kept n m k h e = let same : m ≡ n = cc in rw (same, lt-ltb n k h)
