-- Numbers in decimal: one digit more, and how long they are. The definition has a place too many for any number that is written, and
-- by induction over the places it is the same with one more.
use mathlib.Core.Path.{◌≡◌, refl, ap}
use mathlib.Core.Bool.{Bool, true, false}
use mathlib.Core.List.{[], ◌∷◌, ◌++◌}
use Prim.Native.Nat.{ℕ, zero, suc, ◌+◌, ◌-◌, ◌^◌, ◌/◌, ◌%◌, ◌≤◌, ◌<◌}
use Prim.Native.Char.{code}
use native.Mathlib.Omega.{arith}
use native.Mathlib.Nat.{pow-suc}
use lib.ListN.{length, length-append}
use lib.Dec.{ltb}
use lib.IntN.{ℤ, pos, negsuc}
use mir.Syntax.{w64}
use mir.Val.{Fits}
use borrow.Author.Tests.{lt-ltb, le-ltb}
use Rattle.registers.specs.Text.{Text, if◌then◌otherwise◌}
use Rattle.registers.specs.AnswerParts.{farthest}
use Rattle.registers.specs.Answer.{in_places, most_places, decimal, tenths, signed_text}

-- more places than the digits need change nothing
more : (p n : ℕ) → n < 10 ^ suc p → in_places (suc p) n ≡ in_places (suc (suc p)) n
unfolding in_places if◌then◌otherwise◌
more zero n h = rw (lt-ltb n 10 h)
more (suc p) n h = go (ltb n 10) (more p (n / 10) (let e = pow-suc 10 (suc p) in omega arith))
  where
    go : (t : Bool) → in_places (suc p) (n / 10) ≡ in_places (suc (suc p)) (n / 10)
        → (if t then (code "0" + n) ∷ [] otherwise in_places (suc p) (n / 10) ++ (code "0" + n % 10) ∷ [])
        ≡ (if t then (code "0" + n) ∷ [] otherwise in_places (suc (suc p)) (n / 10) ++ (code "0" + n % 10) ∷ [])
    go true e = refl
    go false e = ap (λ (l : Text). l ++ (code "0" + n % 10) ∷ []) e

pub decimal-one : (n : ℕ) → n < 10 → decimal n ≡ (code "0" + n) ∷ []
unfolding decimal in_places if◌then◌otherwise◌
decimal-one n h = rw (lt-ltb n 10 h)

-- the last digit stands after the decimal of the rest
pub decimal-more : (n : ℕ) → 10 ≤ n → n < 10 ^ most_places → decimal n ≡ decimal (n / 10) ++ (code "0" + n % 10) ∷ []
unfolding decimal in_places if◌then◌otherwise◌
decimal-more n g h = rw (le-ltb n 10 g) (ap (λ (l : Text). l ++ (code "0" + n % 10) ∷ []) (more (most_places - 2) (n / 10) (omega arith)))

in_places-length : (p n : ℕ) → length (in_places p n) ≤ p
unfolding in_places if◌then◌otherwise◌
in_places-length zero n = omega arith
in_places-length (suc p) n = go (ltb n 10) (in_places-length p (n / 10))
  where
    go : (t : Bool) → length (in_places p (n / 10)) ≤ p
        → length (if t then (code "0" + n) ∷ [] otherwise in_places p (n / 10) ++ (code "0" + n % 10) ∷ []) ≤ suc p
    go true h = omega arith
    go false h = let e = length-append (in_places p (n / 10)) ((code "0" + n % 10) ∷ []) in omega arith

pub decimal-length : (n : ℕ) → length (decimal n) ≤ most_places
unfolding decimal
decimal-length n = in_places-length most_places n

-- a place after a number that starts at a low place is low
module _ (n : ℕ) {at r : ℕ} (e : r ≡ at + length (decimal n)) where
  pub after-fits : at ≤ farthest → Fits w64 (r + 1)
  after-fits h = let l = decimal-length n in omega arith

  pub after-low : at ≤ 1 → r + 1 ≤ farthest
  after-low h = let l = decimal-length n in omega arith

pub tenths-length : (n : ℕ) → length (tenths n) ≤ most_places + 2
unfolding tenths
tenths-length n =
    let e = length-append (decimal (n / 10)) (code "." ∷ decimal (n % 10)) in
    let d = decimal-length (n / 10) in
    let l : length (decimal (n % 10)) ≡ 1 = rw (decimal-one (n % 10) (omega arith)) in
    omega arith

-- a sign is one byte more
pub signed-length : (f : ℕ → Text) (most : ℕ) → ((n : ℕ) → length (f n) ≤ most) → (z : ℤ) → length (signed_text f z) ≤ suc most
signed-length f most h (pos n) = let l = h n in omega arith
signed-length f most h (negsuc n) = let l = h (suc n) in omega arith
