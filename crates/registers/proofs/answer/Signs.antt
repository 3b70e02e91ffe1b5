-- A signed number of 32 bits as its sign and its size, by the two cases of a signed number; the lowest has its size in 64 bits
-- (`other_fits`).
use mathlib.Core.Path.{◌≡◌, refl, sym}
use mathlib.Core.Bool.{true, false, false≢true}
use mathlib.Core.List.{[], ◌∷◌, ◌++◌}
use Prim.Native.Nat.{ℕ, zero, suc, ◌^◌, ◌≤◌, ◌<◌}
use Prim.Native.Char.{code}
use native.Mathlib.Omega.{arith}
use lib.Dec.{T}
use lib.IntN.{ℤ, pos, negsuc, neg_ℤ, nat_abs, ◌-ℤ◌, +ℤ_idl}
use lib.ListN.{length}
use lib.Signed.{lt_z, non_neg}
use mir.Syntax.{Width, w32, w64}
use mir.Val.{SFits, hbits, to_z, of_z}
use mir.Facts.{to_z-of_z, to_z_pos, sfits_widen, Fits-nat_abs}
use borrow.Author.Tests.{ltb-true}
use Rattle.registers.specs.Text.{Text}
use Rattle.registers.specs.Answer.{signed_text, Laid}
use Rattle.registers.specs.AnswerParts.{LaidAt, sign_text}
use Rattle.registers.proofs.answer.Laws.{laid-whole, laid_then}

-- ---- what the test `value < 0` tells

below-zero : (P : ℤ → Type 0) → ((n : ℕ) → P (negsuc n)) → (z : ℤ) → lt_z z (pos 0) ≡ true → P z
below-zero P f (pos n) e = let h = ltb-true n 0 e in absurd (omega arith)
below-zero P f (negsuc n) e = f n

from_zero : (P : ℤ → Type 0) → ((n : ℕ) → P (pos n)) → (z : ℤ) → lt_z z (pos 0) ≡ false → P z
from_zero P f (pos n) e = f n
from_zero P f (negsuc n) e = absurd (false≢true (sym e))

pub sign-minus : (z : ℤ) → lt_z z (pos 0) ≡ true → sign_text z ≡ code "-" ∷ []
sign-minus = below-zero (λ z. sign_text z ≡ code "-" ∷ []) (λ n. refl)

pub sign-plus : (z : ℤ) → lt_z z (pos 0) ≡ false → sign_text z ≡ []
sign-plus = from_zero (λ z. sign_text z ≡ []) (λ n. refl)

pub size-minus : (z : ℤ) → lt_z z (pos 0) ≡ true → T (non_neg (neg_ℤ z))
size-minus = below-zero (λ z. T (non_neg (neg_ℤ z))) (λ n. tt)

pub size-plus : (z : ℤ) → lt_z z (pos 0) ≡ false → T (non_neg z)
size-plus = from_zero (λ z. T (non_neg z)) (λ n. tt)

-- ---- the other side of zero

pub minus_is : (z : ℤ) → pos 0 -ℤ z ≡ neg_ℤ z
minus_is z = +ℤ_idl (neg_ℤ z)

pub size-neg : (z : ℤ) → nat_abs (neg_ℤ z) ≡ nat_abs z
size-neg (pos zero) = refl
size-neg (pos (suc n)) = refl
size-neg (negsuc n) = refl

pub neg-fits : (w : Width) (z : ℤ) → nat_abs z < 2 ^ hbits w → SFits w (neg_ℤ z)
neg-fits w (pos zero) h = record { sfits = h }
neg-fits w (pos (suc n)) h = record { sfits = omega arith }
neg-fits w (negsuc n) h = record { sfits = h }

module _ {z : ℤ} (h : SFits w32 z) where
  -- a value of 32 bits in 64
  pub widened : to_z w64 (of_z w64 (to_z w32 (of_z w32 z))) ≡ z
  widened = rw (to_z-of_z {w = w32} h) (to_z-of_z {w = w64} (sfits_widen tt h))

  -- 64 bits hold its other side of zero, that of the lowest too
  pub other_fits : SFits w64 (neg_ℤ z)
  other_fits = let f = Fits-nat_abs {w = w32} {w' = w32} tt h in neg-fits w64 z (omega arith)

  pub other-side : to_z w64 (of_z w64 (pos 0 -ℤ to_z w64 (of_z w64 (to_z w32 (of_z w32 z))))) ≡ neg_ℤ z
  other-side = rw (widened, minus_is) (to_z-of_z {w = w64} other_fits)

-- 0 - n of an unsigned n
module _ (n : ℕ) (h : n < 2 ^ 31) where
  pub minus-fits : SFits w32 (pos 0 -ℤ to_z w32 n)
  minus-fits = rw (to_z_pos w32 {n = n} h, minus_is) (neg-fits w32 (pos n) h)

  pub minus-made : to_z w32 (of_z w32 (pos 0 -ℤ to_z w32 n)) ≡ neg_ℤ (pos n)
  minus-made = rw (to_z_pos w32 {n = n} h, minus_is) (to_z-of_z {w = w32} (neg-fits w32 (pos n) h))

-- - z of the same number as a signed one
module _ {n : ℕ} (h : n < 2 ^ 31) {z : ℤ} (e : z ≡ pos n) where
  pub minus-of : to_z w32 (of_z w32 (pos 0 -ℤ to_z w32 (of_z w32 z))) ≡ neg_ℤ (pos n)
  minus-of = rw (e, to_z-of_z {w = w32} {z = pos n} (record { sfits = h }), minus_is) (to_z-of_z {w = w32} (neg-fits w32 (pos n) h))

-- ---- the text

pub signed-text : (f : ℕ → Text) (z : ℤ) → signed_text f z ≡ sign_text z ++ f (nat_abs z)
signed-text f (pos n) = refl
signed-text f (negsuc n) = refl

sign-length : (z : ℤ) → length (sign_text z) ≤ 1
sign-length (pos n) = omega arith
sign-length (negsuc n) = omega arith

-- a sign's writer and then a size's writer, each at a value that came as its bits, write the signed number
module _ {z : ℤ} (h : SFits w32 z) {r : ℕ} {a b : Text} (p : LaidAt 0 (sign_text (to_z w32 (of_z w32 z))) a r b) where
  pub sign-short : r ≤ 1
  sign-short = let e = p.end in let l = sign-length (to_z w32 (of_z w32 z)) in omega arith

  pub laid-signed : (f : ℕ → Text) {n s : ℕ} {c : Text} → n ≡ nat_abs (to_z w32 (of_z w32 z)) → LaidAt r (f n) b s c
      → Laid (signed_text f z) a s c
  laid-signed f e q =
      let k = to_z-of_z {w = w32} h in
      rw signed-text (laid-whole (laid_then (rw k at p) (rw (e, k) at q)))
