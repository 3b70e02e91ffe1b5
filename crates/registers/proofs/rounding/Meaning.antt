-- What `round_in` promises as an equation, for callers that need the record itself; and two results that meet it are equal. A
-- case of an enum is told by what it means: `meant_fit` has no value twice, and no number is two of equal, less and greater.
use mathlib.Core.Path.{◌≡◌, refl, sym, ◌∙◌}
use mathlib.Core.Bool.{Bool, true, false, ◌&&◌}
use Prim.Native.Nat.{ℕ}
use native.Mathlib.Omega.{arith}
use lib.IntN.{ℤ, pos, negsuc}
use lib.Signed.{le_z, lt_z}
use borrow.Author.Tests.{ltb-true, le-ltb}
use Rattle.std.specs.Prelude.{Option, Some, None}
use Rattle.registers.specs.Text.{if◌then◌otherwise◌}
use Rattle.registers.specs.Check.{passed, ◌>>◌, check}
use Rattle.registers.specs.Rounding.{rounded, fitted, side_in, meant_fit, Stands, RoundedIn}
use Rattle.registers.specs.declared.number.Decimal.{Decimal}
use Rattle.registers.specs.declared.rounding.Rounded.{Rounded}
use Rattle.registers.specs.declared.rounding.Side.{Side}
use Rattle.registers.specs.declared.rounding.Side.TheVariants.{On, Below, Above}
use Rattle.registers.proofs.rounding.Exact.{tells}

fit-only : (a b : Option ℤ) → meant_fit a ≡ meant_fit b → a ≡ b
fit-only (Some v) (Some w) e = cc
fit-only (Some v) None e = cc
fit-only None (Some w) e = cc
fit-only None None e = refl

-- ---- a side by what it says

not-less : (a : ℤ) → lt_z a a ≡ false
not-less (pos n) = le-ltb n n (omega arith)
not-less (negsuc n) = le-ltb n n (omega arith)

not-both : (a b : ℤ) → lt_z b a ≡ true → lt_z a b ≡ false
not-both (pos a) (pos b) e = let h = ltb-true b a e in le-ltb a b (omega arith)
not-both (pos a) (negsuc b) e = refl
not-both (negsuc a) (pos b) e = sym e
not-both (negsuc a) (negsuc b) e = let h = ltb-true a b e in le-ltb b a (omega arith)

abbrev side_of : ℤ → ℤ → Side
side_of a b = if lt_z a b then Below otherwise (if lt_z b a then Above otherwise On)

side-of : (x : Side) (a b : ℤ) → Stands x a b → x ≡ side_of a b
unfolding if◌then◌otherwise◌
side-of On a b e = rw (e, not-less b)
side-of Below a b e = rw e
side-of Above a b e = rw (not-both a b e, e)

side-only : (x y : Side) (a b : ℤ) → Stands x a b → Stands y a b → x ≡ y
side-only x y a b p q = side-of x a b p ∙ sym (side-of y a b q)

-- ---- the promise

module _ {k : ℕ} {low high : ℤ} {d : Decimal} where
  pub rounded-only : {a b : Rounded} → RoundedIn k low high d a → RoundedIn k low high d b → a ≡ b
  rounded-only {a} {b} p q =
      let f = fit-only a.fit b.fit (p.fit ∙ sym q.fit) in
      let s = side-only a.side b.side _ _ p.side q.side in
      λ i. record { fit = f i; side = s i }

  pub side-is : {r : Rounded} → RoundedIn k low high d r → r.side ≡ side_in k d
  side-is {r} p = side-only r.side (side_in k d) _ _ p.side (tells k d).stands

  -- the value, where the limits let it pass
  pub fit_is : {r : Rounded} → RoundedIn k low high d r
      → r.fit ≡ (if le_z low (rounded k d) && le_z (rounded k d) high then Some (rounded k d) otherwise None)
  unfolding fitted check ◌>>◌ if◌then◌otherwise◌
  fit_is {r} p = fit-only r.fit _ (p.fit ∙ chosen (le_z low (rounded k d) && le_z (rounded k d) high))
    where
      chosen : (t : Bool) → (check 222 t >> passed (rounded k d)) ≡ meant_fit (if t then Some (rounded k d) otherwise None)
      chosen true = refl
      chosen false = refl
