-- A chain of checks refuses by numbers that a unit can raise, and what it passes has a property, if each of its checks does.
use mathlib.Core.Path.{◌≡◌, refl, subst}
use mathlib.Core.Bool.{Bool, true, false}
use Prim.Native.Nat.{ℕ}
use native.Mathlib.Omega.{arith}
use Rattle.registers.specs.Text.{if◌then◌otherwise◌}
use Rattle.registers.specs.Check.{Checked, refused, passed, check, ◌>>=◌, ◌>>◌}
use Rattle.interpreter.specs.Unit.{raisable}

abbrev pub HoldsOf : {A : Type 0} → (A → Type 0) → Checked A → Type 0
HoldsOf P (refused n) = raisable n ≡ true
HoldsOf P (passed a) = P a

-- a record, so that the property and the chain can be read off a goal
pub record Holds {A : Type 0} (P : A → Type 0) (m : Checked A) : Type 0 where
  pub of : HoldsOf P m

abbrev pub Any : {A : Type 0} → A → Type 0
Any a = Unit {0}

pub refuses-by : {A : Type 0} {P : A → Type 0} {n : ℕ} → raisable n ≡ true → Holds P (refused n)
refuses-by k = record { of = k }

pub passes : {A : Type 0} {P : A → Type 0} {a : A} → P a → Holds P (passed a)
passes p = record { of = p }

module _ {A B : Type 0} (P : A → Type 0) (Q : B → Type 0) where
  pub hold-bind : (m : Checked A) (f : A → Checked B) → Holds P m → ((a : A) → P a → Holds Q (f a)) → Holds Q (m >>= f)
  unfolding ◌>>=◌
  hold-bind (refused n) f h k = refuses-by h.of
  hold-bind (passed a) f h k = k a h.of

module _ {A : Type 0} (Q : A → Type 0) where
  pub hold-check : (n : ℕ) (t : Bool) (m : Checked A) → raisable n ≡ true → (t ≡ true → Holds Q m) → Holds Q (check n t >> m)
  unfolding check ◌>>◌
  hold-check n true m e k = k refl
  hold-check n false m e k = refuses-by e

  pub hold-if : (t : Bool) (x y : Checked A) → Holds Q x → Holds Q y → Holds Q (if t then x otherwise y)
  unfolding if◌then◌otherwise◌
  hold-if true x y h k = h
  hold-if false x y h k = k

-- a check before a chain, or as its first
pub first-check : {A B : Type 0} (x : Checked (Unit {0})) (m : Checked A) (f : A → Checked B) → ((x >> m) >>= f) ≡ (x >> (m >>= f))
unfolding ◌>>◌ ◌>>=◌
first-check (refused n) m f = refl
first-check (passed _) m f = refl

-- what is refused did not pass
pub apart : {A : Type 0} (n : ℕ) (a : A) → refused n ≡ passed a → ⊥
apart n a e = let z : ◌≡◌ {A = ℕ} 0 1 = cc in omega arith

-- a chain whose results have the property
pub holds-from : {A : Type 0} {P : A → Type 0} (m : Checked A) → ((a : A) → m ≡ passed a → P a)
    → ((n : ℕ) → m ≡ refused n → raisable n ≡ true) → Holds P m
holds-from (refused n) p k = refuses-by (k n refl)
holds-from (passed a) p k = passes (p a refl)

-- ---- at a known result

module _ {A : Type 0} {P : A → Type 0} {m : Checked A} (h : Holds P m) where
  pub at-passed : {a : A} → m ≡ passed a → P a
  at-passed e = subst (λ (x : Checked A). HoldsOf P x) e h.of

  pub at-refused : {n : ℕ} → m ≡ refused n → raisable n ≡ true
  at-refused e = subst (λ (x : Checked A). HoldsOf P x) e h.of
