-- What is true of both sides of a choice is true of the choice.
use mathlib.Core.Path.{◌≡◌, refl}
use mathlib.Core.Bool.{Bool, true, false, not}
use Rattle.registers.specs.Text.{if◌then◌otherwise◌}

pub if-elim {ℓ κ} : {A : Type ℓ} (P : A → Type κ) (t : Bool) {x y : A} → (t ≡ true → P x) → (t ≡ false → P y) → P (if t then x otherwise y)
unfolding if◌then◌otherwise◌
if-elim P true p q = p refl
if-elim P false p q = q refl

-- a relation between two choices by one test
pub if₂ {ℓ κ} : {A B : Type ℓ} (P : A → B → Type κ) (t : Bool) {x y : A} {x' y' : B}
    → P x x' → P y y' → P (if t then x otherwise y) (if t then x' otherwise y')
unfolding if◌then◌otherwise◌
if₂ P true p q = p
if₂ P false p q = q

-- between choices by a test and by its opposite
pub if-opposite {ℓ κ} : {A B : Type ℓ} (P : A → B → Type κ) (t u : Bool) → t ≡ not u → {x y : A} {x' y' : B}
    → P x y' → P y x' → P (if t then x otherwise y) (if u then x' otherwise y')
unfolding if◌then◌otherwise◌
if-opposite P t true e p q = rw e q
if-opposite P t false e p q = rw e p
