-- "The checks on one unit, in order": each passes, or refuses by an error's number and ends the chain. 222 stands for -222.
use Rattle.std.specs.Prelude.{Bool, true, false, ℕ}

pub data Checked {ℓ} (A : Type ℓ) : Type ℓ where
  refused : ℕ → Checked A
  passed : A → Checked A

-- a check, and then a check that uses what the first found; or one that doesn't
infixr 20 ◌>>=◌ ◌>>◌
unfoldable pub ◌>>=◌ {ℓ κ} : {A : Type ℓ} {B : Type κ} → Checked A → (A → Checked B) → Checked B
refused n >>= f = refused n
passed a >>= f = f a

unfoldable pub ◌>>◌ {ℓ κ} : {A : Type ℓ} {B : Type κ} → Checked A → Checked B → Checked B
refused n >> m = refused n
passed a >> m = m

-- error n unless the test holds
unfoldable pub check : ℕ → Bool → Checked (Unit {0})
check n true = passed tt
check n false = refused n
