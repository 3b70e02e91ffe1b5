-- The checks after the header, by the one that ends them: no empty parameter, a row, its number of parameters, and then what the row's own
-- checks say of them (`passes`). `says` is what is left of the chain once the role is known.
use mathlib.Core.Path.{◌≡◌, refl, sym, ◌∙◌}
use mathlib.Core.Bool.{Bool, true, false, not, ◌&&◌}
use mathlib.Core.List.{List}
use Prim.Native.Nat.{ℕ, ◌≤◌, ◌<◌}
use native.Mathlib.Omega.{arith}
use lib.Dec.{leb, ltb}
use lib.ListN.{length}
use borrow.Author.Tests.{le-leb, lt-leb}
use Rattle.registers.specs.Text.{Text}
use Rattle.registers.specs.Check.{Checked, refused, passed, check, ◌>>=◌, ◌>>◌}
use Rattle.registers.specs.declared.settings.Settings.{Settings}
use Rattle.interpreter.specs.Cuts.{trim}
use Rattle.interpreter.specs.Parameter.{parameters, none_empty, least, greatest, deed_of}
use Rattle.interpreter.specs.ParameterParts.{counted, parts_of}
use Rattle.interpreter.specs.DeedParts.{role_at}
use Rattle.interpreter.specs.UnitParts.{role_found, decided}
use Rattle.interpreter.specs.declared.deed.Deed.{Deed}
use Rattle.interpreter.specs.declared.deed.Role.{Role}
use Rattle.interpreter.proofs.Checks.{apart}
use Rattle.interpreter.proofs.parameter.Cuts.{parts-one}
use Rattle.interpreter.proofs.parameter.ByKind.{too_few, enough, greatest-one}

-- ---- check 2, which counts the parameters too

abbrev counts : Bool → ℕ → Checked ℕ
counts full n = check 102 full >> passed n

not-full : {m : ℕ} (full : Bool) (n : ℕ) → refused m ≡ counts full n → (m ≡ 102) × (full ≡ false)
unfolding check ◌>>◌
not-full true n e = absurd (apart _ _ e)
not-full false n e = (cc, refl)

all-full : {m : ℕ} (full : Bool) (n : ℕ) → passed m ≡ counts full n → (m ≡ n) × (full ≡ true)
unfolding check ◌>>◌
all-full true n e = (cc, refl)
all-full false n e = absurd (apart _ _ (sym e))

-- ---- checks 4 to 7, once the role and the number of parameters are known

abbrev checked : Settings → Role → Bool → ℕ → List Text → Checked Deed
checked s r asked n ps = check 108 (leb n (greatest r asked)) >> check 109 (leb (least r asked) n) >> deed_of s r asked ps

-- check 4 let the number of parameters pass: it is one that the role may have, and what the role's own checks say is what all say
pub record LetPass (s : Settings) (place : Checked ℕ) (asked : Bool) (t : Text) (r : Role) : Type 0 where
  pub least : least r asked ≤ length (parts_of t)
  pub most : length (parts_of t) ≤ greatest r asked
  pub all : {m : Checked Deed} → m ≡ deed_of s r asked (parts_of t) → m ≡ decided s place asked t

module _ (s : Settings) (place : Checked ℕ) (asked : Bool) (t : Text) where
  pub has-empty : {n : ℕ} → refused n ≡ counted t → refused n ≡ decided s place asked t
  unfolding counted decided check ◌>>◌
  has-empty e = let k = not-full (none_empty (parameters t)) _ e in rw (k.0, k.1)

  module _ (n : ℕ) (is : passed n ≡ counted t) where
    full : (n ≡ length (parameters t)) × (none_empty (parameters t) ≡ true)
    unfolding counted
    full = all-full (none_empty (parameters t)) _ is

    pub no-place : {k : ℕ} → refused k ≡ place → refused k ≡ decided s place asked t
    unfolding decided role_found check ◌>>◌ ◌>>=◌
    no-place h = rw (full.1, ← h)

    module _ (row : ℕ) (there : passed row ≡ place) (r : Role) (at : r ≡ role_at row) where
      says : decided s place asked t ≡ checked s r asked n (parameters t)
      unfolding decided role_found check ◌>>◌ ◌>>=◌
      says = rw (full.1, ← there, full.0, at)

      pub too-many : greatest r asked < n → refused 108 ≡ decided s place asked t
      unfolding check ◌>>◌
      too-many m = sym (says ∙ rw (lt-leb n (greatest r asked) m))

      module _ (few : n ≤ greatest r asked) where
        pub too-few : (not asked && ltb n (greatest r asked)) ≡ true → refused 109 ≡ decided s place asked t
        unfolding check ◌>>◌
        too-few m = sym (says ∙ rw (le-leb n (greatest r asked) few, lt-leb (least r asked) n (too_few r n asked m)))

        module _ (trimmed : trim t ≡ t) (some : (not asked && ltb n (greatest r asked)) ≡ false) where
          given : parts_of t ≡ parameters t
          given = let k = full.0 in parts-one t trimmed (omega (arith, greatest-one r asked))

          -- the role's own checks, where the code has been told the role
          pub passes : (told : Role) → r ≡ told → LetPass s place asked t told
          unfolding check ◌>>◌
          passes told tells =
              let least-is = enough r n asked some in
              record {
                least = rw (given, ← full.0, ← tells) least-is;
                most = rw (given, ← full.0, ← tells) few;
                all = λ e. e ∙ rw (given, ← tells) (sym (says ∙ rw (le-leb n (greatest r asked) few, le-leb (least r asked) n least-is)));
              }
