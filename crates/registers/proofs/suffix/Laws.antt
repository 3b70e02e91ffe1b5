-- A suffix matches in any letter case: what std compares in small letters, 02's search compares in capitals. And a text from which a
-- first byte is got has one.
use mathlib.Core.Path.{◌≡◌, refl, sym, ap, ◌∙◌}
use mathlib.Core.Bool.{Bool, true, false}
use mathlib.Core.List.{[], ◌∷◌, map}
use Prim.Native.Nat.{ℕ, ◌<◌}
use native.Mathlib.Omega.{arith}
use lib.ListN.{length, get_or}
use Rattle.std.specs.Char.{to_ascii_lowercase, to_ascii_uppercase}
use Rattle.std.proofs.lemmas.Bool.Decides.{nat_tests}
use Rattle.std.proofs.lemmas.Str.Ascii.{lowercase-uppercase}
use Rattle.registers.specs.Text.{Text, capital, empty, first, same}
use Rattle.registers.proofs.text.Laws.{capital-is, same-eq, same_refl}

-- what one case forgets, the other forgets too
uppercase-lowercase : (b : ℕ) → to_ascii_uppercase (to_ascii_lowercase b) ≡ to_ascii_uppercase b
uppercase-lowercase b = grind (arith, nat_tests)

small-capital : (t : Text) → map to_ascii_lowercase (map capital t) ≡ map to_ascii_lowercase t
small-capital [] = refl
small-capital (b ∷ t) = rw (← capital-is b, lowercase-uppercase b, small-capital t)

capital-small : (t : Text) → map capital (map to_ascii_lowercase t) ≡ map capital t
capital-small [] = refl
capital-small (b ∷ t) = rw (← capital-is b, ← capital-is (to_ascii_lowercase b), uppercase-lowercase b, capital-small t)

module _ (t u : Text) where
  pub spelt : (r : Bool) → (r ≡ true → map to_ascii_lowercase t ≡ map to_ascii_lowercase u)
      × (map to_ascii_lowercase t ≡ map to_ascii_lowercase u → r ≡ true) → r ≡ same (map capital t) (map capital u)
  spelt true d =
      let e = sym (capital-small t) ∙ ap (map capital) (d.0 refl) ∙ capital-small u in sym (rw e (same_refl (map capital u) (map capital u) refl))
  spelt false d = go (same (map capital t) (map capital u)) refl
    where
      go : (b : Bool) → same (map capital t) (map capital u) ≡ b → false ≡ b
      go true e =
          d.1 (sym (small-capital t) ∙ ap (map to_ascii_lowercase) (same-eq _ _ e) ∙ small-capital u)
      go false e = refl

-- ---- a byte is left

pub first-left : (t : Text) (b : ℕ) → (0 < length t) × ((d : ℕ) → b ≡ get_or t 0 d) → (first t ≡ b) × (empty t ≡ false)
first-left [] b h = absurd (omega (arith, h.0))
first-left (x ∷ t) b h = (sym (h.1 0), refl)
