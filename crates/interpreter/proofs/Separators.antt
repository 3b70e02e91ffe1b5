-- A text cut at a separator: the first part ends at the first of them, and a text without any is one part.
use mathlib.Core.Path.{◌≡◌, refl}
use mathlib.Core.Bool.{Bool, true, not}
use mathlib.Core.List.{[], ◌∷◌, ◌++◌}
use Prim.Native.Nat.{ℕ}
use lib.Dec.{eqb}
use borrow.Author.Tests.{eq-eqb, not-true}
use Rattle.registers.specs.Text.{Text, if◌then◌otherwise◌, every}
use Rattle.registers.proofs.Tests.{and_both}
use Rattle.interpreter.specs.Cuts.{cut_at}

-- a byte other than the separator, and a text of such bytes
abbrev pub other : ℕ → ℕ → Bool
other s b = not (eqb b s)

unfoldable pub free : ℕ → Text → Bool
free s u = every (other s) u

-- the first part ends at the first separator
pub cut-more : (s : ℕ) (u v : Text) → free s u ≡ true → cut_at s (u ++ s ∷ v) ≡ u ∷ cut_at s v
unfolding cut_at free if◌then◌otherwise◌
cut-more s [] v t = rw (eq-eqb s s refl)
cut-more s (b ∷ bs) v t = let p = and_both (other s b) (every (other s) bs) t in rw (not-true (eqb b s) p.0, cut-more s bs v p.1)

-- a text with no separator is one part
pub cut-one : (s : ℕ) (u : Text) → free s u ≡ true → cut_at s u ≡ u ∷ []
unfolding cut_at free if◌then◌otherwise◌
cut-one s [] t = refl
cut-one s (b ∷ bs) t = let p = and_both (other s b) (every (other s) bs) t in rw (not-true (eqb b s) p.0, cut-one s bs p.1)
