-- What a value's text is, by the kind of values that the code was told.
use mathlib.Core.Path.{◌≡◌, refl, sym, ◌∙◌, ap}
use Prim.Native.Nat.{ℕ}
use native.Mathlib.Omega.{arith}
use lib.IntN.{ℤ}
use mathlib.Core.Logic.{◌⊎◌, inl, inr}
use Rattle.registers.specs.Text.{if◌then◌otherwise◌}
use Rattle.registers.specs.Answer.{decimal, tenths, signed_text}
use Rattle.registers.specs.Settings.{Kind, bool, words, number, answer_of, bools, numbers, sort_of, meant_values}
use Rattle.registers.specs.declared.settings.Values.{Values}
use Rattle.registers.specs.declared.settings.Values.TheVariants.{Bool as BoolValue, Whole}

pub tenths-text : (k : Kind) (z : ℤ) → numbers 10 ≡ sort_of k → answer_of k z ≡ signed_text tenths z
unfolding answer_of if◌then◌otherwise◌
tenths-text bool z e = let y : ◌≡◌ {A = ℕ} 0 1 = cc in absurd (omega arith)
tenths-text (words ws) z e = let y : ◌≡◌ {A = ℕ} 0 1 = cc in absurd (omega arith)
tenths-text (number n low high) z e = let q : n ≡ 10 = cc in rw q

whole-text : (k : Kind) (z : ℤ) → numbers 1 ≡ sort_of k → answer_of k z ≡ signed_text decimal z
unfolding answer_of if◌then◌otherwise◌
whole-text bool z e = let y : ◌≡◌ {A = ℕ} 0 1 = cc in absurd (omega arith)
whole-text (words ws) z e = let y : ◌≡◌ {A = ℕ} 0 1 = cc in absurd (omega arith)
whole-text (number n low high) z e = let q : n ≡ 1 = cc in rw q

bool-text : (k : Kind) (z : ℤ) → bools ≡ sort_of k → answer_of k z ≡ signed_text decimal z
unfolding answer_of
bool-text bool z e = refl
bool-text (words ws) z e = let y : ◌≡◌ {A = ℕ} 0 1 = cc in absurd (omega arith)
bool-text (number n low high) z e = let y : ◌≡◌ {A = ℕ} 0 1 = cc in absurd (omega arith)

-- the two that are written alike
pub decimal-text : (told : Values) → (told ≡ Whole) ⊎ (told ≡ BoolValue) → (k : Kind) (z : ℤ) → meant_values told ≡ sort_of k → answer_of k z ≡ signed_text decimal z
decimal-text told (inl is) k z e = whole-text k z (ap meant_values (sym is) ∙ e)
decimal-text told (inr is) k z e = bool-text k z (ap meant_values (sym is) ∙ e)
