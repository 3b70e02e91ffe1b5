-- A number for a setting, by what the setting's values are: tenths and whole numbers are rounded within the limits (`number_is`), a bool
-- and a word have no step to be off (`other-is`).
use mathlib.Core.Path.{◌≡◌, refl, sym, ap, ◌∙◌}
use mathlib.Core.Bool.{false}
use Prim.Native.Nat.{ℕ, ◌<◌}
use lib.Signed.{mag}
use lib.IntN.{ℤ}
use mir.Syntax.{w32}
use mir.Val.{of_z, to_z}
use Rattle.registers.specs.Rounding.{rounded, side_in, RoundedIn}
use Rattle.registers.specs.Settings.{kind_of, sort_of, meant_values, lowest, highest}
use Rattle.std.specs.Prelude.{Some}
use Rattle.registers.specs.declared.rounding.Rounded.{Rounded}
use Rattle.registers.specs.declared.rounding.Side.{Side}
use Rattle.registers.specs.declared.rounding.Side.TheVariants.{On}
use Rattle.registers.specs.declared.number.Decimal.{Decimal}
use Rattle.registers.specs.declared.settings.Settings.{Settings}
use Rattle.registers.specs.declared.settings.Values.{Values}
use Rattle.interpreter.specs.Parameter.{Figure, value_given, side_given}
use Rattle.interpreter.specs.ParameterParts.{rounded_to}
use Rattle.interpreter.proofs.parameter.Decisions.{back, switched-byte, rounded-in, fit-within}
use Rattle.interpreter.proofs.parameter.Limits.{figure-within}
use Rattle.interpreter.proofs.parameter.ByKind.{figure_in, figure-in, side_of, side-of, number_in, number-in}
use Rattle.interpreter.proofs.parameter.figure_value.Goals as goal

abbrev plain : ℤ → Rounded
plain z = record { fit = Some z; side = On }

-- what is to be answered
abbrev value : Settings → ℕ → Decimal → ℤ
value s row d = value_given s row (kind_of row) (Figure d)

abbrev side : ℕ → Decimal → Side
side row d = side_given (kind_of row) (Figure d)

abbrev answer : Settings → ℕ → Decimal → Rounded
answer s row d = rounded_to s row (value s row d) (side row d)

-- what is answered once the sort of the values is told
module _ (s : Settings) (row : ℕ) (d : Decimal) {v told : Values} (tells : told ≡ v) (of : meant_values told ≡ sort_of (kind_of row)) where
  number_is : (k : ℕ) (low high : ℤ) → low ≡ lowest row → high ≡ highest s row → figure_in d v ≡ rounded k d → side_of d v ≡ side_in k d
      → {r : Rounded} → RoundedIn k low high d r → r ≡ answer s row d
  number_is k low high l h is on e =
      rounded-in k s row d l h e
      ∙ ap (λ z. rounded_to s row z (side_in k d)) (sym is ∙ figure-in row tells of s d)
      ∙ ap (rounded_to s row (value s row d)) (sym on ∙ side-of row tells of d)

  -- a row without a step
  other-is : number_in v ≡ false → side_of d v ≡ On → plain (figure_in d v) ≡ answer s row d
  other-is none on =
      let other = number-in (kind_of row) tells of ∙ none in
      ap plain (figure-in row tells of s d)
      ∙ ap (λ f. record { fit = f; side = On }) (fit-within s row _ (figure-within s row other d))
      ∙ ap (rounded_to s row (value s row d)) (sym on ∙ side-of row tells of d)

-- a signed number comes back from its bits
as-said : {z w : ℤ} → mag z < 2147483648 → z ≡ w → to_z w32 (of_z w32 z) ≡ w
as-said {z} fits is = back z fits ∙ is

pub returns-in-Tenths : goal.returns-in-Tenths
returns-in-Tenths c =
    let a = c.args in
    number_is a.settings a.row a.d c.in-Tenths.is c.values_of-values.ensures 10 _ _ (as-said c.lowest-low.type_inv c.lowest-low.ensures)
    (as-said c.highest-high.type_inv c.highest-high.ensures) refl refl c.round_in.ensures

pub returns-in-Whole : goal.returns-in-Whole
returns-in-Whole c =
    let a = c.args in
    number_is a.settings a.row a.d c.in-Whole.is c.values_of-values.ensures 1 _ _ (as-said c.lowest-low.type_inv c.lowest-low.ensures)
    (as-said c.highest-high.type_inv c.highest-high.ensures) refl refl c.round_in-in-Whole.ensures

pub returns-in-Bool : goal.returns-in-Bool
returns-in-Bool c =
    let a = c.args in
    ap plain (as-said c.from.type_inv c.from.ensures ∙ switched-byte c.switches_on.result)
    ∙ rw (← c.switches_on.ensures) at (other-is a.settings a.row a.d c.in-Bool.is c.values_of-values.ensures refl refl)

pub returns-in-Word : goal.returns-in-Word
returns-in-Word c = let a = c.args in other-is a.settings a.row a.d c.in-Word.is c.values_of-values.ensures refl refl
