-- Exam mode (02, #107): "an off-step number on a settings row of step 0.1 or 1 is -222, where it was rounded before".
use Rattle.std.specs.Prelude.{◌≡◌, Bool, true, false, not, List, ℕ, ℤ}
use Rattle.registers.specs.Text.{Text, if◌then◌otherwise◌}
use Rattle.registers.specs.Check.{Checked, refused, passed, ◌>>=◌, ◌>>◌, check}
use Rattle.registers.specs.Settings.{kind_of, quantity_of, value_at, exam, within, examined, on_step}
use Rattle.registers.specs.declared.rounding.Side.{Side}
use Rattle.registers.specs.declared.rounding.Side.TheVariants.{On}
use Rattle.registers.specs.declared.settings.Settings.{Settings}
use Rattle.interpreter.specs.Parameter.{parameter, words_of, takes_numbers, is_number, value_given, side_given, setting_deed}
use Rattle.interpreter.specs.Unit.{Read, read_unit}
use Rattle.interpreter.specs.declared.deed.Deed.{Deed}
use Rattle.interpreter.specs.declared.deed.Deed.TheVariants.{Change, Complete, Clear, Query, Inquire, Saving}
use Rattle.interpreter.specs.declared.deed.Change as changes
use Rattle.interpreter.specs.declared.deed.Change.TheVariants.{Nothing, Put, Reset, Store, Label}

-- 01's checks 5 to 7 on a setting: every number is rounded
unfoldable pub rounded_deed : Settings → ℕ → Text → Checked Deed
rounded_deed s i t =
    parameter (words_of (kind_of i)) (takes_numbers (kind_of i)) (quantity_of i) t >>= λ g.
    let v = value_given s i (kind_of i) g in
    check 222 (within s i v) >> passed (Change (Put i v (side_given (kind_of i) g)))

pub record ExamMode (s : Settings) (i : ℕ) (t : Text) : Type 0 where
  -- while it is on, what is off the step is -222
  pub off_step : examined s ≡ true → (v : ℤ) (x : Side) → (x ≡ On → ⊥) → rounded_deed s i t ≡ passed (Change (Put i v x)) → setting_deed s i t ≡ refused 222
  -- what is on the step is set as it was, and what was refused is refused as it was
  pub on_step : (v : ℤ) → rounded_deed s i t ≡ passed (Change (Put i v On)) → setting_deed s i t ≡ rounded_deed s i t
  pub refused_too : (n : ℕ) → rounded_deed s i t ≡ refused n → setting_deed s i t ≡ refused n
  -- while it is off, every number is rounded
  pub off : examined s ≡ false → setting_deed s i t ≡ rounded_deed s i t
  -- and so it always is for a row without a step: "SYSTem:EXAM itself still rounds"
  pub stepless : is_number (kind_of i) ≡ false → setting_deed s i t ≡ rounded_deed s i t

-- ---- a whole unit, whatever it is, over settings that differ in exam mode alone

-- the same values, but that exam mode is off in the first and on in the second
pub record Switched (s s' : Settings) : Type 0 where
  pub off : examined s ≡ false
  pub on : examined s' ≡ true
  pub others : (i : ℕ) → (i ≡ exam → ⊥) → value_at s i ≡ value_at s' i

-- a setting is given "an off-step number"
abbrev pub off_step_change : changes.Change → Bool
off_step_change Nothing = false
off_step_change (Put i v x) = not (on_step x)
off_step_change Reset = false
off_step_change (Store r n x) = false
off_step_change Label = false

abbrev pub off_step : Deed → Bool
off_step (Change x) = off_step_change x
off_step Complete = false
off_step Clear = false
off_step (Query q) = false
off_step (Inquire q) = false
off_step (Saving x p) = false

-- "is -222, where it was rounded before"; all else is as it was, what is refused too
unfoldable pub in_exam : Checked Read → Checked Read
in_exam (refused n) = refused n
in_exam (passed r) = if off_step r.deed then refused 222 otherwise passed r

abbrev pub ExamUnits : Type 0
ExamUnits = (s s' : Settings) → Switched s s' → (path : List Text) (u : Text) → read_unit s' path u ≡ in_exam (read_unit s path u)
