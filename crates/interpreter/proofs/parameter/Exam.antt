-- Exam mode (02, #107): what it refuses, and that nothing else is changed by it. Both chains of checks read the same parameter, and what
-- holds of the two for each parameter, by whether its value is within the limits and accepted, holds of the chains (`each`).
use mathlib.Core.Path.{◌≡◌, refl, sym}
use mathlib.Core.Bool.{Bool, true, false, false≢true}
use Prim.Native.Nat.{ℕ}
use lib.IntN.{ℤ}
use Rattle.registers.specs.Text.{Text}
use Rattle.registers.specs.Check.{Checked, refused, passed, ◌>>=◌, ◌>>◌, check}
use Rattle.registers.specs.Settings.{Kind, bool, words, number, kind_of, quantity_of, within, examined, accepted}
use Rattle.registers.specs.declared.rounding.Side.{Side}
use Rattle.registers.specs.declared.rounding.Side.TheVariants.{On, Below, Above}
use Rattle.registers.specs.declared.settings.Settings.{Settings}
use Rattle.interpreter.specs.Parameter.{Given, parameter, words_of, takes_numbers, value_given, side_given, setting_deed, is_number}
use Rattle.interpreter.specs.Exam.{rounded_deed, ExamMode}
use Rattle.interpreter.specs.declared.deed.Deed.{Deed}
use Rattle.interpreter.specs.declared.deed.Deed.TheVariants.{Change}
use Rattle.interpreter.specs.declared.deed.Change.TheVariants.{Put}

module _ (s : Settings) (i : ℕ) where
  abbrev put : Given → Deed
  put g = Change (Put i (value_given s i (kind_of i) g) (side_given (kind_of i) g))

  -- check 7 by whether the value is within the limits: by 01 alone, and with exam mode
  abbrev by_one : Bool → Given → Checked Deed
  by_one w g = check 222 w >> passed (put g)

  abbrev with_exam : Bool → Given → Checked Deed
  with_exam w g = check 222 w >> check 222 (accepted s (side_given (kind_of i) g)) >> passed (put g)

  abbrev before : Given → Checked Deed
  before g = by_one (within s i (value_given s i (kind_of i) g)) g

  abbrev next : Given → Checked Deed
  next g = with_exam (within s i (value_given s i (kind_of i) g)) g

  -- what holds of the two for each parameter holds of the two chains
  each : (Q : Checked Deed → Checked Deed → Type 0) → ((n : ℕ) → Q (refused n) (refused n)) → ((w : Bool) (g : Given) → Q (by_one w g) (with_exam w g))
      → (m : Checked Given) → Q (m >>= before) (m >>= next)
  unfolding ◌>>=◌
  each Q r f (refused n) = r n
  each Q r f (passed g) = f (within s i (value_given s i (kind_of i) g)) g

  accepted-same : ((g : Given) → accepted s (side_given (kind_of i) g) ≡ true) → (m : Checked Given) → (m >>= next) ≡ (m >>= before)
  unfolding check ◌>>◌
  accepted-same h = each (λ b c. c ≡ b) (λ n. refl) (λ w g. rw (h g))

  off-refused : (m : Checked Given) (v : ℤ) (x : Side) → accepted s x ≡ false → (m >>= before) ≡ passed (Change (Put i v x)) → (m >>= next) ≡ refused 222
  unfolding check ◌>>◌
  off-refused = each (λ b c. (v : ℤ) (x : Side) → accepted s x ≡ false → b ≡ passed (Change (Put i v x)) → c ≡ refused 222) (λ n v x f e. cc) go
    where
      go : (w : Bool) (g : Given) (v : ℤ) (x : Side) → accepted s x ≡ false → by_one w g ≡ passed (Change (Put i v x)) → with_exam w g ≡ refused 222
      go false g v x f e = refl
      go true g v x f e = let is : side_given (kind_of i) g ≡ x = cc in rw (is, f)

  on_same : (m : Checked Given) (v : ℤ) (x : Side) → accepted s x ≡ true → (m >>= before) ≡ passed (Change (Put i v x)) → (m >>= next) ≡ (m >>= before)
  unfolding check ◌>>◌
  on_same = each (λ b c. (v : ℤ) (x : Side) → accepted s x ≡ true → b ≡ passed (Change (Put i v x)) → c ≡ b) (λ n v x f e. refl) go
    where
      go : (w : Bool) (g : Given) (v : ℤ) (x : Side) → accepted s x ≡ true → by_one w g ≡ passed (Change (Put i v x)) → with_exam w g ≡ by_one w g
      go false g v x f e = refl
      go true g v x f e = let is : side_given (kind_of i) g ≡ x = cc in rw (is, f)

  refused-same : (m : Checked Given) (n : ℕ) → (m >>= before) ≡ refused n → (m >>= next) ≡ refused n
  unfolding check ◌>>◌
  refused-same = each (λ b c. (n : ℕ) → b ≡ refused n → c ≡ refused n) (λ k n e. e) go
    where
      go : (w : Bool) (g : Given) (n : ℕ) → by_one w g ≡ refused n → with_exam w g ≡ refused n
      go false g n e = e
      go true g n e = cc

accepted-off : (s : Settings) (x : Side) → examined s ≡ false → accepted s x ≡ true
unfolding accepted
accepted-off s On e = refl
accepted-off s Below e = rw e
accepted-off s Above e = rw e

unaccepted : (s : Settings) (x : Side) → examined s ≡ true → (x ≡ On → ⊥) → accepted s x ≡ false
unfolding accepted
unaccepted s On e h = absurd (h refl)
unaccepted s Below e h = rw e
unaccepted s Above e h = rw e

no_step : (s : Settings) (k : Kind) (g : Given) → is_number k ≡ false → accepted s (side_given k g) ≡ true
unfolding accepted
no_step s bool g e = refl
no_step s (words ws) g e = refl
no_step s (number k low high) g e = absurd (false≢true (sym e))

pub exam-mode : (s : Settings) (i : ℕ) (t : Text) → ExamMode s i t
unfolding setting_deed rounded_deed accepted
exam-mode s i t =
    let m = parameter (words_of (kind_of i)) (takes_numbers (kind_of i)) (quantity_of i) t in
    record {
      off_step = λ e v x h q. off-refused s i m v x (unaccepted s x e h) q;
      on_step = λ v q. on_same s i m v On refl q;
      refused_too = λ n q. refused-same s i m n q;
      off = λ e. accepted-same s i (λ g. accepted-off s (side_given (kind_of i) g) e) m;
      stepless = λ e. accepted-same s i (λ g. no_step s (kind_of i) g e) m;
    }
