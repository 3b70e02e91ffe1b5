-- Exam mode on a whole unit (02, #107): over settings that differ in it alone, every check is the same but the one of a number's side.
use mathlib.Core.Path.{◌≡◌, refl, ◌∙◌, ap}
use mathlib.Core.Bool.{Bool, true, false, not}
use mathlib.Core.List.{List, [], ◌∷◌}
use Prim.Native.Nat.{ℕ, zero, suc}
use native.Mathlib.Omega.{arith}
use lib.IntN.{ℤ, pos}
use lib.Signed.{le_z}
use borrow.Author.Tests.{not-true}
use Rattle.registers.specs.Text.{Text, if◌then◌otherwise◌, every, first}
use Rattle.registers.specs.Check.{Checked, refused, passed, ◌>>=◌, ◌>>◌, check}
use Rattle.registers.specs.Settings.{Kind, bool, words, number, table, kind_of, range, range2, exam, wide_range, narrow, highest, within, accepted}
use Rattle.registers.specs.Label.{text_in}
use Rattle.registers.specs.declared.rounding.Side.{Side}
use Rattle.registers.specs.declared.rounding.Side.TheVariants.{On, Below, Above}
use Rattle.registers.specs.declared.settings.Settings.{Settings}
use Rattle.registers.specs.declared.status.Register.{Register}
use Rattle.registers.proofs.Tests.{and_both}
use Rattle.interpreter.specs.Cuts.{is_quote}
use Rattle.interpreter.specs.Header.{Header, is_common, full_names, path_after}
use Rattle.interpreter.specs.Rows.{Row, rows, setting_rows, other_rows, fits_row, find_row, on_second, on_channel, find_role}
use Rattle.interpreter.specs.Parameter.{parameters, Given, Word, Figure, limit_at, limit_given, value_given, side_given, put_given, setting_deed, limit_deed, register_deed, store_given, label_deed, place_given, saving_deed, deed_of}
use Rattle.interpreter.specs.Unit.{Read, parameter_text, read_unit}
use Rattle.interpreter.specs.Exam.{Switched, off_step, in_exam, ExamUnits}
use Rattle.interpreter.specs.declared.deed.Deed.{Deed}
use Rattle.interpreter.specs.declared.deed.Deed.TheVariants.{Change}
use Rattle.interpreter.specs.declared.deed.Change.TheVariants.{Put}
use Rattle.interpreter.specs.declared.deed.Role.{Role}
use Rattle.interpreter.specs.declared.deed.Role.TheVariants.{Setting as setting, Register as register, Only, Saving as saving, Label as label}
use Rattle.interpreter.specs.declared.deed.Saving as savings
use Rattle.interpreter.proofs.Choices.{if-elim}
use Rattle.interpreter.proofs.demands.isolation.Reading.{Then, stops, goes, then-bind, then_at}

-- ---- chains of checks that end alike

module _ {A : Type 0} where
  bind-law : (m : Checked A) (f f' : A → Checked Read) → ((a : A) → m ≡ passed a → f' a ≡ in_exam (f a)) → (m >>= f') ≡ in_exam (m >>= f)
  unfolding ◌>>=◌ in_exam
  bind-law (refused n) f f' k = refl
  bind-law (passed a) f f' k = k a refl

check-law : (n : ℕ) (t : Bool) (x x' : Checked Read) → x' ≡ in_exam x → (check n t >> x') ≡ in_exam (check n t >> x)
unfolding check ◌>>◌ in_exam
check-law n true x x' e = e
check-law n false x x' e = refl

-- the same of what a deed is read from
exam_deed : Checked Deed → Checked Deed
exam_deed (refused n) = refused n
exam_deed (passed d) = if off_step d then refused 222 otherwise passed d

deed-bind : (m : Checked Deed) (f : Deed → Read) → ((d : Deed) → (f d).deed ≡ d) → (exam_deed m >>= λ d. passed (f d)) ≡ in_exam (m >>= λ d. passed (f d))
unfolding ◌>>=◌ in_exam exam_deed if◌then◌otherwise◌
deed-bind (refused n) f k = refl
deed-bind (passed d) f k = go (off_step d) (ap off_step (k d))
  where
    go : (t : Bool) → off_step (f d).deed ≡ t → ((if t then refused 222 otherwise passed d) >>= λ d. passed (f d)) ≡ (if off_step (f d).deed then refused 222 otherwise passed (f d))
    go true e = rw e
    go false e = rw e

steady-bind : {A : Type 0} (m : Checked A) (f f' : A → Checked Deed) → ((a : A) → f' a ≡ exam_deed (f a)) → (m >>= f') ≡ exam_deed (m >>= f)
unfolding ◌>>=◌ exam_deed
steady-bind (refused n) f f' k = refl
steady-bind (passed a) f f' k = k a

steady-check : (n : ℕ) (t : Bool) (x x' : Checked Deed) → x' ≡ exam_deed x → (check n t >> x') ≡ exam_deed (check n t >> x)
unfolding check ◌>>◌ exam_deed
steady-check n true x x' e = e
steady-check n false x x' e = refl

-- ---- a row's own deed gives no number

steady : Role → Bool
steady (setting i) = true
steady (register r) = true
steady (Only d) = not (off_step d)
steady (saving x) = true
steady label = true

rows-steady : every (λ (r : Row). steady r.role) rows ≡ true
unfolding rows setting_rows other_rows table steady
rows-steady = refl

abbrev Steady : Role → Type 0
Steady r = steady r ≡ true

find-steady : (star : Bool) (names : List Text) (asked : Bool) (rs : List Row) → every (λ (r : Row). steady r.role) rs ≡ true → Then Steady (find_row star names asked rs)
unfolding find_row
find-steady star names asked [] e = stops
find-steady star names asked (r ∷ rs) e =
    let p = and_both (steady r.role) (every (λ (r : Row). steady r.role) rs) e in
    if-elim (Then Steady) (fits_row star names asked r) (λ _. goes p.0) (λ _. find-steady star names asked rs p.1)

second-steady : (r : Role) → Then Steady (on_second r)
unfolding steady
second-steady (setting i) = then-bind Steady _ _ (λ j _. goes refl)
second-steady (register r) = stops
second-steady (Only d) = stops
second-steady (saving x) = stops
second-steady label = stops

role-steady : (star : Bool) (names : List Text) (asked : Bool) → Then Steady (find_role star names asked)
unfolding find_role on_channel
role-steady star names asked =
    then-bind Steady _ _ (λ r found.
    if-elim (Then Steady) _ (λ _. goes (then_at (find-steady star names asked rows rows-steady) found))
    (λ _. if-elim (Then Steady) _ (λ _. second-steady r) (λ _. stops)))

-- ---- the limits are the same

module _ (s s' : Settings) (w : Switched s s') where
  wide-same : (r : ℕ) → (r ≡ exam → ⊥) → wide_range s r ≡ wide_range s' r
  unfolding wide_range
  wide-same r h = ap (le_z (pos 1)) (w.others r h)

  narrow-same : (i : ℕ) → narrow s i ≡ narrow s' i
  unfolding narrow
  narrow-same i = rw (wide-same range (λ e. omega arith), wide-same range2 (λ e. omega arith))

  highest-same : (i : ℕ) → highest s i ≡ highest s' i
  unfolding highest
  highest-same i = rw (narrow-same i)

  within_same : (i : ℕ) (v : ℤ) → within s i v ≡ within s' i v
  unfolding within
  within_same i v = rw (highest-same i)

  limit-same : (i n : ℕ) → limit_at s i n ≡ limit_at s' i n
  limit-same i zero = refl
  limit-same i (suc n) = highest-same i

  given-same : (i : ℕ) (g : Given) → limit_given s i g ≡ limit_given s' i g
  given-same i (Word n) = limit-same i n
  given-same i (Figure d) = refl

  value_same : (i : ℕ) (k : Kind) (g : Given) → value_given s i k g ≡ value_given s' i k g
  unfolding value_given
  value_same i bool (Word n) = refl
  value_same i bool (Figure d) = refl
  value_same i (words ws) (Word n) = refl
  value_same i (words ws) (Figure d) = refl
  value_same i (number k low high) (Word n) = limit-same i n
  value_same i (number k low high) (Figure d) = refl

  -- ---- the deeds

  side-law : (i : ℕ) (v : ℤ) (x : Side) → (check 222 (accepted s' x) >> passed (Change (Put i v x))) ≡ exam_deed (check 222 (accepted s x) >> passed (Change (Put i v x)))
  unfolding accepted check ◌>>◌ exam_deed if◌then◌otherwise◌
  side-law i v On = refl
  side-law i v Below = rw (w.on, w.off)
  side-law i v Above = rw (w.on, w.off)

  put-law : (i : ℕ) (v : ℤ) (x : Side) → put_given s' i v x ≡ exam_deed (put_given s i v x)
  put-law i v x = rw (← within_same i v) (steady-check 222 (within s i v) _ _ (side-law i v x))

  setting-law : (i : ℕ) (t : Text) → setting_deed s' i t ≡ exam_deed (setting_deed s i t)
  unfolding setting_deed
  setting-law i t =
      steady-bind _ _ _ (λ g. rw (← value_same i (kind_of i) g) (put-law i (value_given s i (kind_of i) g) (side_given (kind_of i) g)))

  limit-law : (i : ℕ) (t : Text) → limit_deed s' i t ≡ exam_deed (limit_deed s i t)
  unfolding limit_deed exam_deed if◌then◌otherwise◌
  limit-law i t = steady-bind _ _ _ (λ g. rw (given-same i g))

  -- ---- the others don't look at the settings

  register-law : (r : Register) (t : Text) → register_deed r t ≡ exam_deed (register_deed r t)
  unfolding register_deed store_given exam_deed if◌then◌otherwise◌
  register-law r t = steady-bind _ _ _ (λ g. steady-check 222 _ _ _ refl)

  saving-law : (x : savings.Saving) (t : Text) → saving_deed x t ≡ exam_deed (saving_deed x t)
  unfolding saving_deed place_given exam_deed if◌then◌otherwise◌
  saving-law x t = steady-bind _ _ _ (λ g. steady-check 222 _ _ _ refl)

  label-law : (t : Text) → label_deed t ≡ exam_deed (label_deed t)
  unfolding label_deed exam_deed if◌then◌otherwise◌
  label-law t =
      if-elim (λ (m : Checked Deed). m ≡ exam_deed m) (is_quote (first t))
      (λ _. steady-check 151 _ _ _ (steady-check 150 _ _ _ (steady-check 223 _ _ _ refl))) (λ _. refl)

  deed-law : (r : Role) (asked : Bool) (ps : List Text) → steady r ≡ true → deed_of s' r asked ps ≡ exam_deed (deed_of s r asked ps)
  unfolding deed_of exam_deed steady if◌then◌otherwise◌
  deed-law (setting i) true [] e = refl
  deed-law (setting i) true (t ∷ ts) e = limit-law i t
  deed-law (setting i) false [] e = refl
  deed-law (setting i) false (t ∷ ts) e = setting-law i t
  deed-law (register r) true ps e = refl
  deed-law (register r) false [] e = refl
  deed-law (register r) false (t ∷ ts) e = register-law r t
  deed-law (Only d) asked ps e = rw (not-true (off_step d) e)
  deed-law (saving x) asked [] e = refl
  deed-law (saving x) asked (t ∷ ts) e = saving-law x t
  deed-law label true ps e = refl
  deed-law label false [] e = refl
  deed-law label false (t ∷ ts) e = label-law t

pub exam-units : ExamUnits
unfolding read_unit
exam-units s s' w path u =
    check-law 101 _ _ _
    (bind-law {A = Header} _ _ _ (λ h _.
    check-law 102 _ _ _
    (bind-law {A = Role} _ _ _ (λ r found.
    check-law 108 _ _ _
    (check-law 109 _ _ _
    (ends h r found))))))
  where
    reading : Header → Deed → Read
    reading h d = record { deed = d; text = text_in (parameter_text u); path = path_after h.place path h.names }

    ends : (h : Header) (r : Role) → find_role (is_common h.place) (full_names h.place path h.names) h.query ≡ passed r
        → let ps = parameters (parameter_text u) in
        (deed_of s' r h.query ps >>= λ d. passed (reading h d)) ≡ in_exam (deed_of s r h.query ps >>= λ d. passed (reading h d))
    ends h r found =
        let ps = parameters (parameter_text u) in
        ap (λ (m : Checked Deed). m >>= λ d. passed (reading h d)) (deed-law s s' w r h.query ps (then_at (role-steady _ _ _) found))
        ∙ deed-bind (deed_of s r h.query ps) (reading h) (λ d. refl)
