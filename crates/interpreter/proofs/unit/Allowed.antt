-- Checks 1 to 7 refuse only by numbers that a unit can raise, and what they accept is allowed. Check by check along the chain (proofs/Checks);
-- that each row's own deed is allowed is computed over the rows.
use mathlib.Core.Path.{◌≡◌, refl, subst}
use mathlib.Core.Bool.{Bool, true, false, ◌&&◌, false≢true}
use mathlib.Core.List.{List, [], ◌∷◌}
use Prim.Native.Nat.{ℕ, suc, ◌+◌, ◌-◌, ◌≤◌, ◌<◌}
use Prim.Native.String.{String}
use lib.Dec.{leb, ltb}
use lib.IntN.{ℤ, pos, negsuc, nat_abs}
use lib.Signed.{le_z}
use native.Mathlib.Omega.{arith}
use borrow.Author.Tests.{leb-true, ltb-true}
use lib.ListN.{length}
use Rattle.registers.specs.Text.{Text, if◌then◌otherwise◌, white, visible, every, after}
use Rattle.registers.specs.Label.{most_text, text_in}
use Rattle.registers.specs.Check.{refused, passed}
use Rattle.registers.specs.Queue.{may_be_queued, queueable}
use Rattle.registers.specs.Suffix.{suffixes, no_suffix, power_in, remains}
use Rattle.registers.specs.Number.{number}
use Rattle.registers.specs.Settings.{count, table_count, table}
use Rattle.registers.specs.Status.{widest}
use Rattle.registers.specs.declared.settings.Settings.{Settings}
use Rattle.registers.specs.declared.status.Register.{Register}
use Rattle.registers.specs.declared.suffix.Power.{Power}
use Rattle.registers.specs.declared.suffix.Quantity.{Quantity}
use Rattle.registers.specs.declared.suffix.Quantity.TheVariants.{Nothing as no_quantity, Volt, Ampere, Hertz, Second}
use Rattle.registers.proofs.Tests.{and_both}
use Rattle.interpreter.specs.Header.{Place, header, placed, body_of, by_first}
use Rattle.interpreter.specs.Rows.{Row, rows, setting_rows, other_rows, find_row, monitor, brightness, second_of, on_second, on_channel, find_role}
use Rattle.interpreter.specs.Parameter.{parameters, greatest, label_deed, find_word, parameter, setting_deed, limit_deed, register_given, register_deed, deed_of, store_given, place_given, saving_deed, read_figure, read_word}
use Rattle.interpreter.specs.Unit.{raisable, Read, parameter_text, read_unit}
use Rattle.interpreter.specs.Cuts.{trim}
use Rattle.interpreter.specs.ParameterParts.{parts_of}
use Rattle.interpreter.specs.UnitParts.{Allowed, AllowedLabel, AllowedText}
use Rattle.interpreter.specs.declared.deed.Deed.{Deed}
use Rattle.interpreter.specs.declared.deed.Deed.TheVariants.{Change, Complete, Clear, Query, Inquire, Saving}
use Rattle.interpreter.specs.declared.deed.Change as changes
use Rattle.interpreter.specs.declared.deed.Change.TheVariants.{Nothing, Put, Reset, Store, Label as labelled}
use Rattle.interpreter.specs.declared.deed.Role.{Role}
use Rattle.interpreter.specs.declared.deed.Role.TheVariants.{Setting as setting, Register as register, Only, Saving as saving, Label as label}
use Rattle.interpreter.specs.declared.deed.Saving as savings
use Rattle.interpreter.proofs.parameter.Cuts.{parts-one}
use Rattle.interpreter.proofs.parameter.ByKind.{greatest-one}
use Rattle.interpreter.proofs.unit.Trims.{trim-twice}
use Rattle.interpreter.proofs.Checks.{Holds, Any, refuses-by, passes, hold-bind, hold-check, hold-if, at-passed, at-refused}

-- ---- each reader refuses by such a number

none-known : (q : Quantity) → raisable (no_suffix q) ≡ true
unfolding no_suffix may_be_queued queueable
none-known no_quantity = refl
none-known Volt = refl
none-known Ampere = refl
none-known Hertz = refl
none-known Second = refl

power-known : (n : ℕ) → raisable n ≡ true → (xs : List (String × Power)) (t : Text) → Holds Any (power_in n xs t)
unfolding power_in
power-known n e [] t = refuses-by e
power-known n e (x ∷ xs) t = hold-if Any _ _ _ (passes tt) (power-known n e xs t)

remains-known : (q : Quantity) (t : Text) → Holds Any (remains q t)
unfolding remains may_be_queued queueable
remains-known q t = hold-if Any _ _ _ (power-known _ (none-known q) (suffixes q) t) (hold-check Any 121 _ _ refl (λ _. passes tt))

number-known : (q : Quantity) (t : Text) → Holds Any (number q t)
unfolding number may_be_queued queueable
number-known q t =
    hold-check Any 121 _ _ refl (λ _.
    hold-bind Any Any _ _ (remains-known q _) (λ p _.
    hold-check Any 124 _ _ refl (λ _.
    hold-check Any 123 _ _ refl (λ _. passes tt))))

placed-known : (p : Place) (names : List Text) (q : Bool) → Holds Any (placed p names q)
unfolding placed may_be_queued queueable
placed-known p names q = hold-check Any 102 _ _ refl (λ _. passes tt)

header-known : (t : Text) → Holds Any (header t)
unfolding body_of by_first header
header-known t = hold-if Any _ _ _ (placed-known _ _ _) (hold-if Any _ _ _ (placed-known _ _ _) (placed-known _ _ _))

find_word-known : (i : ℕ) (ws : List String) (t : Text) → Holds Any (find_word i ws t)
unfolding find_word may_be_queued queueable
find_word-known i [] t = refuses-by refl
find_word-known i (w ∷ ws) t = hold-if Any _ _ _ (passes tt) (find_word-known (suc i) ws t)

parameter-known : (ws : List String) (numbers : Bool) (q : Quantity) (t : Text) → Holds Any (parameter ws numbers q t)
unfolding parameter read_word read_figure may_be_queued queueable
parameter-known ws numbers q t =
    hold-if Any _ _ _ (hold-check Any 141 _ _ refl (λ _. find_word-known 0 ws t))
    (hold-if Any _ _ _ (hold-check Any 104 _ _ refl (λ _. hold-bind Any Any _ _ (number-known q t) (λ d _. passes tt))) (refuses-by refl))

-- ---- and what is accepted is allowed

-- and so is the text x that is given with it
abbrev Permits : Settings → Text → Deed → Type 0
Permits s x d = Allowed s d × AllowedText d x

module _ (s : Settings) (x : Text) where
  setting-allowed : (i : ℕ) → i < count → (t : Text) → Holds (Permits s x) (setting_deed s i t)
  unfolding setting_deed may_be_queued queueable
  setting-allowed i h t =
      hold-bind Any (Permits s x) _ _ (parameter-known _ _ _ t) (λ g _.
      hold-check (Permits s x) 222 _ _ refl (λ w.
      hold-check (Permits s x) 222 _ _ refl (λ v. passes ((h, w, v), tt))))

  limit-allowed : (i : ℕ) → i < count → (t : Text) → Holds (Permits s x) (limit_deed s i t)
  unfolding limit_deed
  limit-allowed i h t = hold-bind Any (Permits s x) _ _ (parameter-known _ _ _ t) (λ g _. passes (h, tt))

in-width : (v : ℤ) (m : ℕ) → (le_z (pos 0) v && le_z v (pos m)) ≡ true → nat_abs v ≤ m
in-width (pos n) m e = leb-true n m (and_both (leb 0 n) (leb n m) e).1
in-width (negsuc n) m e = absurd (false≢true e)

register-allowed : (s : Settings) (x : Text) (r : Register) (t : Text) → Holds (Permits s x) (register_deed r t)
unfolding register_deed store_given may_be_queued queueable
register-allowed s x r t =
    hold-bind Any (Permits s x) _ _ (parameter-known _ _ _ t) (λ g _.
    hold-check (Permits s x) 222 _ _ refl (λ w. passes (in-width (register_given g) (widest r) w, tt)))

label-allowed : (s : Settings) (t : Text) → Holds (Permits s (text_in t)) (label_deed t)
unfolding label_deed may_be_queued queueable
label-allowed s t =
    let Q : Deed → Type 0 = Permits s (text_in t) in
    hold-if Q _ _ _
    (hold-check Q 151 _ _ refl (λ _.
    hold-check Q 150 _ _ refl (λ stands.
    hold-check Q 223 _ _ refl (λ short. passes (tt, (stands, leb-true (length (text_in t)) most_text short))))))
    (refuses-by refl)

place-allowed : (s : Settings) (y : Text) (x : savings.Saving) (t : Text) → Holds (Permits s y) (saving_deed x t)
unfolding saving_deed place_given may_be_queued queueable
place-allowed s y x t =
    hold-bind Any (Permits s y) _ _ (parameter-known _ _ _ t) (λ g _.
    hold-check (Permits s y) 222 _ _ refl (λ w. passes (let h = in-width (register_given g) 9 w in omega arith, tt)))

-- ---- the rows: each setting is one of the seventeen, and each deed of a row's own is allowed

abbrev Proper : Settings → Role → Type 0
Proper s (setting i) = i < count
Proper s (register r) = Unit {0}
Proper s (Only d) = Allowed s d
Proper s (saving x) = Unit {0}
Proper s label = Unit {0}

abbrev EachProper : Settings → List Row → Type 0
EachProper s [] = Unit {0}
EachProper s (r ∷ rs) = Proper s r.role × EachProper s rs

rows-proper : (s : Settings) → EachProper s rows
unfolding rows setting_rows other_rows table
rows-proper s = search arith depth 60

-- and none of them stores a text
abbrev stores_none : changes.Change → Bool
stores_none Nothing = true
stores_none (Put i v x) = true
stores_none Reset = true
stores_none (Store r n x) = true
stores_none labelled = false

abbrev textless : Deed → Bool
textless (Change x) = stores_none x
textless Complete = true
textless Clear = true
textless (Query q) = true
textless (Inquire q) = true
textless (Saving x p) = true

abbrev plain : Role → Bool
plain (setting i) = true
plain (register r) = true
plain (Only d) = textless d
plain (saving x) = true
plain label = true

rows-plain : every (λ (r : Row). plain r.role) rows ≡ true
unfolding rows setting_rows other_rows table
rows-plain = refl

stores-none : (x : changes.Change) → stores_none x ≡ true → (t : Text) → AllowedLabel x t
stores-none Nothing e t = tt
stores-none (Put i v x) e t = tt
stores-none Reset e t = tt
stores-none (Store r n x) e t = tt
stores-none labelled e t = absurd (false≢true e)

any-text : (d : Deed) → textless d ≡ true → (t : Text) → AllowedText d t
any-text (Change x) e t = stores-none x e t
any-text Complete e t = tt
any-text Clear e t = tt
any-text (Query q) e t = tt
any-text (Inquire q) e t = tt
any-text (Saving x p) e t = tt

abbrev Known : Settings → Role → Type 0
Known s r = Proper s r × (plain r ≡ true)

find-known : (s : Settings) (star : Bool) (names : List Text) (asked : Bool) (rs : List Row) → EachProper s rs
    → every (λ (r : Row). plain r.role) rs ≡ true → Holds (Known s) (find_row star names asked rs)
unfolding find_row may_be_queued queueable
find-known s star names asked [] p e = refuses-by refl
find-known s star names asked (r ∷ rs) p e =
    let q = and_both (plain r.role) (every (λ (r : Row). plain r.role) rs) e in
    hold-if (Known s) _ _ _ (passes (p.0, q.0)) (find-known s star names asked rs p.1 q.1)

-- on a channel it is one of the thirty
second-slot : (i : ℕ) → Holds (λ (j : ℕ). j < count) (second_of i)
unfolding second_of may_be_queued queueable if◌then◌otherwise◌
second-slot i = go (ltb i monitor) refl (ltb monitor i && ltb i brightness) refl
  where
    go : (a : Bool) → ltb i monitor ≡ a → (b : Bool) → (ltb monitor i && ltb i brightness) ≡ b
        → Holds (λ (j : ℕ). j < count) (if a then passed (i + table_count) otherwise (if b then passed (i + (table_count - 1)) otherwise refused 114))
    go true p b q = passes (let h = ltb-true i monitor p in omega arith)
    go false p true q = passes (let h = ltb-true i brightness (and_both (ltb monitor i) (ltb i brightness) q).1 in omega arith)
    go false p false q = refuses-by refl

second-known : (s : Settings) (r : Role) → Holds (Known s) (on_second r)
unfolding may_be_queued queueable
second-known s (setting i) = hold-bind (λ (j : ℕ). j < count) (Known s) _ _ (second-slot i) (λ j h. passes (h, refl))
second-known s (register r) = refuses-by refl
second-known s (Only d) = refuses-by refl
second-known s (saving x) = refuses-by refl
second-known s label = refuses-by refl

role-known : (s : Settings) (star : Bool) (names : List Text) (asked : Bool) → Holds (Known s) (find_role star names asked)
unfolding find_role on_channel may_be_queued queueable
role-known s star names asked =
    hold-bind (Known s) (Known s) _ _ (find-known s star names asked rows (rows-proper s) rows-plain) (λ r p.
    hold-if (Known s) _ _ _ (passes p) (hold-if (Known s) _ _ _ (second-known s r) (refuses-by refl)))

-- of a text that is no parameter, or one
deed-allowed : (s : Settings) (r : Role) (asked : Bool) (t : Text) → Known s r → Holds (Permits s (text_in t)) (deed_of s r asked (parts_of t))
unfolding deed_of may_be_queued queueable if◌then◌otherwise◌
deed-allowed s (setting i) true [] p = passes (p.0, tt)
deed-allowed s (setting i) true (b ∷ t) p = limit-allowed s _ i p.0 (b ∷ t)
deed-allowed s (setting i) false [] p = refuses-by refl
deed-allowed s (setting i) false (b ∷ t) p = setting-allowed s _ i p.0 (b ∷ t)
deed-allowed s (register r) true t p = passes (tt, tt)
deed-allowed s (register r) false [] p = refuses-by refl
deed-allowed s (register r) false (b ∷ t) p = register-allowed s _ r (b ∷ t)
deed-allowed s (Only d) asked t p = passes (p.0, any-text d p.1 (text_in t))
deed-allowed s label true t p = passes (tt, tt)
deed-allowed s label false [] p = refuses-by refl
deed-allowed s label false (b ∷ t) p = label-allowed s (b ∷ t)
deed-allowed s (saving x) asked [] p = refuses-by refl
deed-allowed s (saving x) asked (b ∷ t) p = place-allowed s _ x (b ∷ t)

-- ---- the whole unit

-- check 4 lets at most one parameter pass, which is the whole text
deed-reads : (s : Settings) (r : Role) (asked : Bool) (t : Text) → trim t ≡ t → Known s r → length (parameters t) ≤ greatest r asked
    → Holds (Permits s (text_in t)) (deed_of s r asked (parameters t))
deed-reads s r asked t e p h =
    subst (λ (ps : List Text). Holds (Permits s (text_in t)) (deed_of s r asked ps)) (parts-one t e (omega (arith, greatest-one r asked))) (deed-allowed s r asked t p)

reads : (s : Settings) (path : List Text) (u : Text) → Holds (λ (r : Read). Permits s r.text r.deed) (read_unit s path u)
unfolding read_unit may_be_queued queueable
reads s path u =
    let Q : Read → Type 0 = λ r. Permits s r.text r.deed in
    let t = parameter_text u in
    hold-check Q 101 _ _ refl (λ _.
    hold-bind Any Q _ _ (header-known _) (λ h _.
    hold-check Q 102 _ _ refl (λ _.
    hold-bind (Known s) Q _ _ (role-known s _ _ _) (λ r p.
    hold-check Q 108 _ _ refl (λ few.
    hold-check Q 109 _ _ refl (λ _.
    hold-bind (Permits s (text_in t)) Q _ _
    (deed-reads s r h.query t (trim-twice (after visible (after white u))) p (leb-true (length (parameters t)) (greatest r h.query) few)) (λ d a. passes a)))))))

-- what an accepted unit does keeps every limit
pub read-allowed : (s : Settings) (path : List Text) (u : Text) {r : Read} → read_unit s path u ≡ passed r → Allowed s r.deed
read-allowed s path u e = (at-passed (reads s path u) e).0

-- the text's limits too
pub text-allowed : (s : Settings) (path : List Text) (u : Text) {r : Read} → read_unit s path u ≡ passed r → AllowedText r.deed r.text
text-allowed s path u e = (at-passed (reads s path u) e).1

-- a refused unit raises an error that is a unit's
pub read_known : (s : Settings) (path : List Text) (u : Text) {n : ℕ} → read_unit s path u ≡ refused n → raisable n ≡ true
read_known s path u e = at-refused (reads s path u) e
