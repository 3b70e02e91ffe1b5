-- A unit that sets nothing of channel 2 is read alike over settings that agree but for channel 2: the checks up to the row don't look at the
-- settings, and those after it look at the unit's own slot, at its channel's range and at exam mode. What sets a setting of channel 2 and
-- is read does nothing else.
use mathlib.Core.Path.{◌≡◌, refl, ap, subst}
use mathlib.Core.Bool.{Bool, true, false, not, ◌&&◌, false≢true}
use mathlib.Core.List.{List, [], ◌∷◌}
use Prim.Native.Nat.{ℕ, zero, suc}
use native.Mathlib.Omega.{arith}
use lib.Dec.{eqb}
use lib.IntN.{ℤ, pos}
use lib.Signed.{le_z}
use borrow.Author.Tests.{ne_eqb, leb-false}
use Rattle.registers.specs.Text.{Text, every, first}
use Rattle.interpreter.specs.Cuts.{is_quote}
use Rattle.registers.specs.Check.{Checked, refused, passed, ◌>>=◌, ◌>>◌, check}
use Rattle.registers.specs.Queue.{may_be_queued, queueable}
use Rattle.registers.specs.Settings.{Kind, bool, words, number, table, table_count, second, kind_of, quantity_of, value_at, voltage, voltage2, range, range2, exam, wide_range, narrow, highest, within, examined, accepted, conflict}
use Rattle.registers.specs.declared.rounding.Side.{Side}
use Rattle.registers.specs.declared.settings.Settings.{Settings}
use Rattle.registers.proofs.Tests.{and_both}
use Rattle.interpreter.specs.Header.{header, is_common, full_names}
use Rattle.interpreter.specs.Rows.{Row, rows, setting_rows, other_rows, find_row, second_of, on_second, on_channel, find_role}
use Rattle.interpreter.specs.Parameter.{Given, Word, Figure, parameters, parameter, limit_words, words_of, takes_numbers, limit_at, limit_given, value_given, side_given, put_given, setting_deed, limit_deed, register_deed, store_given, label_deed, place_given, saving_deed, deed_of}
use Rattle.interpreter.specs.Unit.{Read, header_text, parameter_text, read_unit}
use Rattle.interpreter.specs.Isolation.{of_second, sets_second, path_left}
use Rattle.interpreter.specs.declared.deed.Deed.{Deed}
use Rattle.interpreter.specs.declared.deed.Deed.TheVariants.{Change, Complete, Clear, Query, Inquire, Saving}
use Rattle.interpreter.specs.declared.deed.Change as changes
use Rattle.interpreter.specs.declared.deed.Change.TheVariants.{Nothing, Put, Reset, Store, Label as labelled}
use Rattle.interpreter.specs.declared.deed.Query.TheVariants.{Limit}
use Rattle.interpreter.specs.declared.deed.Role.{Role}
use Rattle.interpreter.specs.declared.deed.Role.TheVariants.{Setting as setting, Register as register, Only, Saving as saving, Label as label}
use Rattle.interpreter.specs.declared.deed.Saving as savings
use Rattle.interpreter.proofs.Choices.{if-elim}
use Rattle.interpreter.proofs.Checks.{Holds, passes, refuses-by, hold-bind, hold-if, at-passed}

-- ---- two chains of checks that refuse by the same number, or both pass

pub data Both {A : Type 0} (R : A → A → Type 0) : Checked A → Checked A → Type 0 where
  refusals : {n : ℕ} → Both R (refused n) (refused n)
  passing : {a b : A} → R a b → Both R (passed a) (passed b)

module _ {A B : Type 0} (Q : B → B → Type 0) where
  pub both_of : (m : Checked A) (f g : A → Checked B) → ((a : A) → m ≡ passed a → Both Q (f a) (g a)) → Both Q (m >>= f) (m >>= g)
  unfolding ◌>>=◌
  both_of (refused n) f g k = refusals
  both_of (passed a) f g k = k a refl

  pub both-bind : (R : A → A → Type 0) (m n : Checked A) (f g : A → Checked B) → Both R m n → ((a b : A) → R a b → Both Q (f a) (g b))
      → Both Q (m >>= f) (n >>= g)
  unfolding ◌>>=◌
  both-bind R _ _ f g refusals k = refusals
  both-bind R _ _ f g (passing {a = a} {b = b} r) k = k a b r

pub both-check : {B : Type 0} (Q : B → B → Type 0) (n : ℕ) (t : Bool) (x y : Checked B) → Both Q x y → Both Q (check n t >> x) (check n t >> y)
unfolding check ◌>>◌
both-check Q n true x y h = h
both-check Q n false x y h = refusals

-- ---- what a chain of checks passes, if it passes anything

pub data Then {A : Type 0} (Q : A → Type 0) : Checked A → Type 0 where
  stops : {n : ℕ} → Then Q (refused n)
  goes : {a : A} → Q a → Then Q (passed a)

module _ {A B : Type 0} (Q : B → Type 0) where
  pub then-bind : (m : Checked A) (f : A → Checked B) → ((a : A) → m ≡ passed a → Then Q (f a)) → Then Q (m >>= f)
  unfolding ◌>>=◌
  then-bind (refused n) f k = stops
  then-bind (passed a) f k = k a refl

  pub then-first : (m : Checked A) (x : Checked B) → Then Q x → Then Q (m >> x)
  unfolding ◌>>◌
  then-first (refused n) x h = stops
  then-first (passed a) x h = h

then-passed : {A : Type 0} {Q : A → Type 0} {a : A} → Then Q (passed a) → Q a
then-passed (goes q) = q

pub then_at : {A : Type 0} {Q : A → Type 0} {m : Checked A} → Then Q m → {a : A} → m ≡ passed a → Q a
then_at {A} {Q} {m} h {a} e = then-passed (subst (λ (x : Checked A). Then Q x) e h)

-- ---- settings that agree but for channel 2

abbrev pub First : Settings → Settings → Type 0
First s t = (i : ℕ) → second i ≡ false → value_at s i ≡ value_at t i

module _ (s t : Settings) (a : First s t) where
  wide-same : wide_range s range ≡ wide_range t range
  unfolding wide_range
  wide-same = ap (le_z (pos 1)) (a range refl)

  examined-same : examined s ≡ examined t
  unfolding examined
  examined-same = ap (le_z (pos 1)) (a exam refl)

  accepted-same : (x : Side) → accepted s x ≡ accepted t x
  unfolding accepted
  accepted-same x = rw examined-same

  -- of a slot that is not channel 2's
  module _ (i : ℕ) (f : second i ≡ false) where
    not-voltage : eqb i voltage2 ≡ false
    not-voltage = let l = leb-false table_count i f in ne_eqb i voltage2 (λ e. omega arith)

    not-range : eqb i range2 ≡ false
    not-range = let l = leb-false table_count i f in ne_eqb i range2 (λ e. omega arith)

    narrow-same : narrow s i ≡ narrow t i
    unfolding narrow
    narrow-same = rw (wide-same, not-voltage)

    highest-same : highest s i ≡ highest t i
    unfolding highest
    highest-same = rw narrow-same

    within_same : (v : ℤ) → within s i v ≡ within t i v
    unfolding within
    within_same v = rw highest-same

    pub conflict-same : (v : ℤ) → conflict s i v ≡ conflict t i v
    unfolding conflict
    conflict-same v = rw (a voltage refl, not-range)

    limit-same : (n : ℕ) → limit_at s i n ≡ limit_at t i n
    limit-same zero = refl
    limit-same (suc n) = highest-same

    given-same : (g : Given) → limit_given s i g ≡ limit_given t i g
    given-same (Word n) = limit-same n
    given-same (Figure d) = refl

    value_same : (k : Kind) (g : Given) → value_given s i k g ≡ value_given t i k g
    unfolding value_given
    value_same bool (Word n) = refl
    value_same bool (Figure d) = refl
    value_same (words ws) (Word n) = refl
    value_same (words ws) (Figure d) = refl
    value_same (number k low high) (Word n) = limit-same n
    value_same (number k low high) (Figure d) = refl

-- ---- deeds

-- what puts a setting puts none of channel 2
abbrev pub FirstChange : changes.Change → Type 0
FirstChange Nothing = Unit {0}
FirstChange (Put i v x) = second i ≡ false
FirstChange Reset = Unit {0}
FirstChange (Store r n x) = Unit {0}
FirstChange labelled = Unit {0}

abbrev pub FirstDeed : Deed → Type 0
FirstDeed (Change x) = FirstChange x
FirstDeed Complete = Unit {0}
FirstDeed Clear = Unit {0}
FirstDeed (Query q) = Unit {0}
FirstDeed (Inquire q) = Unit {0}
FirstDeed (Saving x p) = Unit {0}

-- the same deed, or two queries for a limit of the same setting of channel 2
pub data DeedsAlike : Deed → Deed → Type 0 where
  equal : {d : Deed} → FirstDeed d → DeedsAlike d d
  limits : {i : ℕ} {v w : ℤ} → second i ≡ true → DeedsAlike (Query (Limit i v)) (Query (Limit i w))

-- a row's own deed puts no setting
abbrev plain_change : changes.Change → Bool
plain_change Nothing = true
plain_change (Put i v x) = false
plain_change Reset = true
plain_change (Store r n x) = true
plain_change labelled = true

abbrev plain_deed : Deed → Bool
plain_deed (Change x) = plain_change x
plain_deed Complete = true
plain_deed Clear = true
plain_deed (Query q) = true
plain_deed (Inquire q) = true
plain_deed (Saving x p) = true

abbrev plain_role : Role → Bool
plain_role (setting i) = true
plain_role (register r) = true
plain_role (Only d) = plain_deed d
plain_role (saving x) = true
plain_role label = true

change-first : (x : changes.Change) → plain_change x ≡ true → FirstChange x
change-first Nothing e = tt
change-first (Put i v x) e = absurd (false≢true e)
change-first Reset e = tt
change-first (Store r n x) e = tt
change-first labelled e = tt

deed-first : (d : Deed) → plain_deed d ≡ true → FirstDeed d
deed-first (Change x) e = change-first x e
deed-first Complete e = tt
deed-first Clear e = tt
deed-first (Query q) e = tt
deed-first (Inquire q) e = tt
deed-first (Saving x p) e = tt

-- what doesn't look at the settings
both-self : (m : Checked Deed) → Then FirstDeed m → Both DeedsAlike m m
both-self _ stops = refusals
both-self _ (goes f) = passing (equal f)

label-first : (t : Text) → Then FirstDeed (label_deed t)
unfolding label_deed
label-first t =
    if-elim (λ (m : Checked Deed). Then FirstDeed m) (is_quote (first t))
    (λ _. then-first FirstDeed _ _ (then-first FirstDeed _ _ (then-first FirstDeed _ _ (goes tt)))) (λ _. stops)

saving-first : (x : savings.Saving) (t : Text) → Then FirstDeed (saving_deed x t)
unfolding saving_deed place_given
saving-first x t = then-bind FirstDeed (parameter [] true _ t) _ (λ g _. then-first FirstDeed _ _ (goes tt))

abbrev plain_row : Row → Bool
plain_row r = plain_role r.role

rows-plain : every plain_row rows ≡ true
unfolding rows setting_rows other_rows table
rows-plain = refl

find-plain : (star : Bool) (names : List Text) (asked : Bool) (rs : List Row) → every plain_row rs ≡ true
    → Holds (λ (r : Role). plain_role r ≡ true) (find_row star names asked rs)
unfolding find_row may_be_queued queueable
find-plain star names asked [] p = refuses-by refl
find-plain star names asked (r ∷ rs) p =
    let q = and_both (plain_row r) (every plain_row rs) p in
    hold-if (λ (r : Role). plain_role r ≡ true) _ _ _ (passes q.0) (find-plain star names asked rs q.1)

second_plain : (r : Role) → Holds (λ (r : Role). plain_role r ≡ true) (on_second r)
unfolding second_of may_be_queued queueable
second_plain (setting i) =
    hold-bind (λ (j : ℕ). Unit {0}) (λ (r : Role). plain_role r ≡ true) _ _
    (hold-if (λ (j : ℕ). Unit {0}) _ _ _ (passes tt) (hold-if (λ (j : ℕ). Unit {0}) _ _ _ (passes tt) (refuses-by refl))) (λ j _. passes refl)
second_plain (register r) = refuses-by refl
second_plain (Only d) = refuses-by refl
second_plain (saving x) = refuses-by refl
second_plain label = refuses-by refl

role-plain : (star : Bool) (names : List Text) (asked : Bool) → Holds (λ (r : Role). plain_role r ≡ true) (find_role star names asked)
unfolding find_role on_channel may_be_queued queueable
role-plain star names asked =
    let P : Role → Type 0 = λ r. plain_role r ≡ true in
    hold-bind P P _ _ (find-plain star names asked rows rows-plain) (λ r p. hold-if P _ _ _ (passes p) (hold-if P _ _ _ (second_plain r) (refuses-by refl)))

module _ (s t : Settings) (a : First s t) where
  -- a limit of a setting, its own channel's
  limit-alike : (i : ℕ) (g : Given) → DeedsAlike (Query (Limit i (limit_given s i g))) (Query (Limit i (limit_given t i g)))
  limit-alike i g = go (second i) refl
    where
      go : (b : Bool) → second i ≡ b → DeedsAlike (Query (Limit i (limit_given s i g))) (Query (Limit i (limit_given t i g)))
      go true e = limits e
      go false e = rw (given-same s t a i e g) (equal tt)

  put-alike : (i : ℕ) → second i ≡ false → (g : Given)
      → Both DeedsAlike (put_given s i (value_given s i (kind_of i) g) (side_given (kind_of i) g)) (put_given t i (value_given t i (kind_of i) g) (side_given (kind_of i) g))
  put-alike i f g =
      rw (value_same s t a i f (kind_of i) g, within_same s t a i f (value_given t i (kind_of i) g), accepted-same s t a (side_given (kind_of i) g))
      (both-check DeedsAlike 222 _ _ _ (both-check DeedsAlike 222 _ _ _ (passing (equal f))))

  deed-alike : (r : Role) (asked : Bool) (ts : List Text) → (not asked && of_second (passed r)) ≡ false → plain_role r ≡ true
      → Both DeedsAlike (deed_of s r asked ts) (deed_of t r asked ts)
  unfolding deed_of limit_deed setting_deed register_deed store_given
  deed-alike (setting i) true [] n p = passing (equal tt)
  deed-alike (setting i) true (u ∷ ts) n p =
      both_of DeedsAlike (parameter limit_words false (quantity_of i) u) _ _ (λ g _. passing (limit-alike i g))
  deed-alike (setting i) false [] n p = refusals
  deed-alike (setting i) false (u ∷ ts) n p =
      both_of DeedsAlike (parameter (words_of (kind_of i)) (takes_numbers (kind_of i)) (quantity_of i) u) _ _ (λ g _. put-alike i n g)
  deed-alike (register r) true ts n p = passing (equal tt)
  deed-alike (register r) false [] n p = refusals
  deed-alike (register r) false (u ∷ ts) n p =
      both_of DeedsAlike (parameter [] true _ u) _ _ (λ g _. both-check DeedsAlike 222 _ _ _ (passing (equal tt)))
  deed-alike (Only d) asked ts n p = passing (equal (deed-first d p))
  deed-alike (saving x) asked [] n p = refusals
  deed-alike (saving x) asked (u ∷ ts) n p = both-self _ (saving-first x u)
  deed-alike label true ts n p = passing (equal tt)
  deed-alike label false [] n p = refusals
  deed-alike label false (u ∷ ts) n p = both-self _ (label-first u)

  -- ---- the whole unit

  pub record ReadsAlike (x y : Read) : Type 0 where
    pub deeds : DeedsAlike x.deed y.deed
    pub texts : x.text ≡ y.text
    pub paths : x.path ≡ y.path

  pub read_alike : (path : List Text) (u : Text) → sets_second path u ≡ false → Both ReadsAlike (read_unit s path u) (read_unit t path u)
  unfolding read_unit sets_second
  read_alike path u n =
      both-check ReadsAlike 101 _ _ _
      (both_of ReadsAlike (header (header_text u)) _ _ (λ h e.
      both-check ReadsAlike 102 _ _ _
      (both_of ReadsAlike (find_role (is_common h.place) (full_names h.place path h.names) h.query) _ _ (λ r f.
      both-check ReadsAlike 108 _ _ _
      (both-check ReadsAlike 109 _ _ _
      (both-bind ReadsAlike DeedsAlike _ _ _ _
      (deed-alike r h.query (parameters (parameter_text u)) (rw (e, f) at n)
      (at-passed (role-plain (is_common h.place) (full_names h.place path h.names) h.query) f))
      (λ d d' x. passing (record { deeds = x; texts = refl; paths = refl }))))))))

-- ---- a unit's path goes by its header alone

pub path-read : (s : Settings) (path : List Text) (u : Text) → Then (λ (r : Read). r.path ≡ path_left path (header (header_text u))) (read_unit s path u)
unfolding read_unit
path-read s path u =
    let Q : Read → Type 0 = λ r. r.path ≡ path_left path (header (header_text u)) in
    then-first Q _ _ (then-bind Q (header (header_text u)) _ (λ h e.
    then-first Q _ _ (then-bind Q _ _ (λ r f.
    then-first Q _ _ (then-first Q _ _ (then-bind Q _ _ (λ d g. goes (rw e))))))))

-- ---- what sets a setting of channel 2

pub record PutsSecond (d : Deed) : Type 0 where
  pub slot : ℕ
  pub value : ℤ
  pub side : Side
  pub is_second : second slot ≡ true
  pub is : d ≡ Change (Put slot value side)

none : (asked : Bool) → (not asked && false) ≡ true → ⊥
none true e = false≢true e
none false e = false≢true e

second-deed : (s : Settings) (r : Role) (asked : Bool) (ts : List Text) → (not asked && of_second (passed r)) ≡ true
    → Then PutsSecond (deed_of s r asked ts)
unfolding deed_of setting_deed
second-deed s (setting i) true ts e = absurd (false≢true e)
second-deed s (setting i) false [] e = stops
second-deed s (setting i) false (t ∷ ts) e =
    then-bind PutsSecond (parameter (words_of (kind_of i)) (takes_numbers (kind_of i)) (quantity_of i) t) _ (λ g _.
    then-first PutsSecond _ _ (then-first PutsSecond _ _
    (goes (record { slot = i; value = value_given s i (kind_of i) g; side = side_given (kind_of i) g; is_second = e; is = refl }))))
second-deed s (register r) asked ts e = absurd (none asked e)
second-deed s (Only d) asked ts e = absurd (none asked e)
second-deed s (saving x) asked ts e = absurd (none asked e)
second-deed s label asked ts e = absurd (none asked e)

pub second-read : (s : Settings) (path : List Text) (u : Text) → sets_second path u ≡ true → Then (λ (r : Read). PutsSecond r.deed) (read_unit s path u)
unfolding read_unit sets_second
second-read s path u n =
    let Q : Read → Type 0 = λ r. PutsSecond r.deed in
    then-first Q _ _ (then-bind Q (header (header_text u)) _ (λ h e.
    then-first Q _ _ (then-bind Q (find_role (is_common h.place) (full_names h.place path h.names) h.query) _ (λ r f.
    then-first Q _ _ (then-first Q _ _
    (then-bind Q (deed_of s r h.query (parameters (parameter_text u))) _ (λ d g.
    goes (then_at (second-deed s r h.query (parameters (parameter_text u)) (rw (e, f) at n)) g))))))))
