-- Alike units do alike: one that sets a setting of channel 2 is accepted in both histories and changes nothing else, and any other is the
-- same in both, is read alike (isolation/Reading) and does alike. So do the units of alike lines, by induction, and whole lines.
use mathlib.Core.Path.{◌≡◌, refl, sym, ◌∙◌, ap, ap₂, subst}
use mathlib.Core.Bool.{Bool, true, false, not, ◌&&◌, false≢true}
use mathlib.Core.List.{List, [], ◌∷◌, ◌++◌}
use Prim.Native.Nat.{ℕ}
use native.Mathlib.Omega.{arith}
use lib.Dec.{ltb, eqb}
use lib.ListN.{length, get_or, set, length-set}
use lib.Seq.{get_or-set_same, get_or-set_other, set_out}
use lib.IntN.{ℤ, pos}
use borrow.Author.Tests.{eqb-true, eqb-false, ltb-true, ltb-false}
use Rattle.registers.specs.Text.{Text, if◌then◌otherwise◌, empty}
use Rattle.registers.specs.Label.{held_in, quoted_text}
use Rattle.registers.specs.Check.{Checked, refused, passed, ◌>>=◌, ◌>>◌, check}
use Rattle.registers.specs.Settings.{second, value_at, with_value}
use Rattle.registers.specs.Status.{stored_in, set_read, all_read}
use Rattle.registers.specs.declared.rounding.Side.{Side}
use Rattle.registers.specs.declared.settings.Settings.{Settings}
use Rattle.registers.proofs.Tests.{and_both}
use Rattle.interpreter.specs.Header.{header}
use Rattle.interpreter.specs.Box.{Core, Box, box, with_answer, with_settings, answer_is, raise}
use Rattle.interpreter.specs.Unit.{Read, header_text, read_unit}
use Rattle.interpreter.specs.Perform.{conflicting, permitted, changed, after_query, after_inquiry, perform}
use Rattle.interpreter.specs.Reply.{reply_to, inquiry_reply, fits_answer, joined, reply}
use Rattle.interpreter.specs.Line.{Obeyed, attempt, refuse, next, run_units, interrupted, finished, run_line, at_newline, end_line, units_of}
use Rattle.interpreter.specs.Steps.{tries, steps_next, unit_steps, line_steps, own_steps}
use Rattle.interpreter.specs.Isolation.{sets_second, heads_second, UnitAlike, same, other_value, path_left, UnitsAlike, LinesAlike, saves, unsaved, calm_unit, calm, Calm, asks_second, answer_to, given_by, given, answers, Agree}
use Rattle.interpreter.specs.declared.deed.Deed.{Deed}
use Rattle.interpreter.specs.declared.deed.Deed.TheVariants.{Change, Complete, Clear, Query, Inquire, Saving}
use Rattle.interpreter.specs.declared.deed.Change as changes
use Rattle.interpreter.specs.declared.deed.Change.TheVariants.{Nothing, Put, Reset, Store, Label as labelled}
use Rattle.interpreter.specs.declared.deed.Query as queries
use Rattle.interpreter.specs.declared.deed.Query.TheVariants.{Identity, SelfTest, Completed, Limit, Value, Stored, Condition, SetEvents, Label as label_asked}
use Rattle.interpreter.proofs.Choices.{if-elim, if₂}
use Rattle.interpreter.proofs.demands.isolation.Reading.{Both, refusals, passing, Then, stops, goes, then-bind, then-first, then_at, First, conflict-same, FirstDeed, DeedsAlike, equal, limits, ReadsAlike, read_alike, path-read, PutsSecond, second-read}

-- ---- boxes that agree but for channel 2, and have as many settings

pub record Close (b c : Box) : Type 0 where
  pub agree : Agree b c
  pub long : length b.core.settings.values ≡ length c.core.settings.values

abbrev close : (b c : Box) → ((i : ℕ) → second i ≡ false → value_at b.core.settings i ≡ value_at c.core.settings i)
    → b.core.settings.text ≡ c.core.settings.text → b.core.registers ≡ c.core.registers → length b.core.settings.values ≡ length c.core.settings.values → Close b c
close b c s t r l = record { agree = record { settings = s; text = t; registers = r }; long = l }

-- a setting is put in both
set_same : (l m : List ℤ) → length l ≡ length m → (i j : ℕ) (v : ℤ) → get_or l j (pos 0) ≡ get_or m j (pos 0)
    → get_or (set l i v) j (pos 0) ≡ get_or (set m i v) j (pos 0)
set_same l m e i j v h = go (eqb j i) refl (ltb i (length l)) refl
  where
    go : (t : Bool) → eqb j i ≡ t → (k : Bool) → ltb i (length l) ≡ k → get_or (set l i v) j (pos 0) ≡ get_or (set m i v) j (pos 0)
    go true q true r =
        let n = ltb-true i (length l) r in
        rw (eqb-true j i q) (get_or-set_same l i v (pos 0) n ∙ sym (get_or-set_same m i v (pos 0) (omega arith)))
    go true q false r =
        let n = ltb-false i (length l) r in
        rw (set_out l i v n, set_out m i v (omega arith)) h
    go false q k r = get_or-set_other l i j v (pos 0) (eqb-false j i q) ∙ h ∙ sym (get_or-set_other m i j v (pos 0) (eqb-false j i q))

-- a slot of channel 2 is no other
apart : (i j : ℕ) → second i ≡ true → second j ≡ false → j ≡ i → ⊥
apart i j t f e = false≢true (sym f ∙ rw e t)

-- settings of channel 2 are put, in each its own
put_second : (b c : Box) → Close b c → (i j : ℕ) → second i ≡ true → second j ≡ true → (v w : ℤ)
    → Close (box (with_settings (with_value i v b.core.settings) b.core) b.trouble) (box (with_settings (with_value j w c.core.settings) c.core) c.trouble)
put_second b c h i j s t v w =
    close _ _
    (λ k f.
    get_or-set_other b.core.settings.values i k v (pos 0) (apart i k s f)
    ∙ h.agree.settings k f
    ∙ sym (get_or-set_other c.core.settings.values j k w (pos 0) (apart j k t f)))
    h.agree.text
    h.agree.registers
    (length-set b.core.settings.values i v ∙ h.long ∙ sym (length-set c.core.settings.values j w))

-- ---- what a deed leaves

change-close : (x : changes.Change) (t : Text) (b c : Box) → Close b c
    → Close (box (changed x t b.core) b.trouble) (box (changed x t c.core) c.trouble)
unfolding changed
change-close Nothing t b c h = close _ _ h.agree.settings h.agree.text h.agree.registers h.long
change-close (Put i v side) t b c h =
    close _ _ (λ k f. set_same b.core.settings.values c.core.settings.values h.long i k v (h.agree.settings k f)) h.agree.text h.agree.registers
    (length-set b.core.settings.values i v ∙ h.long ∙ sym (length-set c.core.settings.values i v))
change-close Reset t b c h = close _ _ (λ k f. refl) refl h.agree.registers refl
change-close (Store r n side) t b c h = close _ _ h.agree.settings h.agree.text (ap (stored_in r n) h.agree.registers) h.long
change-close labelled t b c h = close _ _ h.agree.settings refl h.agree.registers h.long

query-close : (q : queries.Query) (b c : Box) → Close b c
    → Close (box (after_query q b.core) b.trouble) (box (after_query q c.core) c.trouble)
query-close Identity b c h = close _ _ h.agree.settings h.agree.text h.agree.registers h.long
query-close SelfTest b c h = close _ _ h.agree.settings h.agree.text h.agree.registers h.long
query-close Completed b c h = close _ _ h.agree.settings h.agree.text h.agree.registers h.long
query-close (Limit i v) b c h = close _ _ h.agree.settings h.agree.text h.agree.registers h.long
query-close (Value i) b c h = close _ _ h.agree.settings h.agree.text h.agree.registers h.long
query-close (Stored r) b c h = close _ _ h.agree.settings h.agree.text h.agree.registers h.long
query-close (Condition x) b c h = close _ _ h.agree.settings h.agree.text h.agree.registers h.long
query-close (SetEvents x) b c h = close _ _ h.agree.settings h.agree.text (ap (set_read x) h.agree.registers) h.long
query-close label_asked b c h = close _ _ h.agree.settings h.agree.text h.agree.registers h.long

-- ---- what comes of a unit: the same refusal, or both are obeyed; or check 9 refuses one of them

pub record Obeys (o p : Obeyed) : Type 0 where
  pub paths : o.path ≡ p.path
  pub boxes : Close o.box p.box

data Outcomes : Checked Obeyed → Checked Obeyed → Type 0 where
  one_full : {y : Checked Obeyed} → Outcomes (refused 430) y
  other_full : {x : Checked Obeyed} → Outcomes x (refused 430)
  both : {x y : Checked Obeyed} → Both Obeys x y → Outcomes x y

abbrev obeyed_as : List Text → Box → Obeyed
obeyed_as p b = record { path = p; box = b }

-- a change, or its refusal by the lock or check 8
change-outcome : (m : Checked (Unit {0})) (p q : List Text) → p ≡ q → (b c : Box) → Close b c
    → Outcomes (m >> passed b >>= λ x. passed (obeyed_as p x)) (m >> passed c >>= λ x. passed (obeyed_as q x))
unfolding ◌>>◌ ◌>>=◌
change-outcome (refused n) p q e b c h = both refusals
change-outcome (passed _) p q e b c h = both (passing (record { paths = e; boxes = h }))

-- a query, or its refusal by check 9
query-outcome : (m : Checked (Unit {0})) (p q : List Text) → p ≡ q
    → (t u : Text) (d e : Core) (g g' : Core → Box) → ((a a' : Text) → Close (g (with_answer a d)) (g' (with_answer a' e)))
    → Outcomes (m >> (reply t d >>= λ z. passed (g z)) >>= λ z. passed (obeyed_as p z)) (m >> (reply u e >>= λ z. passed (g' z)) >>= λ z. passed (obeyed_as q z))
unfolding reply check ◌>>◌ ◌>>=◌
query-outcome (refused n) p q r t u d e g g' h = both refusals
query-outcome (passed _) p q r t u d e g g' h = go (fits_answer d.answer t) (fits_answer e.answer u)
  where
    go : (k l : Bool)
        → Outcomes (((check 430 k >> passed (with_answer (joined d.answer t) d)) >>= λ z. passed (g z)) >>= λ z. passed (obeyed_as p z))
        (((check 430 l >> passed (with_answer (joined e.answer u) e)) >>= λ z. passed (g' z)) >>= λ z. passed (obeyed_as q z))
    go false l = one_full
    go true false = other_full
    go true true = both (passing (record { paths = r; boxes = h _ _ }))

conflicting-same : (d : Deed) (s t : Settings) → First s t → FirstDeed d → conflicting d s ≡ conflicting d t
conflicting-same (Change Nothing) s t a f = refl
conflicting-same (Change (Put i v x)) s t a f = conflict-same s t a i f v
conflicting-same (Change Reset) s t a f = refl
conflicting-same (Change (Store r n x)) s t a f = refl
conflicting-same (Change labelled) s t a f = refl
conflicting-same Complete s t a f = refl
conflicting-same Clear s t a f = refl
conflicting-same (Query q) s t a f = refl
conflicting-same (Inquire q) s t a f = refl
conflicting-same (Saving x p) s t a f = refl

module _ (b c : Box) (h : Close b c) where
  permitted-same : (d : Deed) → FirstDeed d → permitted d b.core ≡ permitted d c.core
  unfolding permitted
  permitted-same d f =
      rw (h.agree.registers, conflicting-same d b.core.settings c.core.settings h.agree.settings f)

  deed-outcome : (d : Deed) → FirstDeed d → not (saves d) ≡ true → (t : Text) (p q : List Text) → p ≡ q
      → Outcomes (permitted d b.core >> perform d t b >>= λ z. passed (obeyed_as p z)) (permitted d c.core >> perform d t c >>= λ z. passed (obeyed_as q z))
  unfolding perform
  deed-outcome (Change x) f n t p q e = rw (permitted-same (Change x) f) (change-outcome (permitted (Change x) c.core) p q e _ _ (change-close x t b c h))
  deed-outcome Complete f n t p q e =
      rw (permitted-same Complete f)
      (change-outcome (permitted Complete c.core) p q e _ _ (close _ _ h.agree.settings h.agree.text h.agree.registers h.long))
  deed-outcome Clear f n t p q e =
      rw (permitted-same Clear f)
      (change-outcome (permitted Clear c.core) p q e _ _ (close _ _ h.agree.settings h.agree.text (ap all_read h.agree.registers) h.long))
  deed-outcome (Query x) f n t p q e =
      let k = query-close x b c h in
      rw (permitted-same (Query x) f)
      (query-outcome (permitted (Query x) c.core) p q e (reply_to x b.core) (reply_to x c.core) (after_query x b.core) (after_query x c.core)
      (λ z. box z b.trouble) (λ z. box z c.trouble) (λ a a'. close _ _ k.agree.settings k.agree.text k.agree.registers k.long))
  deed-outcome (Saving x i) f n t p q e = absurd (false≢true n)
  deed-outcome (Inquire x) f n t p q e =
      rw (permitted-same (Inquire x) f)
      (query-outcome (permitted (Inquire x) c.core) p q e (inquiry_reply x b) (inquiry_reply x c) b.core c.core
      (λ z. box z (after_inquiry x b.trouble)) (λ z. box z (after_inquiry x c.trouble)) (λ a a'. close _ _ h.agree.settings h.agree.text h.agree.registers h.long))

  alike-outcome : (d d' : Deed) → DeedsAlike d d' → not (saves d) ≡ true → (t : Text) (p q : List Text) → p ≡ q
      → Outcomes (permitted d b.core >> perform d t b >>= λ z. passed (obeyed_as p z)) (permitted d' c.core >> perform d' t c >>= λ z. passed (obeyed_as q z))
  unfolding permitted perform check ◌>>◌
  alike-outcome d _ (equal f) n t p q e = deed-outcome d f n t p q e
  alike-outcome _ _ (limits {i = i} {v = v} {w = w} s) n t p q e =
      query-outcome (passed tt) p q e (reply_to (Limit i v) b.core) (reply_to (Limit i w) c.core) b.core c.core
      (λ z. box z b.trouble) (λ z. box z c.trouble) (λ a a'. close _ _ h.agree.settings h.agree.text h.agree.registers h.long)

  -- ---- and its answer, if it is not channel 2's

  query-told : (q : queries.Query) → (if asks_second q then [] otherwise reply_to q b.core ∷ []) ≡ (if asks_second q then [] otherwise reply_to q c.core ∷ [])
  unfolding reply_to if◌then◌otherwise◌
  query-told Identity = refl
  query-told SelfTest = refl
  query-told Completed = refl
  query-told (Limit i v) = refl
  query-told (Value i) = go (second i) refl
    where
      go : (t : Bool) → second i ≡ t
          → (if t then [] otherwise reply_to (Value i) b.core ∷ []) ≡ (if t then [] otherwise reply_to (Value i) c.core ∷ [])
      go true f = refl
      go false f = rw (h.agree.settings i f)
  query-told (Stored r) = rw h.agree.registers
  query-told (Condition x) = rw h.agree.registers
  query-told (SetEvents x) = rw h.agree.registers
  query-told label_asked = ap (λ (t : Text). quoted_text (held_in t) ∷ []) h.agree.text

  alike-told : (d d' : Deed) → DeedsAlike d d' → answer_to d b.core ≡ answer_to d' c.core
  unfolding if◌then◌otherwise◌
  alike-told (Change x) _ (equal f) = refl
  alike-told Complete _ (equal f) = refl
  alike-told Clear _ (equal f) = refl
  alike-told (Query q) _ (equal f) = query-told q
  alike-told (Inquire q) _ (equal f) = refl
  alike-told (Saving x p) _ (equal f) = refl
  alike-told _ _ (limits s) = rw s

-- ---- a unit

-- what comes of a unit that was read, in the two histories
abbrev comes_of : Box → Checked Read → Checked Obeyed
comes_of b m = m >>= λ r. permitted r.deed b.core >> perform r.deed r.text b >>= λ z. passed (obeyed_as r.path z)

module _ (b c : Box) (h : Close b c) where
  read-comes : (x y : Checked Read) → Both (ReadsAlike b.core.settings c.core.settings h.agree.settings) x y
      → unsaved x ≡ true → Outcomes (comes_of b x) (comes_of c y)
  unfolding ◌>>=◌
  read-comes _ _ refusals n = both refusals
  read-comes _ _ (passing {a = r} {b = q} e) n =
      subst (λ (t : Text). Outcomes (permitted r.deed b.core >> perform r.deed r.text b >>= λ z. passed (obeyed_as r.path z)) (permitted q.deed c.core >> perform q.deed t c >>= λ z. passed (obeyed_as q.path z))) e.texts
      (alike-outcome b c h r.deed q.deed e.deeds n r.text r.path q.path e.paths)

  read-tells : (x y : Checked Read) → Both (ReadsAlike b.core.settings c.core.settings h.agree.settings) x y
      → (v w : Checked Obeyed) → Both Obeys v w → given_by b.core x v ≡ given_by c.core y w
  read-tells _ _ refusals v w k = refl
  read-tells _ _ (passing e) _ _ refusals = refl
  read-tells _ _ (passing {a = r} {b = q} e) _ _ (passing k) = alike-told b c h r.deed q.deed e.deeds

  -- check 9 refuses neither
  none-full : (v w : Checked Obeyed) (s t : Bool) → calm_unit s v ≡ true → calm_unit t w ≡ true → Outcomes v w → Both Obeys v w
  none-full _ w s t k l one_full = absurd (false≢true (sym (last s) ∙ k))
    where
      last : (s : Bool) → (not s && false) ≡ false
      last true = refl
      last false = refl
  none-full v _ s t k l other_full = absurd (false≢true (sym (last t) ∙ l))
    where
      last : (s : Bool) → (not s && false) ≡ false
      last true = refl
      last false = refl
  none-full v w s t k l (both x) = x

-- ---- a unit that sets a setting of channel 2 is accepted, sets it, and answers nothing

abbrev put_in : ℕ → ℤ → Box → Box
put_in i v b = box (with_settings (with_value i v b.core.settings) b.core) b.trouble

record SetSecond (path : List Text) (b : Box) (u : Text) (x : Checked Obeyed) : Type 0 where
  slot : ℕ
  value : ℤ
  is_second : second slot ≡ true
  is : x ≡ passed (obeyed_as (path_left path (header (header_text u))) (put_in slot value b))

put-comes : (b : Box) (i : ℕ) (v : ℤ) (side : Side) (t : Text) (p : List Text) (m : Checked (Unit {0}))
    → calm_unit true (m >> perform (Change (Put i v side)) t b >>= λ z. passed (obeyed_as p z)) ≡ true
    → (m >> perform (Change (Put i v side)) t b >>= λ z. passed (obeyed_as p z)) ≡ passed (obeyed_as p (put_in i v b))
unfolding perform changed ◌>>◌ ◌>>=◌
put-comes b i v side t p (refused n) k = absurd (false≢true k)
put-comes b i v side t p (passed _) k = refl

deed-comes : (b : Box) (d : Deed) → PutsSecond d → (t : Text) (p : List Text)
    → calm_unit true (permitted d b.core >> perform d t b >>= λ z. passed (obeyed_as p z)) ≡ true
    → (i : ℕ) × (v : ℤ) × (second i ≡ true) × ((permitted d b.core >> perform d t b >>= λ z. passed (obeyed_as p z)) ≡ passed (obeyed_as p (put_in i v b)))
deed-comes b d w t p k =
    let e = w.is in
    (w.slot, w.value, w.is_second, rw e (put-comes b w.slot w.value w.side t p (permitted (Change (Put w.slot w.value w.side)) b.core) (rw e at k)))

second-comes : (path : List Text) (b : Box) (u : Text) (m : Checked Read)
    → Then (λ (r : Read). PutsSecond r.deed) m → Then (λ (r : Read). r.path ≡ path_left path (header (header_text u))) m
    → calm_unit true (comes_of b m) ≡ true → SetSecond path b u (comes_of b m)
unfolding ◌>>=◌
second-comes path b u _ stops p k = absurd (false≢true k)
second-comes path b u _ (goes {a = r} d) p k =
    let w = deed-comes b r.deed d r.text r.path k in
    record { slot = w.0; value = w.1; is_second = w.2; is = w.3 ∙ ap (λ (q : List Text). passed (obeyed_as q (put_in w.0 w.1 b))) (then_at p refl) }

second-attempt : (path : List Text) (b : Box) (u : Text) → sets_second path u ≡ true → calm (tries path b u) ≡ true → SetSecond path b u (attempt path b u)
unfolding attempt calm
second-attempt path b u e k =
    let s = b.core.settings in
    let c = (and_both (unsaved (read_unit s path u)) _ k).1 in
    second-comes path b u (read_unit s path u) (second-read s path u e) (path-read s path u) (rw e at c)

second-tells : (c : Core) (m : Checked Read) → Then (λ (r : Read). PutsSecond r.deed) m → (x : Checked Obeyed) → given_by c m x ≡ []
second-tells c _ stops x = refl
second-tells c _ (goes d) (refused n) = refl
second-tells c _ (goes d) (passed o) = rw d.is

second-given : (path : List Text) (b : Box) (u : Text) → sets_second path u ≡ true → given (tries path b u) ≡ []
unfolding given
second-given path b u e = second-tells b.core (read_unit b.core.settings path u) (second-read b.core.settings path u e) (attempt path b u)

sets_same : (path : List Text) (u v : Text) → header_text u ≡ header_text v → sets_second path u ≡ sets_second path v
unfolding sets_second
sets_same path u v e = ap (λ (t : Text). heads_second path (header t)) e

-- ---- alike units

record UnitDone (path : List Text) (b c : Box) (u v : Text) : Type 0 where
  comes : Both Obeys (attempt path b u) (attempt path c v)
  tells : given (tries path b u) ≡ given (tries path c v)

module _ (path : List Text) (b c : Box) (h : Close b c) where
  set-in-both : (u v : Text) → sets_second path u ≡ true → header_text u ≡ header_text v
      → calm (tries path b u) ≡ true → calm (tries path c v) ≡ true → UnitDone path b c u v
  set-in-both u v s e k l =
      let t : sets_second path v ≡ true = sym (sets_same path u v e) ∙ s in
      let x = second-attempt path b u s k in
      let y = second-attempt path c v t l in
      record {
        comes = rw (x.is, y.is) (passing (record {
          paths = ap (λ (z : Text). path_left path (header z)) e;
          boxes = put_second b c h x.slot y.slot x.is_second y.is_second x.value y.value;
        }));
        tells = second-given path b u s ∙ sym (second-given path c v t);
      }

  other-comes : (u : Text) → sets_second path u ≡ false → calm (tries path b u) ≡ true → calm (tries path c u) ≡ true
      → Both Obeys (attempt path b u) (attempt path c u)
  unfolding attempt calm
  other-comes u n k l =
      let p = and_both (unsaved (read_unit b.core.settings path u)) _ k in
      let q = and_both (unsaved (read_unit c.core.settings path u)) _ l in
      none-full b c h _ _ (sets_second path u) (sets_second path u) p.1 q.1
      (read-comes b c h _ _ (read_alike b.core.settings c.core.settings h.agree.settings path u n) p.0)

  other-tells : (u : Text) → sets_second path u ≡ false → Both Obeys (attempt path b u) (attempt path c u) → given (tries path b u) ≡ given (tries path c u)
  unfolding given
  other-tells u n k =
      read-tells b c h _ _ (read_alike b.core.settings c.core.settings h.agree.settings path u n) (attempt path b u) (attempt path c u) k

  same-in-both : (u : Text) (t : Bool) → sets_second path u ≡ t → calm (tries path b u) ≡ true → calm (tries path c u) ≡ true → UnitDone path b c u u
  same-in-both u true s k l = set-in-both u u s refl k l
  same-in-both u false s k l = let x = other-comes u s k l in record { comes = x; tells = other-tells u s x }

  unit-done : (u v : Text) → UnitAlike path u v → calm (tries path b u) ≡ true → calm (tries path c v) ≡ true → UnitDone path b c u v
  unit-done u v (same e) k l =
      subst (λ (t : Text). UnitDone path b c u t) e
      (same-in-both u (sets_second path u) refl k (subst (λ (t : Text). calm (tries path c t) ≡ true) (sym e) l))
  unit-done u v (other_value s e) k l = set-in-both u v s e k l

-- ---- the units of a line

path-attempt : (path : List Text) (b : Box) (u : Text) → Then (λ (o : Obeyed). o.path ≡ path_left path (header (header_text u))) (attempt path b u)
unfolding attempt
path-attempt path b u =
    let Q : Obeyed → Type 0 = λ o. o.path ≡ path_left path (header (header_text u)) in
    then-bind Q (read_unit b.core.settings path u) _ (λ r e.
    then-first Q _ _ (then-bind Q _ _ (λ z _. goes (then_at (path-read b.core.settings path u) e))))

refuse-close : (n : ℕ) (b c : Box) → Close b c → Close (refuse n b) (refuse n c)
unfolding refuse
refuse-close n b c h =
    let k = if₂ Close (eqb n 430) {x = answer_is [] b} {y = b} {x' = answer_is [] c} {y' = c}
    (close _ _ h.agree.settings h.agree.text h.agree.registers h.long) h in
    close _ _ k.agree.settings k.agree.text k.agree.registers k.long

record Done (us vs path : List Text) (b c : Box) : Type 0 where
  near : Close (run_units us path b) (run_units vs path c)
  told : answers (unit_steps us path b) ≡ answers (unit_steps vs path c)

module _ (us vs left : List Text)
    (ih : (b c : Box) → Close b c → Calm (unit_steps us left b) → Calm (unit_steps vs left c) → Done us vs left b c) (b c : Box) (h : Close b c) where
  after-unit : (x y : Checked Obeyed) → Both Obeys x y → Then (λ (o : Obeyed). o.path ≡ left) x
      → Calm (steps_next (λ p z. unit_steps us p z) x) → Calm (steps_next (λ p z. unit_steps vs p z) y)
      → Close (next (λ p z. run_units us p z) b x) (next (λ p z. run_units vs p z) c y)
      × (answers (steps_next (λ p z. unit_steps us p z) x) ≡ answers (steps_next (λ p z. unit_steps vs p z) y))
  after-unit _ _ (refusals {n = n}) p k l = (refuse-close n b c h, refl)
  after-unit _ _ (passing {a = o} {b = q} e) p k l =
      let here : o.path ≡ left = then_at p refl in
      let there : q.path ≡ left = sym e.paths ∙ here in
      let d = ih o.box q.box e.boxes (subst (λ (z : List Text). Calm (unit_steps us z o.box)) here k)
      (subst (λ (z : List Text). Calm (unit_steps vs z q.box)) there l) in
      (rw (here, there) d.near, rw (here, there) d.told)

units-done : (us vs path : List Text) → UnitsAlike path us vs → (b c : Box) → Close b c → Calm (unit_steps us path b) → Calm (unit_steps vs path c)
    → Done us vs path b c
unfolding UnitsAlike run_units unit_steps answers
units-done [] [] path a b c h k l = record { near = h; told = refl }
units-done [] (v ∷ vs) path a b c h k l = absurd a
units-done (u ∷ us) [] path a b c h k l = absurd a
units-done (u ∷ us) (v ∷ vs) path a b c h k l =
    let p = and_both (calm (tries path b u)) _ k in
    let q = and_both (calm (tries path c v)) _ l in
    let d = unit-done path b c h u v a.0 p.0 q.0 in
    let left = path_left path (header (header_text u)) in
    let r = after-unit us vs left (λ b c h k l. units-done us vs left a.1 b c h k l) b c h _ _ d.comes (path-attempt path b u) p.1 q.1 in
    record { near = r.0; told = ap₂ (λ (x y : List Text). x ++ y) d.tells r.1 }

-- ---- lines

interrupted-close : (b c : Box) → Close b c → Close (interrupted b) (interrupted c)
unfolding interrupted
interrupted-close b c h =
    if-elim (λ (x : Box). Close x (if empty c.core.answer then c otherwise raise 410 (answer_is [] c))) (empty b.core.answer)
    (λ _. if-elim (λ (y : Box). Close b y) (empty c.core.answer) (λ _. h) (λ _. close _ _ h.agree.settings h.agree.text h.agree.registers h.long))
    (λ _. if-elim (λ (y : Box). Close (raise 410 (answer_is [] b)) y) (empty c.core.answer)
    (λ _. close _ _ h.agree.settings h.agree.text h.agree.registers h.long) (λ _. close _ _ h.agree.settings h.agree.text h.agree.registers h.long))

finished-close : (b c : Box) → Close b c → Close (finished b) (finished c)
unfolding finished
finished-close b c h =
    if-elim (λ (x : Box). Close x (if empty c.core.answer then c otherwise answer_is (c.core.answer ++ 10 ∷ []) c)) (empty b.core.answer)
    (λ _. if-elim (λ (y : Box). Close b y) (empty c.core.answer) (λ _. h) (λ _. close _ _ h.agree.settings h.agree.text h.agree.registers h.long))
    (λ _. if-elim (λ (y : Box). Close (answer_is (b.core.answer ++ 10 ∷ []) b) y) (empty c.core.answer)
    (λ _. close _ _ h.agree.settings h.agree.text h.agree.registers h.long) (λ _. close _ _ h.agree.settings h.agree.text h.agree.registers h.long))

newline-close : (b c : Box) → Close b c → Close (at_newline b) (at_newline c)
newline-close b c h = interrupted-close _ _ (close _ _ h.agree.settings h.agree.text h.agree.registers h.long)

pub not-overlong : (b : Box) → Calm (own_steps b) → b.core.overlong ≡ false
unfolding line_steps calm if◌then◌otherwise◌
not-overlong b k = go b.core.overlong refl k
  where
    go : (t : Bool) → b.core.overlong ≡ t → Calm (line_steps b.core.line t (at_newline b)) → b.core.overlong ≡ false
    go true e k = absurd (false≢true k)
    go false e k = e

pub newline-done : (b c : Box) → Close b c → LinesAlike b.core.line c.core.line → Calm (own_steps b) → Calm (own_steps c)
    → Close (end_line b) (end_line c) × (answers (own_steps b) ≡ answers (own_steps c))
unfolding line_steps end_line run_line if◌then◌otherwise◌
newline-done b c h a k l =
    let o = not-overlong b k in
    let p = not-overlong c l in
    let d = units-done (units_of b.core.line) (units_of c.core.line) [] a (at_newline b) (at_newline c) (newline-close b c h) (rw o at k) (rw p at l) in
    (rw (o, p) (finished-close _ _ d.near), rw (o, p) d.told)
