-- 02, #114, proved: row by row the settings become those aimed at. The row put last has its wanted value, so that the voltage meets its range,
-- and the range its voltage.
use mathlib.Core.Path.{◌≡◌, refl, sym, ◌∙◌, ap, ap₂, subst}
use mathlib.Core.Bool.{Bool, true, false, not, ◌||◌, false≢true}
use mathlib.Core.List.{List, [], ◌∷◌, ◌++◌, append-nil}
use Prim.Native.Nat.{ℕ, zero, suc, ◌≤◌, ◌<◌}
use native.Mathlib.Nat.{le_refl}
use native.Mathlib.Omega.{arith}
use lib.Dec.{leb, ltb, eqb}
use lib.ListN.{length, take, drop, length-set}
use lib.Seq.{take-append_seam, get_or-set_same, get_or-set_other, set-get_or, set_comm}
use lib.IntN.{ℤ, pos, negsuc}
use lib.Signed.{le_z, lt_z}
use borrow.Author.Tests.{ltb-false, leb-true, lt-leb, eqb-true, eqb-false, ne_eqb}
use Rattle.registers.specs.Text.{Text, if◌then◌otherwise◌, every, same, empty}
use Rattle.registers.specs.Settings.{count, table_count, voltage, range, voltage2, range2, kind_of, highest_of, twelve_volts, value_at, with_value, with_text, displayed, wide_range, narrow, lowest, highest, within, conflict, possible_settings}
use Rattle.registers.specs.Status.{Trouble, raised, locked}
use Rattle.registers.specs.declared.settings.Settings.{Settings}
use Rattle.registers.proofs.Tests.{and_both, and-fails, lt_z-not}
use Rattle.registers.proofs.settings.Possible.{Good, good-from, text-from, under-wide, Channel}
use Rattle.registers.specs.Label.{most_text, may_stand, padded, possible_text}
use Rattle.registers.proofs.label.Record.{HeldRight, held-right}
use Rattle.interpreter.proofs.Lists.{same-eq}
use Rattle.interpreter.specs.Box.{Core, Box, box, with_settings, with_line, with_answer}
use Rattle.interpreter.specs.Line.{interrupted, piece}
use Rattle.interpreter.specs.Events.{received, Result, result_of, happens, after}
use Rattle.interpreter.specs.State.{box_of}
use Rattle.interpreter.proofs.Choices.{if₂}
use Rattle.interpreter.proofs.demands.Demand2.{demand2}
use Rattle.interpreter.proofs.demands.calls.AsHistory.{calls-are-a-history}
use Rattle.interpreter.proofs.demands.Limits.{narrow-voltage}
use Rattle.writer.specs.Lines.{line_for, label_for, differs, slot_of, row_at, slot_at, lines_to, lines_for, writable, written, Whole, discarded, aimed_to, aimed, Leads, LeadsOfCalls, LinesLead}
use Rattle.writer.proofs.Slots.{row-row, row_below, row_first, slot-below, slot-at-below, not-voltage, not-range, own-channel, two-slots, volts-below}
use Rattle.writer.proofs.OneLine.{discard-core, line-runs, line-some, label-runs, label-some}

-- ---- numbers

same-value : (a b : ℤ) → (lt_z a b || lt_z b a) ≡ false → a ≡ b
same-value (pos a) (pos b) e = ap pos (go (ltb a b) refl (ltb b a) refl e)
  where
    go : (s : Bool) → ltb a b ≡ s → (t : Bool) → ltb b a ≡ t → (s || t) ≡ false → a ≡ b
    go true q t r z = absurd (false≢true (sym z))
    go false q true r z = absurd (false≢true (sym z))
    go false q false r z = let k = ltb-false a b q in let l = ltb-false b a r in omega arith
same-value (pos a) (negsuc b) e = absurd (false≢true (sym e))
same-value (negsuc a) (pos b) e = absurd (false≢true (sym e))
same-value (negsuc a) (negsuc b) e = ap negsuc (go (ltb b a) refl (ltb a b) refl e)
  where
    go : (s : Bool) → ltb b a ≡ s → (t : Bool) → ltb a b ≡ t → (s || t) ≡ false → a ≡ b
    go true q t r z = absurd (false≢true (sym z))
    go false q true r z = absurd (false≢true (sym z))
    go false q false r z = let k = ltb-false b a q in let l = ltb-false a b r in omega arith

above_zero : (v : ℤ) → le_z (pos 1) v ≡ true → le_z v (pos 0) ≡ false
above_zero (pos n) e = let h = leb-true 1 n e in lt-leb n 0 (omega arith)
above_zero (negsuc n) e = absurd (false≢true e)

-- ---- what a discarded answer leaves

abbrev left_of : Text → Trouble → Trouble
left_of a t = if empty a then t otherwise raised 410 t

discard-trouble : (b : Box) → (interrupted b).trouble ≡ left_of b.core.answer b.trouble
unfolding interrupted
discard-trouble b = if₂ (λ (x : Box) (t : Trouble). x.trouble ≡ t) (empty b.core.answer) refl refl

line-leads : (i : ℕ) → i < count → (v : ℤ) (c : Core) (t : Trouble) → locked c.registers ≡ false → within c.settings i v ≡ true → conflict c.settings i v ≡ false
    → piece (box (with_line [] false c) t) (line_for i v) ≡ box (with_settings (with_value i v c.settings) (with_answer [] (with_line [] false c))) (left_of c.answer t)
line-leads i h v c t free w clear =
    line-runs i h v c t free w clear
    ∙ ap (λ (u : Trouble). box (with_settings (with_value i v c.settings) (with_answer [] (with_line [] false c))) u) (discard-trouble (box (with_line [] false c) t))

label-leads : (x : Text) → every may_stand x ≡ true → length x ≤ most_text → (c : Core) (t : Trouble) → locked c.registers ≡ false
    → piece (box (with_line [] false c) t) (label_for x) ≡ box (with_settings (with_text x c.settings) (with_answer [] (with_line [] false c))) (left_of c.answer t)
label-leads x accepted few c t free =
    label-runs x accepted few c t free
    ∙ ap (λ (u : Trouble). box (with_settings (with_text x c.settings) (with_answer [] (with_line [] false c))) u) (discard-trouble (box (with_line [] false c) t))

still-some : (s t : Text) → empty s ≡ false → empty (s ++ t) ≡ false
still-some [] t e = absurd (false≢true (sym e))
still-some (x ∷ s) t e = refl

-- ---- checks 7 and 8, where a slot's limits and conflict go by less than all settings

-- a slot that is no voltage
within-other : (s s' : Settings) (i : ℕ) (v : ℤ) → (eqb i voltage ≡ false) × (eqb i voltage2 ≡ false) → within s i v ≡ within s' i v
unfolding within highest narrow if◌then◌otherwise◌
within-other s s' i v q = rw (q.0, q.1)

-- a voltage, where its range is the same
within-range : {volts wide : ℕ} → Channel volts wide → (s s' : Settings) (v : ℤ) → wide_range s wide ≡ wide_range s' wide → within s volts v ≡ within s' volts v
unfolding within
within-range {volts} k s s' v e =
    let same : highest s volts ≡ highest s' volts = k.top s ∙ ap (λ (t : Bool). if not t then twelve_volts otherwise highest_of (kind_of voltage)) e ∙ sym (k.top s') in
    rw same

-- a voltage of 12.0 and less, whatever its range
within-narrow : {volts wide : ℕ} → Channel volts wide → (s w : Settings) (v : ℤ) → within w volts v ≡ true → le_z v twelve_volts ≡ true → within s volts v ≡ true
unfolding within if◌then◌otherwise◌
within-narrow {volts} {wide} k s w v e low = rw ((and_both (le_z (lowest volts) v) _ e).0, k.top s) (go (wide_range s wide))
  where
    go : (t : Bool) → le_z v (if not t then twelve_volts otherwise highest_of (kind_of voltage)) ≡ true
    go true = under-wide false v low
    go false = low

-- a slot that is no range
conflict-other : (s : Settings) (i : ℕ) (v : ℤ) → (eqb i range ≡ false) × (eqb i range2 ≡ false) → conflict s i v ≡ false
unfolding conflict
conflict-other s i v q = and-fails (le_z v (pos 0)) _ (rw (q.0, q.1))

conflict-high : {volts wide : ℕ} → Channel volts wide → (s : Settings) (v : ℤ) → le_z v (pos 0) ≡ false → conflict s wide v ≡ false
conflict-high k s v h = k.above s v ∙ rw h

conflict-low : {volts wide : ℕ} → Channel volts wide → (s : Settings) (v : ℤ) → lt_z twelve_volts (value_at s volts) ≡ false → conflict s wide v ≡ false
conflict-low k s v h = k.above s v ∙ and-fails (le_z v (pos 0)) _ h

-- ---- the settings after the first n lines

abbrev moved_to : Settings → Settings → ℕ → Bool → ℕ → Settings
moved_to p w channel wide zero = p
moved_to p w channel wide (suc n) = let i = slot_of channel (row_at wide n) in with_value i (value_at w i) (moved_to p w channel wide n)

-- the two rows that change places: what comes before them, and what after
row_same : (n : ℕ) → (n ≡ voltage → ⊥) → (n ≡ range → ⊥) → row_at true n ≡ n
unfolding row_at if◌then◌otherwise◌
row_same n a b = rw (ne_eqb n voltage a, ne_eqb n range b)

module _ (p w : Settings) (channel : ℕ) where
  abbrev moved : Bool → ℕ → Settings
  moved wide n = moved_to p w channel wide n

  abbrev aim : ℕ → Settings
  aim n = aimed_to p w channel n

  abbrev puts : ℕ → Settings → Settings
  puts r s = with_value (slot_of channel r) (value_at w (slot_of channel r)) s

  in_order : (n : ℕ) → moved false n ≡ aim n
  unfolding row_at aimed_to if◌then◌otherwise◌
  in_order zero = refl
  in_order (suc n) = ap (puts n) (in_order n)

  before-both : (n : ℕ) → n ≤ voltage → moved true n ≡ aim n
  unfolding aimed_to
  before-both zero h = refl
  before-both (suc n) h =
      ap (λ (r : ℕ). puts r (moved true n)) (row_same n (λ e. omega arith) (λ e. omega arith)) ∙ ap (puts n) (before-both n (omega arith))

  both : moved true 6 ≡ aim 6
  unfolding aimed_to row_at if◌then◌otherwise◌
  both =
      ap (λ (s : Settings). puts voltage (puts range s)) (before-both voltage (le_refl voltage))
      ∙ ap (λ (l : List ℤ). record { values = l; text = (aim voltage).text })
      (set_comm (aim voltage).values (slot_of channel range) (slot_of channel voltage) (value_at w (slot_of channel range)) (value_at w (slot_of channel voltage)) (two-slots channel))

  after_both : (n : ℕ) → range < n → moved true n ≡ aim n
  unfolding aimed_to
  after_both zero h = absurd (omega arith)
  after_both (suc n) h = go (eqb n range) refl (λ l. after_both n l)
    where
      go : (t : Bool) → eqb n range ≡ t → (range < n → moved true n ≡ aim n) → moved true (suc n) ≡ aim (suc n)
      go true q more = rw (eqb-true n range q) both
      go false q more =
          let other = eqb-false n range q in
          let l : range < n = omega arith in
          ap (λ (r : ℕ). puts r (moved true n)) (row_same n (λ e. omega arith) other) ∙ ap (puts n) (more l)

  moved_all : (wide : Bool) → moved wide table_count ≡ aimed_to p w channel table_count
  moved_all true = after_both table_count (omega arith)
  moved_all false = in_order table_count

  -- the text stays
  moved-text : (wide : Bool) (n : ℕ) → (moved wide n).text ≡ p.text
  moved-text wide zero = refl
  moved-text wide (suc n) = moved-text wide n

  -- ---- what values they have

  module _ (lp : Whole p) where
    moved-long : (wide : Bool) (n : ℕ) → length (moved wide n).values ≡ count
    moved-long wide zero = lp.values
    moved-long wide (suc n) = length-set (moved wide n).values (slot_of channel (row_at wide n)) (value_at w (slot_of channel (row_at wide n))) ∙ moved-long wide n

    -- the one that was put last
    moved-last : (wide : Bool) (n r : ℕ) → row_at wide n ≡ r → r < table_count → value_at (moved wide (suc n)) (slot_of channel r) ≡ value_at w (slot_of channel r)
    moved-last wide n r e h =
        let l = moved-long wide n in
        let k = slot-below channel r h in
        rw e (get_or-set_same (moved wide n).values (slot_of channel r) (value_at w (slot_of channel r)) (pos 0) (omega arith))

    -- one that has its wanted value all along
    moved-kept : (wide : Bool) (n i : ℕ) → i < count → value_at p i ≡ value_at w i → value_at (moved wide n) i ≡ value_at w i
    moved-kept wide zero i h e = e
    moved-kept wide (suc n) i h e = go (eqb i (slot_of channel (row_at wide n))) refl (moved-kept wide n i h e)
      where
        go : (t : Bool) → eqb i (slot_of channel (row_at wide n)) ≡ t → value_at (moved wide n) i ≡ value_at w i → value_at (moved wide (suc n)) i ≡ value_at w i
        go true q f =
            let l = moved-long wide n in
            let is = eqb-true i (slot_of channel (row_at wide n)) q in
            rw (sym is) (get_or-set_same (moved wide n).values i (value_at w i) (pos 0) (omega arith))
        go false q f =
            get_or-set_other (moved wide n).values (slot_of channel (row_at wide n)) i (value_at w (slot_of channel (row_at wide n))) (pos 0)
            (eqb-false i (slot_of channel (row_at wide n)) q) ∙ f

    -- those aimed at, setting by setting
    aim-long : (n : ℕ) → length (aim n).values ≡ count
    aim-long n = ap (λ (s : Settings). length s.values) (sym (in_order n)) ∙ moved-long false n

    aim-own : (n r : ℕ) → r < n → n ≤ table_count → value_at (aim n) (slot_of channel r) ≡ value_at w (slot_of channel r)
    unfolding aimed_to
    aim-own zero r h k = absurd (omega arith)
    aim-own (suc n) r h k = go (eqb (slot_of channel r) (slot_of channel n)) refl (λ l. aim-own n r l (omega arith))
      where
        go : (t : Bool) → eqb (slot_of channel r) (slot_of channel n) ≡ t → (r < n → value_at (aim n) (slot_of channel r) ≡ value_at w (slot_of channel r))
            → value_at (puts n (aim n)) (slot_of channel r) ≡ value_at w (slot_of channel r)
        go true q more =
            let l = aim-long n in
            let is = eqb-true (slot_of channel r) (slot_of channel n) q in
            let b = slot-below channel n (omega arith) in
            rw is (get_or-set_same (aim n).values (slot_of channel n) (value_at w (slot_of channel n)) (pos 0) (omega arith))
        go false q more =
            let apart = eqb-false (slot_of channel r) (slot_of channel n) q in
            let other : r ≡ n → ⊥ = λ e. apart (ap (slot_of channel) e) in
            get_or-set_other (aim n).values (slot_of channel n) (slot_of channel r) (value_at w (slot_of channel n)) (pos 0) apart ∙ more (below-it other)
          where
            below-it : (r ≡ n → ⊥) → r < n
            below-it other = omega arith

    aim-others : (n i : ℕ) → n ≤ table_count → ((r : ℕ) → r < table_count → i ≡ slot_of channel r → ⊥) → value_at (aim n) i ≡ value_at p i
    unfolding aimed_to
    aim-others zero i k h = refl
    aim-others (suc n) i k h =
        get_or-set_other (aim n).values (slot_of channel n) i (value_at w (slot_of channel n)) (pos 0) (h n (omega arith)) ∙ aim-others n i (omega arith) h

module _ (p w : Settings) (channel : ℕ) (lp : Whole p) (good : Good w) where
  abbrev wide_now : Bool
  wide_now = wide_range w (slot_of channel range)

  abbrev now : ℕ → Settings
  now n = moved_to p w channel wide_now n

  -- ---- checks 7 and 8 let each line pass

  voltage-within : (wide : Bool) → wide_range w (slot_of channel range) ≡ wide → (n : ℕ) → row_at wide n ≡ voltage
      → within (moved_to p w channel wide n) (slot_of channel voltage) (value_at w (slot_of channel voltage)) ≡ true
  unfolding wide_range
  voltage-within true is n e =
      let k = own-channel channel in
      let n5 : n ≡ range = sym (row-row true n) ∙ ap (row_at true) e ∙ row_first in
      let last : value_at (moved_to p w channel true range) (slot_of channel range) ≡ value_at w (slot_of channel range) =
      moved-last p w channel lp true voltage range row_first (omega arith) in
      rw n5 (within-range k (moved_to p w channel true range) w (value_at w (slot_of channel voltage)) (ap (le_z (pos 1)) last) ∙ good (slot_of channel voltage) (volts-below channel))
  voltage-within false is n e =
      let k = own-channel channel in
      within-narrow k (moved_to p w channel false n) w (value_at w (slot_of channel voltage)) (good (slot_of channel voltage) (volts-below channel))
      (narrow-voltage k (volts-below channel) w good is)

  lets-within : (wide : Bool) → wide_range w (slot_of channel range) ≡ wide → (n : ℕ) → n < table_count
      → within (moved_to p w channel wide n) (slot_of channel (row_at wide n)) (value_at w (slot_of channel (row_at wide n))) ≡ true
  lets-within wide is n h = go (eqb (row_at wide n) voltage) refl
    where
      go : (s : Bool) → eqb (row_at wide n) voltage ≡ s
          → within (moved_to p w channel wide n) (slot_of channel (row_at wide n)) (value_at w (slot_of channel (row_at wide n))) ≡ true
      go false q =
          let b = row_below wide n h in
          within-other (moved_to p w channel wide n) w (slot_of channel (row_at wide n)) (value_at w (slot_of channel (row_at wide n))) (not-voltage channel (row_at wide n) b q)
          ∙ good (slot_of channel (row_at wide n)) (slot-below channel (row_at wide n) b)
      go true q = let e = eqb-true (row_at wide n) voltage q in rw e (voltage-within wide is n e)

  range_clear : (wide : Bool) → wide_range w (slot_of channel range) ≡ wide → (n : ℕ) → row_at wide n ≡ range
      → conflict (moved_to p w channel wide n) (slot_of channel range) (value_at w (slot_of channel range)) ≡ false
  unfolding wide_range row_at if◌then◌otherwise◌
  range_clear true is n e = conflict-high (own-channel channel) (moved_to p w channel true n) (value_at w (slot_of channel range)) (above_zero (value_at w (slot_of channel range)) is)
  range_clear false is n e =
      let k = own-channel channel in
      let last : value_at (moved_to p w channel false range) (slot_of channel voltage) ≡ value_at w (slot_of channel voltage) =
      moved-last p w channel lp false voltage voltage refl (omega arith) in
      rw e (conflict-low k (moved_to p w channel false range) (value_at w (slot_of channel range))
      (ap (lt_z twelve_volts) last ∙ lt_z-not twelve_volts (value_at w (slot_of channel voltage)) ∙ ap not (narrow-voltage k (volts-below channel) w good is)))

  lets-clear : (wide : Bool) → wide_range w (slot_of channel range) ≡ wide → (n : ℕ) → n < table_count
      → conflict (moved_to p w channel wide n) (slot_of channel (row_at wide n)) (value_at w (slot_of channel (row_at wide n))) ≡ false
  lets-clear wide is n h = go (eqb (row_at wide n) range) refl
    where
      go : (s : Bool) → eqb (row_at wide n) range ≡ s
          → conflict (moved_to p w channel wide n) (slot_of channel (row_at wide n)) (value_at w (slot_of channel (row_at wide n))) ≡ false
      go false q =
          conflict-other (moved_to p w channel wide n) (slot_of channel (row_at wide n)) (value_at w (slot_of channel (row_at wide n)))
          (not-range channel (row_at wide n) (row_below wide n h) q)
      go true q = let e = eqb-true (row_at wide n) range q in rw e (range_clear wide is n e)

  -- a row that doesn't differ has its wanted value all along
  moved_same : (n : ℕ) → n < table_count → differs p w (slot_at w channel n) ≡ false → now (suc n) ≡ now n
  moved_same n h q =
      let i = slot_at w channel n in
      let e = same-value (value_at p i) (value_at w i) q in
      let is : value_at (now n) i ≡ value_at w i = moved-kept p w channel lp wide_now n i (slot-at-below w channel n h) e in
      ap (λ (v : ℤ). with_value i v (now n)) (sym is) ∙ ap (λ (l : List ℤ). record { values = l; text = (now n).text }) (set-get_or (now n).values i (pos 0))

  -- ---- the lines, from a box that has the present settings

  module _ (c : Core) (t : Trouble) (free : locked c.registers ≡ false) where
    abbrev start : Box
    start = box (with_line [] false (with_settings p c)) t

    abbrev clean : Core
    clean = with_answer [] (with_line [] false c)

    -- after the first n rows no line was written, or one was and the box has those rows' values
    data Reached (n : ℕ) : Type 0 where
      none : lines_to p w channel n ≡ [] → now n ≡ p → Reached n
      some : empty (lines_to p w channel n) ≡ false → piece start (lines_to p w channel n) ≡ box (with_settings (now n) clean) (left_of c.answer t) → Reached n

    -- a row that differs
    one-more : (n : ℕ) → n < table_count → differs p w (slot_at w channel n) ≡ true → Reached n → Reached (suc n)
    unfolding lines_to if◌then◌otherwise◌
    one-more n h q (none e m) =
        let i = slot_at w channel n in
        let v = value_at w i in
        let d = with_settings p c in
        let is : lines_to p w channel (suc n) ≡ line_for i v = rw (e, q) in
        let runs = line-leads i (slot-at-below w channel n h) v d t free (rw m at (lets-within wide_now refl n h)) (rw m at (lets-clear wide_now refl n h)) in
        some (ap empty is ∙ line-some i v) (ap (piece start) is ∙ runs ∙ ap (λ (s : Settings). box (with_settings (with_value i v s) clean) (left_of c.answer t)) (sym m))
    one-more n h q (some f g) =
        let i = slot_at w channel n in
        let v = value_at w i in
        let d = with_settings (now n) (with_answer [] c) in
        let is : lines_to p w channel (suc n) ≡ lines_to p w channel n ++ line_for i v = rw q in
        let runs = line-leads i (slot-at-below w channel n h) v d (left_of c.answer t) free (lets-within wide_now refl n h) (lets-clear wide_now refl n h) in
        some (ap empty is ∙ still-some (lines_to p w channel n) (line_for i v) f)
        (ap (piece start) is ∙ (demand2.parts start (lines_to p w channel n) (line_for i v)).0 ∙ ap (λ (b : Box). piece b (line_for i v)) g ∙ runs)

    no_more : (n : ℕ) → n < table_count → differs p w (slot_at w channel n) ≡ false → Reached n → Reached (suc n)
    unfolding lines_to if◌then◌otherwise◌
    no_more n h q (none e m) =
        let is : lines_to p w channel (suc n) ≡ lines_to p w channel n = rw (q, append-nil (lines_to p w channel n)) in
        none (is ∙ e) (moved_same n h q ∙ m)
    no_more n h q (some f g) =
        let is : lines_to p w channel (suc n) ≡ lines_to p w channel n = rw (q, append-nil (lines_to p w channel n)) in
        some (ap empty is ∙ f) (ap (piece start) is ∙ g ∙ ap (λ (s : Settings). box (with_settings s clean) (left_of c.answer t)) (sym (moved_same n h q)))

    reached : (n : ℕ) → n ≤ table_count → Reached n
    unfolding lines_to
    reached zero h = none refl refl
    reached (suc n) h = go (differs p w (slot_at w channel n)) refl (reached n (omega arith))
      where
        go : (b : Bool) → differs p w (slot_at w channel n) ≡ b → Reached n → Reached (suc n)
        go true q r = one-more n (omega arith) q r
        go false q r = no_more n (omega arith) q r

    abbrev Led : Box → Type 0
    Led b = let d = discarded (lines_for p w channel) b in piece b (lines_for p w channel) ≡ box (with_settings (aimed p w channel) d.core) d.trouble

    abbrev rows : Text
    rows = lines_to p w channel table_count

    -- where lines were written
    led-some : (l : Text) → lines_for p w channel ≡ l → empty l ≡ false
        → piece start l ≡ box (with_settings (aimed p w channel) clean) (left_of c.answer t) → Led start
    unfolding if◌then◌otherwise◌
    led-some l is f g =
        rw (is, f) (g ∙ sym (ap₂ (λ (x : Core) (u : Trouble). box (with_settings (aimed p w channel) x) u) (discard-core start) (discard-trouble start)))

    start-led : possible_text w.text ≡ true → length w.text ≡ most_text → Led start
    unfolding piece if◌then◌otherwise◌
    start-led possible long = go (same p.text w.text) refl (reached table_count (le_refl table_count))
      where
        held : HeldRight w.text
        held = held-right w.text possible

        whole : padded most_text (displayed w) ≡ w.text
        whole = ap (λ (n : ℕ). padded n (displayed w)) (sym long) ∙ held.whole

        few : length (displayed w) ≤ most_text
        few = let k = held.short in omega arith

        -- once the text is put
        at_last : with_text (displayed w) (now table_count) ≡ aimed p w channel
        at_last = ap₂ (λ (v : List ℤ) (x : Text). record { values = v; text = x }) (ap (λ (s : Settings). s.values) (moved_all p w channel wide_now)) whole

        go : (b : Bool) → same p.text w.text ≡ b → Reached table_count → Led start
        go true q r = by r
          where
            is : lines_for p w channel ≡ rows
            is = rw q (append-nil rows)

            there : now table_count ≡ aimed p w channel
            there =
                ap₂ (λ (v : List ℤ) (x : Text). record { values = v; text = x }) (ap (λ (s : Settings). s.values) (moved_all p w channel wide_now))
                (moved-text p w channel wide_now table_count ∙ same-eq p.text w.text q)

            by : Reached table_count → Led start
            by (none e m) = rw (is, e) (ap (λ (s : Settings). box (with_line [] false (with_settings s c)) t) (sym m ∙ there))
            by (some f g) = led-some rows is f (g ∙ ap (λ (s : Settings). box (with_settings s clean) (left_of c.answer t)) there)
        go false q r = by r
          where
            is : lines_for p w channel ≡ rows ++ label_for (displayed w)
            is = rw q

            by : Reached table_count → Led start
            by (none e m) =
                led-some (label_for (displayed w)) (is ∙ ap (λ (l : Text). l ++ label_for (displayed w)) e) (label-some (displayed w))
                (label-leads (displayed w) held.accepted few (with_settings p c) t free
                ∙ ap (λ (s : Settings). box (with_settings s clean) (left_of c.answer t)) (ap (with_text (displayed w)) (sym m) ∙ at_last))
            by (some f g) =
                led-some (rows ++ label_for (displayed w)) is (still-some rows (label_for (displayed w)) f)
                ((demand2.parts start rows (label_for (displayed w))).0 ∙ ap (λ (b : Box). piece b (label_for (displayed w))) g
                ∙ label-leads (displayed w) held.accepted few (with_settings (now table_count) (with_answer [] c)) (left_of c.answer t) free
                ∙ ap (λ (s : Settings). box (with_settings s clean) (left_of c.answer t)) at_last)

writable-good : (p w : Settings) (channel : ℕ) → writable p w channel ≡ true → Good w
unfolding writable
writable-good p w channel e =
    let a = (and_both (eqb channel 1 || eqb channel 2) _ e).1 in
    let b = (and_both (possible_settings p) _ a).1 in
    good-from w (and_both (possible_settings w) _ b).0

writable-text : (p w : Settings) (channel : ℕ) → writable p w channel ≡ true → possible_text w.text ≡ true
unfolding writable
writable-text p w channel e =
    let a = (and_both (eqb channel 1 || eqb channel 2) _ e).1 in
    let b = (and_both (possible_settings p) _ a).1 in
    text-from w (and_both (possible_settings w) _ b).0

leads : Leads
leads p w channel lp lw ok b ready =
    let c = b.core in
    let rebuilt : Settings → Text → Bool → Box = λ s l o. box (with_line l o (with_settings s c)) b.trouble in
    let is : b ≡ rebuilt p [] false =
    ap (λ (s : Settings). rebuilt s c.line c.overlong) ready.present ∙ ap (λ (l : Text). rebuilt p l c.overlong) ready.fresh.0
    ∙ ap (λ (o : Bool). rebuilt p [] o) ready.fresh.1 in
    subst (λ (x : Box). let d = discarded (lines_for p w channel) x in piece x (lines_for p w channel) ≡ box (with_settings (aimed p w channel) d.core) d.trouble) (sym is)
    (start-led p w channel lp (writable-good p w channel ok) c b.trouble ready.free (writable-text p w channel ok) lw.text)

-- ---- of calls

-- what was written, where nothing was refused
lines-written : (p w : Settings) (channel : ℕ) (buffer left : Text) (n : ℕ) → result_of 0 n left ≡ written p w channel buffer
    → (writable p w channel ≡ true) × (take n left ≡ lines_for p w channel)
unfolding written if◌then◌otherwise◌
lines-written p w channel buffer left n e = go (writable p w channel) refl (leb (length (lines_for p w channel)) (length buffer)) refl
  where
    never : (k : ℕ) (v : ℕ) (x : Text) → (k ≡ 0 → ⊥) → result_of 0 n left ≡ result_of k v x → ⊥
    never k v x apart f = apart (sym (ap (λ (r : Result). r.number) f))

    go : (s : Bool) → writable p w channel ≡ s → (t : Bool) → leb (length (lines_for p w channel)) (length buffer) ≡ t
        → (writable p w channel ≡ true) × (take n left ≡ lines_for p w channel)
    go false q t r = absurd (never 6 0 buffer (λ z. omega (arith, z)) (rw q at e))
    go true q false r = absurd (never 7 (length (lines_for p w channel)) buffer (λ z. omega (arith, z)) (rw (q, r) at e))
    go true q true r =
        let f : result_of 0 n left ≡ result_of 0 (length (lines_for p w channel)) (lines_for p w channel ++ drop (length (lines_for p w channel)) buffer) = rw (q, r) at e in
        (q, ap₂ take (ap (λ (x : Result). x.value) f) (ap (λ (x : Result). x.buffer) f) ∙ take-append_seam (lines_for p w channel) (drop (length (lines_for p w channel)) buffer))

leads-of-calls : LeadsOfCalls
unfolding after happens
leads-of-calls p w channel buffer left n lp lw e s t m k' es rs could ready calls recut =
    let k = lines-written p w channel buffer left n e in
    let b = box_of s m in
    let is : box_of t k' ≡ piece b (take n left) =
    (calls-are-a-history s t m k' es rs could calls).box ∙ (demand2.pieces b es (received (take n left) ∷ []) recut).0 in
    is ∙ rw k.1 (leads p w channel lp lw k.0 b ready)

pub lines-lead : LinesLead
lines-lead =
    record {
      histories = leads;
      calls = leads-of-calls;
      aims = λ p w channel lp.
          record {
            text = refl;
            own = λ r h. aim-own p w channel lp table_count r h (le_refl table_count);
            others = λ i h. aim-others p w channel lp table_count i (le_refl table_count) h;
          };
    }
