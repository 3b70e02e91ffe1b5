-- One line of the writer's, run at the start of a line where its value is let pass: the setting has the value then, an answer that waited is
-- discarded, and nothing else is changed.
use mathlib.Core.Path.{◌≡◌, refl, sym, ◌∙◌, ap}
use mathlib.Core.Bool.{Bool, true, false, not, and-false, false≢true}
use mathlib.Core.List.{List, [], ◌∷◌, ◌++◌, append_assoc, append-nil}
use Prim.Native.Nat.{ℕ, ◌+◌, ◌≤◌, ◌<◌}
use Prim.Native.Char.{code}
use native.Mathlib.Omega.{arith}
use lib.Dec.{leb, eqb}
use lib.ListN.{length, length-append}
use lib.IntN.{ℤ}
use borrow.Author.Tests.{leb-true, lt-ltb, not-true, ne_eqb}
use Rattle.registers.specs.Text.{Text, if◌then◌otherwise◌, bytes, white, printable, every, empty}
use Rattle.registers.specs.Check.{passed, check, ◌>>=◌, ◌>>◌}
use Rattle.registers.specs.Settings.{count, kind_of, with_value, with_text, within, conflict, answer_of}
use Rattle.registers.specs.Status.{Trouble, locked}
use Rattle.registers.specs.declared.rounding.Side.TheVariants.{On}
use Rattle.registers.proofs.Tests.{and_both, every_append}
use Rattle.interpreter.specs.Box.{Core, Box, box, with_settings, with_line, with_answer, most_line}
use Rattle.interpreter.specs.Unit.{read_unit}
use Rattle.interpreter.specs.Demand2.{tabled, display}
use Rattle.interpreter.proofs.demands.trip.ShownText.{quoted-means, label-sets}
use Rattle.registers.specs.Label.{most_text, may_stand, text_in, quoted_text}
use Rattle.interpreter.specs.Parameter.{deed_of}
use Rattle.interpreter.specs.Perform.{blocked, permitted, changed, perform}
use Rattle.interpreter.specs.Line.{attempt, run_units, interrupted, finished, run_line, end_line, held, byte, piece}
use Rattle.interpreter.specs.declared.deed.Deed.TheVariants.{Change}
use Rattle.interpreter.specs.declared.deed.Change.TheVariants.{Put, Label}
use Rattle.interpreter.proofs.Choices.{if-elim}
use Rattle.interpreter.proofs.Lists.{is-empty}
use Rattle.interpreter.proofs.demands.Demand2.{demand2}
use Rattle.interpreter.proofs.demands.trip.ReadBack.{plain_byte, plain_text, answer-sets, answer-plain}
use Rattle.interpreter.proofs.demands.trip.SentUnit as sent
use Rattle.writer.specs.Lines.{header_for, line_for, label_header, label_for}
use Rattle.writer.proofs.Headers.{spelling-for, label-spelling, header-short, inside, header-inside}

-- ---- the bytes of a line

-- bytes that have room in the line are held
held_whole : (c : Core) (t : Trouble) (o : Bool) (text l : Text) → every inside text ≡ true → length l + length text ≤ most_line
    → piece (box (with_line l o c) t) text ≡ box (with_line (l ++ text) o c) t
unfolding piece byte held if◌then◌otherwise◌
held_whole c t o [] l h room = ap (λ (x : Text). box (with_line x o c) t) (sym (append-nil l))
held_whole c t o (x ∷ text) l h room =
    let p = and_both (inside x) (every inside text) h in
    let fits : length (l ++ x ∷ []) + length text ≤ most_line = rw length-append (omega arith) in
    rw (not-true (eqb x 10) p.0, lt-ltb (length l) most_line (omega arith))
    (held_whole c t o text (l ++ x ∷ []) p.1 fits ∙ ap (λ (y : Text). box (with_line y o c) t) (append_assoc l (x ∷ []) text))

plain-inside : (x : ℕ) → plain_byte x ≡ true → inside x ≡ true
unfolding printable
plain-inside x e =
    let p = and_both (printable x) _ e in
    let h = leb-true 33 x (and_both (leb 33 x) (leb x 126) p.0).0 in
    rw (ne_eqb x 10 (λ z. omega arith))

every-inside : (t : Text) → every plain_byte t ≡ true → every inside t ≡ true
every-inside [] h = refl
every-inside (x ∷ t) h = let p = and_both (plain_byte x) (every plain_byte t) h in rw (plain-inside x p.0) (every-inside t p.1)

-- the core once a waiting answer is discarded
pub discard-core : (b : Box) → (interrupted b).core ≡ with_answer [] b.core
unfolding interrupted
discard-core b =
    if-elim (λ (c : Box). c.core ≡ with_answer [] b.core) (empty b.core.answer)
    (λ e. ap (λ (a : Text). with_answer a b.core) (is-empty b.core.answer e)) (λ _. refl)

none-finished : (c : Core) (t : Trouble) → finished (box (with_answer [] c) t) ≡ box (with_answer [] c) t
unfolding finished if◌then◌otherwise◌
none-finished c t = refl

stands_one : (x : ℕ) → may_stand x ≡ true → inside x ≡ true
unfolding may_stand
stands_one x e = rw (ne_eqb x 10 (λ z. false≢true (rw z at e)))

stands-inside : (t : Text) → every may_stand t ≡ true → every inside t ≡ true
stands-inside [] h = refl
stands-inside (x ∷ t) h = let p = and_both (may_stand x) (every may_stand t) h in rw (stands_one x p.0) (stands-inside t p.1)

-- ---- a setting's new value

module _ (i : ℕ) (v : ℤ) (c : Core) (t : Trouble) (u given : Text) (path : List Text)
    (e : read_unit c.settings [] u ≡ passed (record { deed = Change (Put i v On); text = given; path = path }))
    (free : locked c.registers ≡ false) (clear : conflict c.settings i v ≡ false) where
  let-pass : permitted (Change (Put i v On)) c ≡ passed tt
  unfolding permitted ◌>>◌ check
  let-pass = rw (free, and-false (blocked (Change (Put i v On))), clear)

  put-value : run_units (u ∷ []) [] (box c t) ≡ box (with_settings (with_value i v c.settings) c) t
  unfolding run_units attempt perform changed ◌>>=◌ ◌>>◌
  put-value = rw (e, let-pass)

module _ (i : ℕ) (h : i < count) (v : ℤ) (c : Core) (t : Trouble) (free : locked c.registers ≡ false)
    (w : within c.settings i v ≡ true) (clear : conflict c.settings i v ≡ false) where
  abbrev value : Text
  value = answer_of (kind_of i) v

  abbrev text : Text
  text = header_for i ++ (code " " ∷ value ++ [])

  plain : plain_text value ≡ true
  plain = answer-plain c.settings i h v w

  value-bytes : (every plain_byte value ≡ true) × (length value ≤ 30)
  unfolding plain_text
  value-bytes =
      let p = and_both (not (empty value)) _ plain in
      let q = and_both (every plain_byte value) (leb (length value) 30) p.1 in
      (q.0, leb-true (length value) 30 q.1)

  parts : sent.Line (tabled i) [] (header_for i) (code " " ∷ []) value []
  unfolding white
  parts = record { spelling = spelling-for i h; left_white = refl; gap_white = refl; gap_there = refl; right_white = refl; sendable = sent.plain-sendable value plain }

  text-inside : every inside text ≡ true
  text-inside =
      every_append inside (header_for i) (code " " ∷ value ++ []) (header-inside i h)
      (every_append inside value [] (every-inside value value-bytes.0) refl)

  short : length text ≤ most_line
  short =
      let a = header-short i h in
      let b = value-bytes.1 in
      simp (length-append) (omega arith)

  line-is : line_for i v ≡ text ++ 10 ∷ []
  unfolding line_for
  line-is = simp (append_assoc, append-nil)

  -- the box that waits for the line's newline, and the one in which its unit runs
  abbrev start : Box
  start = box (with_line [] false c) t

  abbrev discarding : Trouble
  discarding = (interrupted start).trouble

  abbrev clean : Core
  clean = with_answer [] (with_line [] false c)

  held-is : piece start text ≡ box (with_line text false c) t
  held-is = held_whole c t false text [] text-inside (let s = short in omega arith)

  newline-is : end_line (box (with_line text false c) t) ≡ box (with_settings (with_value i v c.settings) clean) discarding
  unfolding end_line run_line if◌then◌otherwise◌ deed_of
  newline-is =
      let n : interrupted start ≡ box clean discarding = ap (λ (x : Core). box x discarding) (discard-core start) in
      let r = sent.reads-line (tabled i) [] (header_for i) (code " " ∷ []) value [] parts c.settings (Change (Put i v On)) (answer-sets c.settings i h v w) in
      rw (n, sent.alone (tabled i) [] (header_for i) (code " " ∷ []) value [] parts, put-value i v clean discarding text _ _ r free clear)
      (none-finished (with_settings (with_value i v c.settings) (with_line [] false c)) discarding)

  pub line-runs : piece start (line_for i v) ≡ box (with_settings (with_value i v c.settings) clean) discarding
  unfolding piece byte if◌then◌otherwise◌
  line-runs = ap (piece start) line-is ∙ (demand2.parts start text (10 ∷ [])).0 ∙ ap (λ (b : Box). piece b (10 ∷ [])) held-is ∙ newline-is

-- a line isn't empty
pub line-some : (i : ℕ) (v : ℤ) → empty (line_for i v) ≡ false
unfolding line_for
line-some i v = go (header_for i)
  where
    go : (h : Text) → empty (h ++ (code " " ∷ answer_of (kind_of i) v ++ 10 ∷ [])) ≡ false
    go [] = refl
    go (x ∷ h) = refl

-- ---- the display's text

module _ (x : Text) (accepted : every may_stand x ≡ true) (few : length x ≤ most_text) (c : Core) (t : Trouble) (free : locked c.registers ≡ false) where
  abbrev quoted : Text
  quoted = quoted_text x

  abbrev label_text : Text
  label_text = label_header ++ (code " " ∷ quoted ++ [])

  label-parts : sent.Line display [] label_header (code " " ∷ []) quoted []
  unfolding white
  label-parts = record { spelling = label-spelling; left_white = refl; gap_white = refl; gap_there = refl; right_white = refl; sendable = sent.quoted-sendable x accepted }

  label_inside : every inside label_text ≡ true
  unfolding bytes
  label_inside = every_append inside (x ++ 34 ∷ []) [] (every_append inside x (34 ∷ []) (stands-inside x accepted) refl) refl

  label-short : length label_text ≤ most_line
  unfolding bytes
  label-short = simp (length-append) (omega arith)

  label_is : label_for x ≡ label_text ++ 10 ∷ []
  unfolding label_for
  label_is = sym (append_assoc label_header (code " " ∷ quoted ++ []) (10 ∷ []) ∙ ap (λ (y : Text). label_header ++ code " " ∷ y) (append_assoc quoted [] (10 ∷ [])))

  abbrev label_start : Box
  label_start = box (with_line [] false c) t

  abbrev label_clean : Core
  label_clean = with_answer [] (with_line [] false c)

  label-held : piece label_start label_text ≡ box (with_line label_text false c) t
  label-held = held_whole c t false label_text [] label_inside (let s = label-short in omega arith)

  abbrev labelled : Text → Box
  labelled y = box (with_settings (with_text y c.settings) label_clean) (interrupted label_start).trouble

  label-puts : (path : List Text) → read_unit c.settings [] label_text ≡ passed (record { deed = Change Label; text = text_in quoted; path = path })
      → run_units (label_text ∷ []) [] (box label_clean (interrupted label_start).trouble) ≡ labelled (text_in quoted)
  unfolding run_units attempt permitted perform changed ◌>>=◌ ◌>>◌ check
  label-puts path e = rw (e, free)

  label-newline : end_line (box (with_line label_text false c) t) ≡ labelled x
  unfolding end_line run_line if◌then◌otherwise◌ deed_of
  label-newline =
      let n : interrupted label_start ≡ box label_clean (interrupted label_start).trouble = ap (λ (d : Core). box d (interrupted label_start).trouble) (discard-core label_start) in
      let r = sent.reads-line display [] label_header (code " " ∷ []) quoted [] label-parts c.settings (Change Label) (label-sets x accepted few) in
      rw (n, sent.alone display [] label_header (code " " ∷ []) quoted [] label-parts, label-puts _ r, quoted-means x accepted)
      (none-finished (with_settings (with_text x c.settings) (with_line [] false c)) (interrupted label_start).trouble)

  pub label-runs : piece label_start (label_for x) ≡ labelled x
  unfolding piece byte if◌then◌otherwise◌
  label-runs = ap (piece label_start) label_is ∙ (demand2.parts label_start label_text (10 ∷ [])).0 ∙ ap (λ (b : Box). piece b (10 ∷ [])) label-held ∙ label-newline

pub label-some : (x : Text) → empty (label_for x) ≡ false
unfolding label_for bytes
label-some x = refl
