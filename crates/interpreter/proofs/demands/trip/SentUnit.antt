-- A line that is white space, a header, white space, one parameter and white space: it is one unit, and its header and its parameter are
-- read as they stand there. The header is solid, without white space, `;` or quotes, and the parameter is `Sendable`, so every cut of the
-- definitions falls between them.
use mathlib.Core.Path.{◌≡◌, refl, sym, ◌∙◌, ap}
use mathlib.Core.Bool.{Bool, true, false, not, ◌&&◌, ◌||◌, or-true, and-false, false≢true}
use mathlib.Core.List.{[], ◌∷◌, ◌++◌, append-nil, append_assoc}
use Prim.Native.Nat.{ℕ, ◌≤◌}
use Prim.Native.Char.{code}
use native.Mathlib.Omega.{arith}
use lib.Dec.{leb, eqb}
use borrow.Author.Tests.{not-true, leb-true, leb-false, le-leb, lt-leb, eqb-true, ne_eqb}
use Rattle.registers.specs.Text.{Text, if◌then◌otherwise◌, white, visible, printable, between, every, empty, first, start, after}
use Rattle.registers.specs.Check.{passed, check, ◌>>=◌, ◌>>◌}
use Rattle.registers.specs.Label.{may_stand, text_in, quoted_text}
use Rattle.registers.specs.declared.settings.Settings.{Settings}
use Rattle.registers.proofs.Tests.{and_both, and-fails, every_append}
use Rattle.interpreter.specs.Cuts.{quote_next, trim_end, trim}
use Rattle.interpreter.specs.Header.{path_after}
use Rattle.interpreter.specs.Parameter.{parameters, least, greatest, deed_of}
use Rattle.interpreter.specs.Unit.{allowed, header_text, parameter_text, read_unit}
use Rattle.interpreter.specs.Line.{units_of}
use Rattle.interpreter.specs.Demand2.{Which, tabled, display, role_of, Spelling}
use Rattle.interpreter.specs.declared.deed.Deed.{Deed}
use Rattle.interpreter.proofs.header.Grammar.{header-none}
use Rattle.interpreter.proofs.Separators.{other, free}
use Rattle.interpreter.proofs.cuts.Parts.{undivided, free-undivided, cut-one, calm-front, quoted-parts}
use Rattle.interpreter.proofs.demands.trip.ReadBack.{plain_byte, plain_text}
use Rattle.interpreter.proofs.Checks.{apart}
use Rattle.interpreter.proofs.unit.Trims.{some_after}
use Rattle.interpreter.proofs.Lists.{every_map}
use Rattle.interpreter.proofs.header.Bytes.{solid, unquoted, header-is-solid, header-is-unquoted}
use Rattle.interpreter.proofs.unit.HeaderAllowed.{white-allowed, solid-allowed}

-- ---- white space and solid bytes

solid-visible : (b : ℕ) → solid b ≡ true → white b ≡ false
unfolding solid
solid-visible b e = not-true (white b) (and_both (not (white b)) _ e).0

skip-white : (l t : Text) → every white l ≡ true → after white (l ++ t) ≡ after white t
unfolding if◌then◌otherwise◌
skip-white [] t h = refl
skip-white (b ∷ l) t h = let e = and_both (white b) (every white l) h in rw e.0 (skip-white l t e.1)

-- a solid text has no white space at its start to pass over
solid-stays : (h t : Text) → empty h ≡ false → every solid h ≡ true → after white (h ++ t) ≡ h ++ t
unfolding if◌then◌otherwise◌
solid-stays [] t n h = absurd (false≢true (sym n))
solid-stays (b ∷ h) t n e = rw (solid-visible b (and_both (solid b) (every solid h) e).0)

-- a solid text ends where white space begins
solid-start : (h g t : Text) → every solid h ≡ true → empty g ≡ false → every white g ≡ true → start visible (h ++ (g ++ t)) ≡ h
unfolding if◌then◌otherwise◌
solid-start [] [] t e n w = absurd (false≢true (sym n))
solid-start [] (x ∷ g) t e n w = rw (and_both (white x) (every white g) w).0
solid-start (b ∷ h) g t e n w =
    let p = and_both (solid b) (every solid h) e in
    rw (solid-visible b p.0) (ap (λ (x : Text). b ∷ x) (solid-start h g t p.1 n w))

solid-after : (h g t : Text) → every solid h ≡ true → empty g ≡ false → every white g ≡ true → after visible (h ++ (g ++ t)) ≡ g ++ t
unfolding if◌then◌otherwise◌
solid-after [] [] t e n w = absurd (false≢true (sym n))
solid-after [] (x ∷ g) t e n w = rw (and_both (white x) (every white g) w).0
solid-after (b ∷ h) g t e n w =
    let p = and_both (solid b) (every solid h) e in rw (solid-visible b p.0) (solid-after h g t p.1 n w)

white-end : (r : Text) → every white r ≡ true → trim_end r ≡ []
unfolding trim_end if◌then◌otherwise◌
white-end [] h = refl
white-end (b ∷ r) h = let e = and_both (white b) (every white r) h in rw (e.0, white-end r e.1)

solid-end : (a r : Text) → every solid a ≡ true → every white r ≡ true → trim_end (a ++ r) ≡ a
unfolding trim_end if◌then◌otherwise◌
solid-end [] r e w = white-end r w
solid-end (b ∷ a) r e w =
    let p = and_both (solid b) (every solid a) e in
    rw (solid-visible b p.0) (ap (λ (x : Text). b ∷ x) (solid-end a r p.1 w))

-- ---- bytes by what they may be

white-joins : (b : ℕ) → white b ≡ true → other (code ";") b ≡ true
unfolding white
white-joins b e = let h = leb-true b 32 (and_both (leb b 32) _ e).0 in rw (ne_eqb b 59 (λ z. omega arith))

solid-joins : (b : ℕ) → solid b ≡ true → other (code ";") b ≡ true
unfolding solid
solid-joins b e = (and_both (printable b) _ (and_both (not (white b)) _ e).1).1

plain-solid : (b : ℕ) → plain_byte b ≡ true → solid b ≡ true
unfolding solid white printable
plain-solid b e =
    let p = and_both (printable b) (not (eqb b (code ",")) && not (eqb b (code ";"))) e in
    let q = and_both (not (eqb b (code ","))) (not (eqb b (code ";"))) p.1 in
    let h = leb-true 33 b (and_both (leb 33 b) (leb b 126) p.0).0 in
    rw (lt-leb b 32 (omega arith), p.0, q.1)

plain-comma : (b : ℕ) → plain_byte b ≡ true → other (code ",") b ≡ true
plain-comma b e = (and_both (not (eqb b (code ","))) _ (and_both (printable b) _ e).1).0

-- white space opens no quote
white-unquoted : (b : ℕ) → white b ≡ true → unquoted b ≡ true
unfolding white unquoted
white-unquoted b e =
    let h = leb-true b 32 (and_both (leb b 32) _ e).0 in rw (ne_eqb b 34 (λ z. omega arith), ne_eqb b 39 (λ z. omega arith))

-- ---- an answer that can be sent back as a parameter

pub record Sendable (a : Text) : Type 0 where
  pub some : empty a ≡ false
  pub starts : white (first a) ≡ false
  pub bytes : every allowed a ≡ true
  pub ends : (r : Text) → every white r ≡ true → trim_end (a ++ r) ≡ a
  pub unit : (r : Text) → every white r ≡ true → undivided (code ";") 0 (a ++ r) ≡ true
  pub one : undivided (code ",") 0 a ≡ true

-- no white space is passed over at its start
stays : (a t : Text) → Sendable a → after white (a ++ t) ≡ a ++ t
unfolding if◌then◌otherwise◌
stays [] t s = absurd (false≢true (sym s.some))
stays (b ∷ a) t s = rw s.starts

-- what is plain
plain-starts : (a : Text) → empty a ≡ false → every solid a ≡ true → white (first a) ≡ false
plain-starts [] n e = absurd (false≢true (sym n))
plain-starts (b ∷ a) n e = solid-visible b (and_both (solid b) (every solid a) e).0

pub plain-sendable : (a : Text) → plain_text a ≡ true → Sendable a
unfolding plain_text free
plain-sendable a e =
    let p = and_both (not (empty a)) _ e in
    let bs = (and_both (every plain_byte a) _ p.1).0 in
    let some = not-true (empty a) p.0 in
    let so = every_map plain_byte solid plain-solid a bs in
    record {
      some = some;
      starts = plain-starts a some so;
      bytes = every_map solid allowed solid-allowed a so;
      ends = λ r v. solid-end a r so v;
      unit = λ r v. free-undivided (code ";") 0 (a ++ r)
          (every_append (other (code ";")) a r (every_map solid (other (code ";")) solid-joins a so) (every_map white (other (code ";")) white-joins r v));
      one = free-undivided (code ",") 0 a (every_map plain_byte (other (code ",")) plain-comma a bs);
    }

-- the display's text in its quotes
stands-allowed : (b : ℕ) → may_stand b ≡ true → allowed b ≡ true
unfolding may_stand white printable
stands-allowed b e =
    let p = and_both (between 32 126 b) _ e in
    let q = and_both (leb 32 b) (leb b 126) p.0 in
    go (leb 33 b) refl (leb-true 32 b q.0) q.1
  where
    go : (t : Bool) → leb 33 b ≡ t → 32 ≤ b → leb b 126 ≡ true → ((leb b 32 && not (eqb b 10)) || (leb 33 b && leb b 126)) ≡ true
    go true r l m = rw (r, m) (or-true (leb b 32 && not (eqb b 10)))
    go false r l m =
        let h = leb-false 33 b r in
        rw (le-leb b 32 (omega arith), ne_eqb b 10 (λ z. omega arith))

stands-other : (b : ℕ) → may_stand b ≡ true → other 34 b ≡ true
unfolding may_stand
stands-other b e = go (eqb b 34) refl
  where
    go : (t : Bool) → eqb b 34 ≡ t → not t ≡ true
    go true q = absurd (false≢true (rw (eqb-true b 34 q) at e))
    go false q = refl

quote-ends : (t r : Text) → every white r ≡ true → trim_end ((t ++ 34 ∷ []) ++ r) ≡ t ++ 34 ∷ []
unfolding trim_end white if◌then◌otherwise◌
quote-ends [] r v = ap (λ (x : Text). 34 ∷ x) (white-end r v)
quote-ends (b ∷ t) r v =
    let ih = quote-ends t r v in
    rw (ih, some_after t 34 [], and-false (white b))

pub quoted-sendable : (t : Text) → every may_stand t ≡ true → Sendable (quoted_text t)
unfolding white printable undivided quote_next free if◌then◌otherwise◌
quoted-sendable t e =
    let other-quote = every_map may_stand (other 34) stands-other t e in
    let whites : (r : Text) → every white r ≡ true → undivided (code ";") 0 r ≡ true =
    λ r v. free-undivided (code ";") 0 r (every_map white (other (code ";")) white-joins r v) in
    record {
      some = refl;
      starts = refl;
      bytes = every_append allowed t (34 ∷ []) (every_map may_stand allowed stands-allowed t e) refl;
      ends = λ r v. quote-ends (34 ∷ t) r v;
      unit = λ r v. ap (undivided (code ";") 0) (ap (λ (x : Text). 34 ∷ x) (append_assoc t (34 ∷ []) r)) ∙ quoted-parts (code ";") t r refl other-quote ∙ whites r v;
      one = quoted-parts (code ",") t [] refl other-quote;
    }

-- what holds of every byte of the five parts holds of every byte of the line
every-part : (p : ℕ → Bool) (a b c d e : Text) → every p a ≡ true → every p b ≡ true → every p c ≡ true → every p d ≡ true → every p e ≡ true
    → every p (a ++ (b ++ (c ++ (d ++ e)))) ≡ true
every-part p a b c d e f g h i j = every_append p a _ f (every_append p b _ g (every_append p c _ h (every_append p d e i j)))

-- ---- the line

spelt-some : (i : Which) (h : Text) → Spelling i h → empty h ≡ false
spelt-some i [] s = absurd (apart 102 s.read (sym header-none ∙ s.reads))
spelt-some i (b ∷ h) s = refl

visible-line : (l h t : Text) → empty h ≡ false → every solid h ≡ true → every white (l ++ (h ++ t)) ≡ false
visible-line [] [] t n e = absurd (false≢true (sym n))
visible-line [] (b ∷ h) t n e = rw (solid-visible b (and_both (solid b) (every solid h) e).0)
visible-line (x ∷ l) h t n e = and-fails (white x) _ (visible-line l h t n e)

-- a setting takes one parameter
takes_one : (i : Which) → (greatest (role_of i) false ≡ 1) × (least (role_of i) false ≡ 1)
unfolding greatest least if◌then◌otherwise◌
takes_one (tabled i) = (refl, refl)
takes_one display = (refl, refl)

pub record Line (i : Which) (left h gap a right : Text) : Type 0 where
  pub spelling : Spelling i h
  pub left_white : every white left ≡ true
  pub gap_white : every white gap ≡ true
  pub gap_there : empty gap ≡ false
  pub right_white : every white right ≡ true
  pub sendable : Sendable a

module _ (i : Which) (left h gap a right : Text) (l : Line i left h gap a right) where
  abbrev line : Text
  line = left ++ (h ++ (gap ++ (a ++ right)))

  some : empty h ≡ false
  some = spelt-some i h l.spelling

  h-solid : every solid h ≡ true
  h-solid = header-is-solid h l.spelling.read l.spelling.reads l.spelling.sets

  h-unquoted : every unquoted h ≡ true
  h-unquoted = header-is-unquoted h l.spelling.read l.spelling.reads l.spelling.sets

  -- "alone in its line"
  pub alone : units_of line ≡ line ∷ []
  unfolding units_of free if◌then◌otherwise◌
  alone =
      let j : (t : Text) → every white t ≡ true → free (code ";") t ≡ true = λ t w. every_map white (other (code ";")) white-joins t w in
      let k : (t : Text) → every white t ≡ true → every unquoted t ≡ true = λ t w. every_map white unquoted white-unquoted t w in
      rw (visible-line left h (gap ++ (a ++ right)) some h-solid)
      (cut-one (code ";") 0 line
      (calm-front (code ";") left _ (j left l.left_white) (k left l.left_white)
      ∙ calm-front (code ";") h _ (every_map solid (other (code ";")) solid-joins h h-solid) h-unquoted
      ∙ calm-front (code ";") gap _ (j gap l.gap_white) (k gap l.gap_white)
      ∙ l.sendable.unit right l.right_white))

  line-allowed : every allowed line ≡ true
  line-allowed =
      let j : (t : Text) → every white t ≡ true → every allowed t ≡ true = λ t w. every_map white allowed white-allowed t w in
      let k : (t : Text) → every solid t ≡ true → every allowed t ≡ true = λ t w. every_map solid allowed solid-allowed t w in
      every-part allowed left h gap a right (j left l.left_white) (k h h-solid) (j gap l.gap_white) l.sendable.bytes (j right l.right_white)

  skipped : after white line ≡ h ++ (gap ++ (a ++ right))
  skipped = skip-white left (h ++ (gap ++ (a ++ right))) l.left_white ∙ solid-stays h (gap ++ (a ++ right)) some h-solid

  header_is : header_text line ≡ h
  header_is = ap (start visible) skipped ∙ solid-start h gap (a ++ right) h-solid l.gap_there l.gap_white

  trimmed : (g r : Text) → every white g ≡ true → every white r ≡ true → trim (g ++ (a ++ r)) ≡ a
  unfolding trim
  trimmed g r v u = ap trim_end (skip-white g (a ++ r) v ∙ stays a r l.sendable) ∙ l.sendable.ends r u

  parameter-is : parameter_text line ≡ a
  parameter-is =
      ap (λ (t : Text). trim (after visible t)) skipped
      ∙ ap trim (solid-after h gap (a ++ right) h-solid l.gap_there l.gap_white)
      ∙ trimmed gap right l.gap_white l.right_white

  one-parameter : parameters a ≡ a ∷ []
  unfolding parameters if◌then◌otherwise◌
  one-parameter =
      let t : trim a ≡ a = ap trim (sym (append-nil a)) ∙ trimmed [] [] refl refl in
      rw (l.sendable.some, cut-one (code ",") 0 a l.sendable.one) (ap (λ (x : Text). x ∷ []) t)

  -- checks 1 to 7 accept it as the setting's command with that parameter
  pub reads-line : (s : Settings) (d : Deed) → deed_of s (role_of i) false (a ∷ []) ≡ passed d
      → read_unit s [] line ≡ passed (record { deed = d; text = text_in a; path = path_after l.spelling.read.place [] l.spelling.read.names })
  unfolding read_unit check ◌>>=◌ ◌>>◌
  reads-line s d e =
      let x = l.spelling in
      rw (line-allowed, header_is, parameter-is, x.reads, one-parameter, l.sendable.some, x.sets, x.row, (takes_one i).0, (takes_one i).1, e)
