-- A whole header: its grammar by what leads it, a star, a colon or neither (`Led`), the row that it has, and the path that it leaves.
use mathlib.Core.Path.{◌≡◌, refl, sym, ◌∙◌, subst}
use mathlib.Core.Bool.{Bool, true, false, not, ◌||◌, false≢true}
use mathlib.Core.List.{List, [], ◌∷◌}
use Prim.Native.Nat.{ℕ, ◌+◌, ◌-◌, ◌≤◌, ◌<◌}
use native.Mathlib.Omega.{arith}
use lib.Dec.{eqb}
use lib.ListN.{length, take, drop}
use borrow.Author.Tests.{eqb-true}
use mir.Val.{bool_byte}
use Rattle.registers.specs.Text.{Text, if◌then◌otherwise◌, white, visible, letter, small, every, first, start}
use Rattle.std.specs.Prelude.{Some}
use Rattle.registers.specs.Error.{meant}
use Rattle.registers.specs.Check.{refused, passed, check, ◌>>◌}
use Rattle.registers.proofs.Tests.{and_both}
use Rattle.interpreter.specs.Cuts.{cut_at}
use Rattle.interpreter.specs.Header.{Place, common, root, here, Header, header, placed, name, is_common, full_names, path_after, body_of, by_first, suffix_in}
use Rattle.interpreter.specs.NameParts.{class_of, most_names}
use Rattle.interpreter.specs.DeedParts as deeds
use Rattle.interpreter.specs.RowsParts.{row_of, class_in, row_of_keys}
use Rattle.interpreter.specs.TableParts.{or_zero}
use Rattle.interpreter.specs.HeaderParts.{asks_in, names_in, Holds, IsPath, NamesGood, starred, rooted, LookedUp}
use Rattle.interpreter.specs.declared.header.Names.{Names}
use Rattle.interpreter.specs.declared.header.Looked.{Looked}
use Rattle.interpreter.specs.declared.path.Path.{Path}
use Prim.Native.Char.{code}
use Rattle.interpreter.proofs.header.Scan.{asks-cons, body-cons, body-first}
use Rattle.interpreter.proofs.header.Path.{path-place, path-left, counted, star-place, star-left}
use Rattle.interpreter.proofs.deed.Laws.{place-there}

-- ---- what leads a header

-- an empty text is no header
pub header-none : header [] ≡ refused 102
unfolding body_of by_first header placed name cut_at letter small if◌then◌otherwise◌ ◌>>◌ check
header-none = refl

abbrev place_of : Bool → Bool → Place
place_of true r = common
place_of false true = root
place_of false false = here

-- a header by the first byte of its body
-- the header that a text starts with, and its length, by what comes after its lead
pub record Led (t : Text) (s r : Bool) : Type 0 where
  pub one : s ≡ true → r ≡ false
  pub is : header (start visible t) ≡ placed (place_of s r) (names_in (not s) (drop (bool_byte (s || r)) t)) (asks_in (drop (bool_byte (s || r)) t))
  pub long : length (start visible t) ≡ bool_byte (s || r) + length (start visible (drop (bool_byte (s || r)) t))

led-star : (u : Text) → Led ((code "*") ∷ u) true false
unfolding header by_first names_in white if◌then◌otherwise◌
led-star u =
    let h = start visible u in
    record { one = λ e. refl; is = rw (body-cons (code "*") h refl, asks-cons (code "*") h refl); long = omega arith }

led-root : (u : Text) → Led ((code ":") ∷ u) false true
unfolding header by_first names_in white if◌then◌otherwise◌
led-root u =
    let h = start visible u in
    record { one = λ e. absurd (false≢true e); is = rw (body-cons (code ":") h refl, asks-cons (code ":") h refl); long = omega arith }

led-here : (t : Text) → eqb (first t) (code "*") ≡ false → eqb (first t) (code ":") ≡ false → Led t false false
unfolding header by_first names_in if◌then◌otherwise◌
led-here t e f =
    let a = body-first (λ b. eqb b (code "*")) refl t e in
    let b = body-first (λ b. eqb b (code ":")) refl t f in
    record { one = λ e. refl; is = rw (a, b); long = omega arith }

led-by : (t : Text) (s r : Bool) → starred t ≡ s → rooted t ≡ r → Led t s r
led-by t true true e f = absurd (let x = eqb-true (first t) (code "*") e in let y = eqb-true (first t) (code ":") f in omega arith)
led-by [] true false e f = absurd (let x = eqb-true 0 (code "*") e in omega arith)
led-by (x ∷ u) true false e f = rw (eqb-true x (code "*") e) (led-star u)
led-by [] false true e f = absurd (let x = eqb-true 0 (code ":") f in omega arith)
led-by (x ∷ u) false true e f = rw (eqb-true x (code ":") f) (led-root u)
led-by t false false e f = led-here t e f

pub led : (t : Text) → Led t (starred t) (rooted t)
led t = led-by t (starred t) (rooted t) refl refl

-- ---- what is found

module _ (t : Text) {s r : Bool} (l : Led t s r) where
  abbrev n : ℕ
  n = bool_byte (s || r)

  abbrev names : List Text
  names = names_in (not s) (drop n t)

  pub look-bad : every name names ≡ false → header (start visible t) ≡ refused 102
  unfolding placed check ◌>>◌
  look-bad e = l.is ∙ rw e

  abbrev read : Header
  read = record { place = place_of s r; names = names; query = asks_in (drop n t) }

  look-good : every name names ≡ true → header (start visible t) ≡ passed read
  unfolding placed check ◌>>◌
  look-good e = l.is ∙ rw e

  module _ (path : List Text) (keys : List ℕ) (x : Names) (y : Looked) (query : y.heading.asked ≡ x.asked) (end : y.end ≡ x.end) (q : Path) where
    -- the row of the names that it stands for, and the path
    abbrev Row : Type 0
    Row = meant y.heading.place ≡ deeds.place_of (row_of (is_common (place_of s r)) (full_names (place_of s r) path names) x.asked) (class_of (suffix_in (full_names (place_of s r) path names)))

    abbrev Left : Type 0
    Left = (i : ℕ) → meant y.heading.place ≡ passed i → IsPath (path_after (place_of s r) path names) q

    looked : {held : List ℕ} → NamesGood (not s) t n held x keys → Row → Left → LookedUp path t (Some y) q
    looked g at left = (
      read,
      look-good g.good,
      record { query = query ∙ g.asked; at = rw g.asked at at; ends = end ∙ g.end ∙ sym l.long; left = left },
    )

-- the search begins with a common command's name, or with the first
module _ (t : Text) (before : List ℕ) (used : ℕ) (room : used < most_names) (was : length before ≡ most_names)
    (keys : List ℕ) (long : length keys ≡ most_names) (x : Names) where
  pub first-at : (s r : Bool) → Led t s r → NamesGood (not s) t (bool_byte (s || r)) (take (or_zero (not r) used) before) x keys → or_zero s used ≤ x.count
  unfolding names_in if◌then◌otherwise◌
  first-at false r l g = omega arith
  first-at true true l g = absurd (false≢true (sym (l.one refl)))
  first-at true false l g =
      let c = counted before used room was (body_of (start visible (drop 1 t))) keys long x.count g.few g.held in
      omega arith

-- entered after the path, or at the root
module _ (t : Text) (path : List Text) (before : Path) (long : length before.names ≡ most_names) (p : IsPath path before)
    (q : Path) (long' : length q.names ≡ most_names) (x : Names) (y : Looked) (query : y.heading.asked ≡ x.asked) (end : y.end ≡ x.end)
    (used : q.used ≡ x.count - 1) where
  abbrev keys : List ℕ
  keys = q.names

  left : {names : List Text} → Holds names keys (x.count - 1) → IsPath names q
  left {names} h = subst (λ (n : ℕ). Holds names keys n) (sym used) h

  look_at : (s r : Bool) → Led t s r → NamesGood (not s) t (bool_byte (s || r)) (take (or_zero (not r) before.used) before.names) x keys
      → meant y.heading.place ≡ deeds.place_of (row_of_keys s (drop (or_zero s before.used) (take x.count keys)) x.asked) (class_in (drop (or_zero s before.used) (take x.count keys)))
      → LookedUp path t (Some y) q
  unfolding names_in if◌then◌otherwise◌
  look_at true false l g f =
      let name_of = body_of (start visible (drop 1 t)) in
      let e = (and_both (name name_of) true g.good).0 in
      looked t l path keys x y query end q g
      (f ∙ star-place before.names before.used before.few long name_of keys long' x.count g.few g.held e x.asked)
      (λ i h. left (star-left before.names before.used before.few long name_of keys long' x.count g.few g.held path p))
  look_at false true l g f =
      let names = cut_at (code ":") (body_of (start visible (drop 1 t))) in
      let at = f ∙ path-place [] names refl g.good keys long' x.count g.few g.held x.asked in
      looked t l path keys x y query end q g at
      (λ i h. left (path-left [] names refl g.good keys long' x.count g.few g.held x.asked (place-there _ _ i (sym at ∙ h)).0))
  look_at false false l g f =
      let names = cut_at (code ":") (body_of (start visible (drop 0 t))) in
      let held = rw p.is at g.held in
      let at = f ∙ path-place path names p.all g.good keys long' x.count g.few held x.asked in
      looked t l path keys x y query end q g at
      (λ i h. left (path-left path names p.all g.good keys long' x.count g.few held x.asked (place-there _ _ i (sym at ∙ h)).0))
  look_at true true l g f = absurd (false≢true (sym (l.one refl)))

  pub look-found : NamesGood (not (starred t)) t (bool_byte (starred t || rooted t)) (take (or_zero (not (rooted t)) before.used) before.names) x keys
      → meant y.heading.place ≡ deeds.place_of (row_of_keys (starred t) (drop (or_zero (starred t) before.used) (take x.count keys)) x.asked) (class_in (drop (or_zero (starred t) before.used) (take x.count keys)))
      → LookedUp path t (Some y) q
  look-found g f = look_at (starred t) (rooted t) (led t) g f
