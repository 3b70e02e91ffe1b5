-- The whole unit: where its header and its parameters stand, and its checks by what the header comes to. The code reads the header before
-- it tests the bytes; that is the order of 01 all the same, since every byte of a header is allowed (unit/HeaderAllowed).
use mathlib.Core.Path.{◌≡◌, refl, ap, sym, ◌∙◌}
use mathlib.Core.Bool.{Bool, true, false}
use mathlib.Core.List.{List}
use Prim.Native.Nat.{ℕ, ◌+◌, ◌-◌, ◌≤◌}
use native.Mathlib.Omega.{arith}
use lib.Dec.{leb}
use lib.ListN.{length, take, drop}
use Rattle.registers.specs.Text.{Text, if◌then◌otherwise◌, white, visible, every, start, after}
use Rattle.registers.specs.Check.{Checked, refused, passed, check, ◌>>=◌, ◌>>◌}
use Rattle.registers.specs.Label.{text_in}
use Rattle.registers.specs.Error.{meant}
use Rattle.std.specs.Prelude.{Option, Some, None}
use Rattle.registers.specs.declared.settings.Settings.{Settings}
use Rattle.registers.proofs.text.Laws.{end-drop, end-within}
use Rattle.interpreter.specs.Cuts.{trim}
use Rattle.interpreter.specs.Header.{Header, header, is_common, full_names, path_after}
use Rattle.interpreter.specs.HeaderParts.{IsPath, FoundRow, LookedUp}
use Rattle.interpreter.specs.Rows.{find_role}
use Rattle.interpreter.specs.Parameter.{parameters, none_empty, least, greatest, deed_of}
use Rattle.interpreter.specs.Unit.{allowed, Read, header_text, parameter_text, read_unit}
use Rattle.interpreter.specs.UnitParts.{role_found, decided, decided_text, header_refusal, Accepted}
use Rattle.interpreter.specs.declared.unit.Reading.{Reading}
use Rattle.interpreter.specs.declared.deed.Deed.{Deed}
use Rattle.interpreter.specs.declared.deed.Role.{Role}
use Rattle.interpreter.specs.declared.header.Looked.{Looked}
use Rattle.interpreter.specs.declared.path.Path.{Path}
use Rattle.interpreter.proofs.Lists.{rest-is}
use Rattle.interpreter.proofs.Checks.{apart, first-check}
use Rattle.interpreter.proofs.unit.HeaderAllowed.{allowed-after}
use Rattle.interpreter.proofs.unit.Found.{role-found}

-- ---- the header starts at s, and the parameters' text comes after it

abbrev lent_from : Text → ℕ → Text
lent_from u s = take (length u - s) (drop s u)

pub record Runs (u : Text) (s : ℕ) : Type 0 where
  pub within : s ≤ length u
  pub is : lent_from u s ≡ after white u

pub runs : (u : Text) (s : ℕ) → s ≡ 0 + length (start white (drop 0 u)) → Runs u s
runs u s at =
    let w = end-within white u 0 s at (omega arith) in
    record { within = w; is = rest-is u s w ∙ end-drop white u 0 s at }

-- it ends so far after s
module _ {u : Text} {s : ℕ} (r : Runs u s) (e : ℕ) (is : e ≡ length (start visible (lent_from u s))) where
  from : drop s u ≡ after white u
  from = sym (rest-is u s r.within) ∙ r.is

  to : s + e ≡ s + length (start visible (drop s u))
  to = let k = is ∙ ap (λ (t : Text). length (start visible t)) (rest-is u s r.within) in omega arith

  ends-within : s + e ≤ length u
  ends-within = end-within visible u s (s + e) to r.within

  parameters-after : trim (drop (s + e) u) ≡ parameter_text u
  parameters-after = ap trim (end-drop visible u s (s + e) to ∙ ap (after visible) from)

-- ---- the checks in order

-- it doesn't matter where the brackets stand in a chain of checks
joined : {A B C : Type 0} (x : Checked (Unit {0})) (m : Checked A) (y z : A → Checked (Unit {0})) (k : A → Checked B)
    (f : B → Checked C) → ((x >> m >>= λ a. y a >> z a >> k a) >>= f) ≡ (x >> m >>= λ a. y a >> z a >> k a >>= f)
unfolding ◌>>◌ ◌>>=◌
joined (refused n) m y z k f = refl
joined (passed _) (refused n) y z k f = refl
joined {B = B} {C = C} (passed _) (passed a) y z k f = go (y a) (z a)
  where
    go : (p q : Checked (Unit {0})) → ((p >> q >> k a) >>= f) ≡ (p >> q >> k a >>= f)
    go (refused n) q = refl
    go (passed _) (refused n) = refl
    go (passed _) (passed _) = refl

module _ (s : Settings) (asked : Bool) (ps : List Text) where
  abbrev full : Checked (Unit {0})
  full = check 102 (none_empty ps)

  abbrev few : Role → Checked (Unit {0})
  few r = check 108 (leb (length ps) (greatest r asked))

  abbrev enough : Role → Checked (Unit {0})
  enough r = check 109 (leb (least r asked) (length ps))

  -- the checks after the header, with what is made of the deed
  abbrev checks_with : Checked Role → (Deed → Checked Read) → Checked Read
  checks_with m k = full >> m >>= λ r. few r >> enough r >> deed_of s r asked ps >>= k

decided-then : (s : Settings) (place : Checked ℕ) (asked : Bool) (t : Text) (k : Deed → Checked Read)
    → (decided s place asked t >>= k) ≡ checks_with s asked (parameters t) (role_found place) k
unfolding decided
decided-then s place asked t k =
    let ps = parameters t in
    joined (full s asked ps) (role_found place) (few s asked ps) (enough s asked ps) (λ r. deed_of s r asked ps) k

-- what the checks after the header leave of a unit
pub record Headed (s : Settings) (path : List Text) (u : Text) (st : ℕ) (place : Checked ℕ) (asked : Bool) (end : ℕ) (p : Path) : Type 0 where
  pub left : List Text
  pub is : read_unit s path u ≡ (decided_text s place asked (parameter_text u) >>= λ d. passed (record { deed = d; text = text_in (parameter_text u); path = left }))
  pub holds : (i : ℕ) → place ≡ passed i → IsPath left p
  pub ends : st + end ≤ length u
  pub text : trim (drop (st + end) u) ≡ parameter_text u

module _ (s : Settings) (path : List Text) (u : Text) where
  -- what is left once the header's row is found
  good-header : (h : Header) → header (header_text u) ≡ passed h
      → {t : Text} {place : Checked ℕ} {end : ℕ} {asked : Bool} {p : Path} → FoundRow path t h place asked end p
      → read_unit s path u
      ≡ (decided_text s place asked (parameter_text u) >>= λ d. passed (record { deed = d; text = text_in (parameter_text u); path = path_after h.place path h.names }))
  unfolding read_unit decided_text ◌>>=◌
  good-header h is {place = place} {asked = asked} f =
      let t = parameter_text u in
      let k : Deed → Checked Read = λ d. passed (record { deed = d; text = text_in (parameter_text u); path = path_after h.place path h.names }) in
      let role = role-found (is_common h.place) (full_names h.place path h.names) h.query in
      let e : read_unit s path u ≡ (check 101 (every allowed t) >> checks_with s asked (parameters t) (role_found place) k) =
      rw (allowed-after u h is, is, f.query, f.at, role) in
      e ∙ ap (λ (m : Checked Read). check 101 (every allowed t) >> m) (sym (decided-then s place asked t k))
      ∙ sym (first-check (check 101 (every allowed t)) (decided s place asked t) k)

  module _ {st : ℕ} (at : Runs u st) (r : Option Looked) (p : Path) (k : LookedUp path (lent_from u st) r p) where
    pub bad-header : r ≡ None → (n : ℕ) → n ≡ header_refusal u → read_unit s path u ≡ refused n
    unfolding read_unit header_refusal check ◌>>◌ ◌>>=◌ if◌then◌otherwise◌
    bad-header q n e = rw e (go (every allowed u) (ap (λ (t : Text). header (start visible t)) (sym at.is) ∙ rw q at k))
      where
        go : (ok : Bool) → header (header_text u) ≡ refused 102
            → (check 101 ok >> header (header_text u) >>= λ h. checks_with s h.query (parameters (parameter_text u)) (find_role (is_common h.place) (full_names h.place path h.names) h.query) (λ d. passed (record { deed = d; text = text_in (parameter_text u); path = path_after h.place path h.names })))
            ≡ refused (if ok then 102 otherwise 101)
        go true i = rw i
        go false i = refl

    pub headed : {x : Looked} → r ≡ Some x → Headed s path u st (meant x.heading.place) x.heading.asked x.end p
    headed q =
        let g = rw q at k in
        let h = g.0 in
        let f = g.2 in
        record {
          left = path_after h.place path h.names;
          is = good-header h (ap (λ (t : Text). header (start visible t)) (sym at.is) ∙ g.1) f;
          holds = f.left;
          ends = ends-within at _ f.ends;
          text = parameters-after at _ f.ends;
        }

-- only a header that has a row has a deed
none_passes : {A : Type 0} (x : Checked (Unit {0})) (n : ℕ) (a : A) → (x >> refused n) ≡ passed a → ⊥
unfolding ◌>>◌
none_passes (refused m) n a e = apart m a e
none_passes (passed _) n a e = apart n a e

second-passes : {A : Type 0} (x : Checked (Unit {0})) (m : Checked A) (a : A) → (x >> m) ≡ passed a → m ≡ passed a
unfolding ◌>>◌
second-passes (refused n) m a e = absurd (apart n a e)
second-passes (passed _) m a e = e

found-deed : (s : Settings) (place : Checked ℕ) (asked : Bool) (t : Text) (d : Deed) → decided_text s place asked t ≡ passed d → (i : ℕ) × (place ≡ passed i)
unfolding decided_text decided role_found ◌>>=◌
found-deed s (passed i) asked t d e = (i, refl)
found-deed s (refused n) asked t d e =
    absurd (none_passes (full s asked (parameters t)) n d (second-passes (check 101 (every allowed t)) (decided s (refused n) asked t) d e))

-- what check 1 and those after the header say of the text that stands behind it
module _ (s : Settings) (path : List Text) (u : Text) {st end : ℕ} {place : Checked ℕ} {asked : Bool} {p : Path} (h : Headed s path u st place asked end p)
    (t : Text) (trims : t ≡ trim (drop (st + end) u)) where
  pub read-refused : {n : ℕ} → refused n ≡ decided_text s place asked t → read_unit s path u ≡ refused n
  unfolding ◌>>=◌
  read-refused says = h.is ∙ rw (sym (rw (trims ∙ h.text) at says))

  pub read-passed : (r : Reading) → r.given.now ≡ t → passed r.deed ≡ decided_text s place asked t → Accepted s path u r p
  unfolding ◌>>=◌
  read-passed r given says =
      let is = rw (trims ∙ h.text) at says in
      let there = found-deed s place asked (parameter_text u) r.deed (sym is) in
      record {
        left = h.left;
        is = rw (given ∙ trims ∙ h.text) (h.is ∙ rw (sym is));
        holds = h.holds there.0 there.1;
      }
