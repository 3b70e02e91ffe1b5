-- Check 1 of a unit that starts with a header is check 1 of the parameters' text: white space is allowed, and so is every byte of a
-- header, which is a name's byte, a colon, a star or a `?`.
use mathlib.Core.Path.{◌≡◌, refl, sym, ◌∙◌, ap}
use mathlib.Core.Bool.{Bool, true, false, not, ◌&&◌}
use mathlib.Core.List.{[], ◌∷◌}
use Prim.Native.Nat.{ℕ}
use borrow.Author.Tests.{not-true, eqb-true}
use Rattle.registers.specs.Text.{Text, if◌then◌otherwise◌, white, visible, printable, every, empty, start, after}
use Rattle.registers.specs.Check.{passed}
use Rattle.registers.proofs.Tests.{and_both, and-true, and_assoc}
use Rattle.interpreter.specs.Cuts.{front, trim_end, trim}
use Rattle.interpreter.specs.Header.{Header, header, asks, body_of}
use Rattle.interpreter.specs.Unit.{allowed, header_text, parameter_text}
use Prim.Native.Char.{code}
use Rattle.interpreter.proofs.Lists.{every_map}
use Rattle.interpreter.proofs.header.Bytes.{solid, body-solid}

-- ---- white space

pub white-allowed : (b : ℕ) → white b ≡ true → allowed b ≡ true
white-allowed b e = rw e

skip-white : (t : Text) → every allowed t ≡ every allowed (after white t)
unfolding if◌then◌otherwise◌
skip-white [] = refl
skip-white (b ∷ bs) = go (white b) refl (skip-white bs)
  where
    go : (w : Bool) → white b ≡ w → every allowed bs ≡ every allowed (after white bs)
        → (allowed b && every allowed bs) ≡ every allowed (if w then after white bs otherwise b ∷ bs)
    go true q ih = rw (white-allowed b q) ih
    go false q ih = refl

trim-white : (t : Text) → every allowed (trim_end t) ≡ every allowed t
unfolding trim_end if◌then◌otherwise◌
trim-white [] = refl
trim-white (b ∷ bs) = go (white b) refl (trim_end bs) (trim-white bs)
  where
    go : (w : Bool) → white b ≡ w → (m : Text) → every allowed m ≡ every allowed bs
        → every allowed (if w && empty m then [] otherwise b ∷ m) ≡ (allowed b && every allowed bs)
    go true q [] ih = rw (white-allowed b q) ih
    go true q (x ∷ m) ih = ap (λ (e : Bool). allowed b && e) ih
    go false q m ih = ap (λ (e : Bool). allowed b && e) ih

parts : (t : Text) → every allowed t ≡ (every allowed (start visible t) && every allowed (after visible t))
unfolding if◌then◌otherwise◌
parts [] = refl
parts (b ∷ bs) = go (visible b) (parts bs)
  where
    go : (d : Bool) → every allowed bs ≡ (every allowed (start visible bs) && every allowed (after visible bs))
        → (allowed b && every allowed bs)
        ≡ (every allowed (if d then b ∷ start visible bs otherwise []) && every allowed (if d then after visible bs otherwise b ∷ bs))
    go true ih = ap (λ (e : Bool). allowed b && e) ih ∙ sym (and_assoc (allowed b) (every allowed (start visible bs)) (every allowed (after visible bs)))
    go false ih = refl

-- ---- a header's bytes

pub solid-allowed : (b : ℕ) → solid b ≡ true → allowed b ≡ true
unfolding solid
solid-allowed b e =
    let p = and_both (not (white b)) _ e in rw (not-true (white b) p.0) (and_both (printable b) _ p.1).0

-- the `?` at the end
body-allowed : (t : Text) → every allowed (body_of t) ≡ true → every allowed t ≡ true
unfolding body_of white printable if◌then◌otherwise◌
body-allowed t e = go (asks t) refl e
  where
    with-mark : (u : Text) → asks u ≡ true → every allowed (front u) ≡ true → every allowed u ≡ true
    with-mark [] q k = refl
    with-mark (x ∷ []) q k = and-true (ap allowed (eqb-true x (code "?") q) ∙ mark) refl
      where
        mark : allowed (code "?") ≡ true
        mark = refl
    with-mark (x ∷ y ∷ u) q k =
        let p = and_both (allowed x) (every allowed (front (y ∷ u))) k in
        and-true p.0 (with-mark (y ∷ u) q p.1)

    go : (q : Bool) → asks t ≡ q → every allowed (if q then front t otherwise t) ≡ true → every allowed t ≡ true
    go true q k = with-mark t q k
    go false q k = k

header-allowed : (t : Text) (h : Header) → header t ≡ passed h → every allowed t ≡ true
header-allowed t h e = body-allowed t (every_map solid allowed solid-allowed (body_of t) (body-solid t h e).0)

-- ---- the unit

pub allowed-after : (u : Text) (h : Header) → header (header_text u) ≡ passed h → every allowed u ≡ every allowed (parameter_text u)
unfolding trim
allowed-after u h e =
    let v = after white u in
    skip-white u ∙ parts v ∙ rw (header-allowed (start visible v) h e) (skip-white (after visible v) ∙ sym (trim-white (after white (after visible v))))
