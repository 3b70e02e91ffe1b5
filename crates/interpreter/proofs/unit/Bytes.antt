-- Check 1, byte by byte: a byte is allowed if it is below 127 and no newline.
use mathlib.Core.Path.{◌≡◌, refl, sym, ◌∙◌, ap}
use mathlib.Core.Bool.{Bool, true, false, not, ◌&&◌, ◌||◌, and-true}
use Prim.Native.Nat.{ℕ, ◌+◌, ◌≤◌, ◌<◌}
use native.Mathlib.Omega.{arith}
use lib.Dec.{leb, ltb, eqb}
use borrow.Author.Tests.{eqb-true, leb-true, leb-false, le-leb, lt-ltb, le-ltb}
use native.Mathlib.Numerals.{add-one}
use lib.ListN.{length, get_or, drop, drop_of_length-le}
use lib.Seq.{drop-cons}
use Rattle.registers.specs.Text.{Text, white, printable, every}
use Rattle.interpreter.specs.Unit.{allowed}

allowed-is : (b : ℕ) → allowed b ≡ (ltb b 127 && not (eqb b 10))
unfolding white printable
allowed-is b = go (eqb b 10) refl
  where
    visible : 32 < b → (t : Bool) → leb b 126 ≡ t → t ≡ ltb b 127
    visible h true e = sym (lt-ltb b 127 (let k = leb-true b 126 e in omega arith))
    visible h false e = sym (le-ltb b 127 (let k = leb-false b 126 e in omega arith))

    other : (t : Bool) → leb b 32 ≡ t → (t || (leb 33 b && leb b 126)) ≡ ltb b 127
    other true e = sym (lt-ltb b 127 (let k = leb-true b 32 e in omega arith))
    other false e = let h = leb-false b 32 e in rw (le-leb 33 b (omega arith)) (visible h (leb b 126) refl)

    go : (t : Bool) → eqb b 10 ≡ t → (leb b 32 && not t || (leb 33 b && leb b 126)) ≡ (ltb b 127 && not t)
    go true e = rw (eqb-true b 10 e)
    go false e = rw (and-true (leb b 32), and-true (ltb b 127)) (other (leb b 32) refl)

-- one more byte is looked at
pub more-allowed : (l : Text) (i : ℕ) (all : Bool) → i < length l → (all && every allowed (drop i l)) ≡ every allowed l
    → let b = get_or l i 0 in
    (all && (ltb b 127 && not (eqb b 10)) && every allowed (drop (i + 1) l)) ≡ every allowed l
more-allowed l i all h e =
    let b = get_or l i 0 in
    let left = every allowed (drop (i + 1) l) in
    let step : every allowed (drop i l) ≡ (allowed b && left) = rw (drop-cons l i 0 h, add-one i) in
    go all (ltb b 127 && not (eqb b 10)) left ∙ ap (λ (w : Bool). all && (w && left)) (sym (allowed-is b)) ∙ rw step at e
  where
    go : (a x z : Bool) → (a && x && z) ≡ (a && (x && z))
    go true x z = refl
    go false x z = refl

-- and no byte is left
pub all-allowed : (l : Text) (i : ℕ) (all : Bool) → length l ≤ i → (all && every allowed (drop i l)) ≡ every allowed l → all ≡ every allowed l
all-allowed l i true h e = rw (drop_of_length-le l h) at e
all-allowed l i false h e = e
