-- White space around a text: at its end, byte by byte from the last, and that a trimmed text stays as it is.
use mathlib.Core.Path.{◌≡◌, refl, sym, ap, ◌∙◌}
use mathlib.Core.Bool.{Bool, true, false, ◌&&◌}
use mathlib.Core.List.{[], ◌∷◌, ◌++◌}
use Prim.Native.Nat.{ℕ, suc, ◌-◌, ◌≤◌, ◌<◌}
use native.Mathlib.Omega.{arith}
use lib.ListN.{length, get_or, take}
use lib.Seq.{take-suc, take-length}
use Rattle.registers.specs.Text.{Text, if◌then◌otherwise◌, white, empty, after}
use Rattle.registers.proofs.Tests.{and-fails}
use Rattle.interpreter.specs.Cuts.{trim_end, trim}

-- ---- the end, byte by byte

white-more : (l : Text) (x : ℕ) → white x ≡ true → trim_end (l ++ x ∷ []) ≡ trim_end l
unfolding trim_end if◌then◌otherwise◌
white-more [] x h = rw h
white-more (y ∷ l) x h = rw (white-more l x h)

pub some_after : (l : Text) (x : ℕ) (r : Text) → empty (l ++ x ∷ r) ≡ false
some_after [] x r = refl
some_after (y ∷ l) x r = refl

visible_more : (l : Text) (x : ℕ) → white x ≡ false → trim_end (l ++ x ∷ []) ≡ l ++ x ∷ []
unfolding trim_end if◌then◌otherwise◌
visible_more [] x h = rw h
visible_more (y ∷ l) x h = rw (visible_more l x h, and-fails (white y) (empty (l ++ x ∷ [])) (some_after l x []))

-- what a text keeps, by its last byte
module _ (l : Text) (some : 1 ≤ length l) where
  front_last : take (length l - 1) l ++ get_or l (length l - 1) 0 ∷ [] ≡ l
  front_last =
      let n : suc (length l - 1) ≡ length l = omega arith in
      sym (take-suc l (length l - 1) 0 (omega arith)) ∙ ap (λ k. take k l) n ∙ take-length l

  pub end-white : white (get_or l (length l - 1) 0) ≡ true → trim_end (take (length l - 1) l) ≡ trim_end l
  end-white w = sym (white-more (take (length l - 1) l) (get_or l (length l - 1) 0) w) ∙ ap trim_end front_last

  pub end-visible : white (get_or l (length l - 1) 0) ≡ false → l ≡ trim_end l
  end-visible w = sym front_last ∙ sym (visible_more (take (length l - 1) l) (get_or l (length l - 1) 0) w) ∙ ap trim_end front_last

pub end-none : (l : Text) → length l < 1 → l ≡ trim_end l
unfolding trim_end
end-none [] h = refl
end-none (x ∷ l) h = absurd (omega arith)

-- ---- trimmed twice

trim_end-twice : (t : Text) → trim_end (trim_end t) ≡ trim_end t
unfolding trim_end if◌then◌otherwise◌
trim_end-twice [] = refl
trim_end-twice (b ∷ bs) = go (white b && empty (trim_end bs)) refl (trim_end-twice bs)
  where
    go : (w : Bool) → (white b && empty (trim_end bs)) ≡ w → trim_end (trim_end bs) ≡ trim_end bs
        → trim_end (if w then [] otherwise b ∷ trim_end bs) ≡ (if w then [] otherwise b ∷ trim_end bs)
    go true q ih = refl
    go false q ih = rw (ih, q)

-- no white space is left at the start
start-visible : (t : Text) → after white (trim_end (after white t)) ≡ trim_end (after white t)
unfolding trim_end if◌then◌otherwise◌
start-visible [] = refl
start-visible (b ∷ bs) = go (white b) refl (start-visible bs)
  where
    go : (w : Bool) → white b ≡ w → after white (trim_end (after white bs)) ≡ trim_end (after white bs)
        → after white (trim_end (if w then after white bs otherwise b ∷ bs)) ≡ trim_end (if w then after white bs otherwise b ∷ bs)
    go true q ih = ih
    go false q ih = rw (q, q)

pub trim-twice : (t : Text) → trim (trim t) ≡ trim t
unfolding trim
trim-twice t = ap trim_end (start-visible t) ∙ trim_end-twice (after white t)
