-- Laws of a text that is cut at separators and trimmed, and of parameters that are none or one: they are the whole text.
use mathlib.Core.Path.{◌≡◌, refl, ap, ◌∙◌}
use mathlib.Core.Bool.{Bool, true, false, ◌&&◌}
use mathlib.Core.List.{List, [], ◌∷◌, map}
use Prim.Native.Nat.{ℕ, ◌≤◌}
use Prim.Native.Char.{code}
use native.Mathlib.Omega.{arith}
use lib.ListN.{length, length-map}
use Rattle.registers.specs.Text.{Text, if◌then◌otherwise◌, white, every, empty, after}
use Rattle.interpreter.specs.Cuts.{join_first, quote_next, separates, cut_open, trim_end, trim}
use Rattle.interpreter.specs.Parameter.{parameters}
use Rattle.interpreter.specs.ParameterParts.{parts_of}
use Rattle.interpreter.proofs.cuts.Parts.{cut-some, join-length}

-- ---- a text that is one part is that part
cut-one : (s mark : ℕ) (t : Text) → length (cut_open s mark t) ≤ 1 → cut_open s mark t ≡ t ∷ []
unfolding cut_open if◌then◌otherwise◌
cut-one s mark [] h = refl
cut-one s mark (b ∷ bs) h = go (separates s mark b) (cut-some s 0 bs) (cut-some s (quote_next mark b) bs) (cut-one s (quote_next mark b) bs) h
  where
    more : List Text
    more = cut_open s (quote_next mark b) bs

    go : (w : Bool) → 1 ≤ length (cut_open s 0 bs) → 1 ≤ length more → (length more ≤ 1 → more ≡ bs ∷ [])
        → length (if w then [] ∷ cut_open s 0 bs otherwise join_first b more) ≤ 1
        → (if w then [] ∷ cut_open s 0 bs otherwise join_first b more) ≡ (b ∷ bs) ∷ []
    go true some here ih l = absurd (omega arith)
    go false some here ih l = ap (join_first b) (ih (omega (arith, join-length b more here)))

-- ---- the parameters; where they are none or one, they are what checks 5 to 7 are handed

pub parameters-some : (t : Text) → (length t ≡ 0 → ⊥) → parameters t ≡ map trim (cut_open (code ",") 0 t)
unfolding parameters if◌then◌otherwise◌
parameters-some [] h = absurd (h refl)
parameters-some (b ∷ bs) h = refl

pub parts-one : (t : Text) → trim t ≡ t → length (parameters t) ≤ 1 → parts_of t ≡ parameters t
unfolding parameters if◌then◌otherwise◌
parts-one [] e h = refl
parts-one (b ∷ bs) e h =
    let t = b ∷ bs in
    let n = length-map (cut_open (code ",") 0 t) trim in
    let one : cut_open (code ",") 0 t ≡ t ∷ [] = cut-one (code ",") 0 t (omega arith) in
    rw (one, e)

-- ---- trimming: nothing is left of white space, and of nothing else

end_empty : (t : Text) → empty (trim_end t) ≡ every white t
unfolding trim_end if◌then◌otherwise◌
end_empty [] = refl
end_empty (b ∷ bs) = go (white b) (empty (trim_end bs)) (end_empty bs)
  where
    go : (w e : Bool) → e ≡ every white bs → empty (if w && e then [] otherwise b ∷ trim_end bs) ≡ (w && every white bs)
    go true true ih = ih
    go true false ih = ih
    go false e ih = refl

after-white : (t : Text) → every white (after white t) ≡ every white t
unfolding if◌then◌otherwise◌
after-white [] = refl
after-white (b ∷ bs) = go (white b) refl (after-white bs)
  where
    go : (w : Bool) → white b ≡ w → every white (after white bs) ≡ every white bs
        → every white (if w then after white bs otherwise b ∷ bs) ≡ (w && every white bs)
    go true e ih = ih
    go false e ih = rw e

pub trim-empty : (t : Text) → empty (trim t) ≡ every white t
unfolding trim
trim-empty t = end_empty (after white t) ∙ after-white t
