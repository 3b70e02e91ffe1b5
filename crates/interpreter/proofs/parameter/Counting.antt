-- The loop that counts the parameters. Its invariant, `Counting`: the parts begun and those left of the cut text are all parts, and whether those
-- left are filled says whether all are.
use mathlib.Core.Path.{◌≡◌, refl, ap, sym, subst, ◌∙◌}
use mathlib.Core.Bool.{Bool, true, false, not, ◌&&◌, ◌||◌}
use mathlib.Core.List.{List, [], ◌∷◌, map}
use Prim.Native.Nat.{ℕ, suc, ◌+◌, ◌≤◌, ◌<◌}
use native.Mathlib.Omega.{arith}
use native.Mathlib.Numerals.{add-one}
use lib.ListN.{length, get_or, drop, length-map, drop_of_length-le}
use lib.Seq.{drop-cons}
use Rattle.registers.specs.Text.{Text, if◌then◌otherwise◌, white, every, empty}
use Rattle.registers.specs.Check.{check, refused, passed, ◌>>◌}
use Rattle.interpreter.specs.Cuts.{join_first, quote_next, separates, cut_open, trim}
use Rattle.interpreter.specs.Parameter.{parameters}
use Rattle.interpreter.specs.ParameterParts.{counted}
use Prim.Native.Char.{code}
use Rattle.interpreter.proofs.cuts.Parts.{outside, cut-here, cut_later, cut-some, join-length}
use Rattle.interpreter.proofs.parameter.Cuts.{parameters-some, trim-empty}

-- a part that is more than white space
abbrev filled : Text → Bool
filled p = not (every white p)

-- all parts are, where a visible byte of the first may have been passed already
abbrev filled_from : Bool → List Text → Bool
filled_from visible [] = visible
filled_from visible (p ∷ ps) = (visible || filled p) && every filled ps

-- up to place i so many parts have begun, and those that have ended are filled; `visible`: the last has a visible byte; `mark`: the
-- quote that is open there
pub record Counting (t : Text) (parts : ℕ) (visible : Bool) (mark i : ℕ) : Type 0 where
  pub few : parts ≤ i + 1
  pub long : parts + length (cut_open (code ",") mark (drop i t)) ≡ 1 + length (cut_open (code ",") 0 t)
  pub all : filled_from visible (cut_open (code ",") mark (drop i t)) ≡ every filled (cut_open (code ",") 0 t)

-- ---- the start

fresh : (ps : List Text) → 1 ≤ length ps → filled_from false ps ≡ every filled ps
fresh [] h = absurd (omega arith)
fresh (p ∷ ps) h = refl

pub counting-start : (t : Text) → Counting t 1 false 0 0
counting-start t =
    record {
      few = omega arith;
      long = omega arith;
      all = fresh (cut_open (code ",") 0 t) (cut-some (code ",") 0 t);
    }

-- ---- the end of a text that has a part

all-filled : (ps : List Text) → every (λ (p : Text). not (empty p)) (map trim ps) ≡ every filled ps
all-filled [] = refl
all-filled (p ∷ ps) = rw (trim-empty p, all-filled ps)

module _ (t : Text) (some : length t ≡ 0 → ⊥) where
  counted-some : counted t ≡ (check 102 (every filled (cut_open (code ",") 0 t)) >> passed (length (cut_open (code ",") 0 t)))
  unfolding counted
  counted-some = rw (parameters-some t some, all-filled (cut_open (code ",") 0 t), length-map (cut_open (code ",") 0 t) trim)

-- ---- a turn: at a comma a part ends, any other byte is one of the part

joined : (b : ℕ) (visible : Bool) (ps : List Text) → 1 ≤ length ps → filled_from (visible || not (white b)) ps ≡ filled_from visible (join_first b ps)
joined b visible [] h = absurd (omega arith)
joined b visible (p ∷ ps) h = ap (λ (w : Bool). w && every filled ps) (or (white b) visible)
  where
    or : (w d : Bool) → (d || not w || filled p) ≡ (d || not (w && every white p))
    or w true = refl
    or true false = refl
    or false false = refl

module _ {t : Text} {parts : ℕ} {visible : Bool} {mark i : ℕ} (w : Counting t parts visible mark i) (h : i < length t) where
  module _ (e : separates (code ",") mark (get_or t i 0) ≡ true) where
    abbrev more : List Text
    more = cut_open (code ",") 0 (drop (i + 1) t)

    cut : cut_open (code ",") mark (drop i t) ≡ [] ∷ more
    cut = rw (drop-cons t i 0 h, add-one i) (cut-here (code ",") mark (get_or t i 0) (drop (suc i) t) e)

    -- the part that ends there is empty
    pub counting-empty : visible ≡ false → refused 102 ≡ counted t
    unfolding check ◌>>◌
    counting-empty v = let none = rw (v, cut) at w.all in rw (counted-some t (λ z. omega arith), ← none)

    pub counting-comma : visible ≡ true → Counting t (parts + 1) false mark (i + 1)
    counting-comma v =
        let long = rw cut at w.long in
        let all = rw (v, cut) at w.all in
        subst (λ (m : ℕ). Counting t (parts + 1) false m (i + 1)) (sym (outside (code ",") mark (get_or t i 0) e))
        (record {
          few = let f = w.few in omega arith;
          long = omega arith;
          all = fresh more (cut-some (code ",") 0 (drop (i + 1) t)) ∙ all;
        })

  pub counting-byte : separates (code ",") mark (get_or t i 0) ≡ false
      → Counting t parts (visible || not (white (get_or t i 0))) (quote_next mark (get_or t i 0)) (i + 1)
  counting-byte e =
      let b = get_or t i 0 in
      let rest = cut_open (code ",") (quote_next mark b) (drop (i + 1) t) in
      let some = cut-some (code ",") (quote_next mark b) (drop (i + 1) t) in
      let cut-on : cut_open (code ",") mark (drop i t) ≡ join_first b rest =
      rw (drop-cons t i 0 h, add-one i) (cut_later (code ",") mark b (drop (suc i) t) e) in
      let long = rw cut-on at w.long in
      record {
        few = let f = w.few in omega arith;
        long = omega (arith, join-length b rest some);
        all = joined b visible rest some ∙ rw cut-on at w.all;
      }

-- ---- the end

module _ {t : Text} {parts : ℕ} {visible : Bool} {mark i : ℕ} (w : Counting t parts visible mark i) (some : length t ≡ 0 → ⊥) (h : length t ≤ i) where
  none : drop i t ≡ []
  none = drop_of_length-le t h

  last : visible ≡ every filled (cut_open (code ",") 0 t)
  unfolding cut_open
  last = or visible ∙ rw none at w.all
    where
      or : (v : Bool) → v ≡ filled_from v ([] ∷ [])
      or true = refl
      or false = refl

  pub counting-end : visible ≡ true → passed parts ≡ counted t
  unfolding cut_open check ◌>>◌
  counting-end v =
      let long = rw none at w.long in
      let n : parts ≡ length (cut_open (code ",") 0 t) = omega arith in
      rw (counted-some t some, sym last ∙ v, n)

  pub counting-last : visible ≡ false → refused 102 ≡ counted t
  unfolding check ◌>>◌
  counting-last v = rw (counted-some t some, sym last ∙ v)

pub counting-none : (t : Text) → length t ≡ 0 → passed 0 ≡ counted t
unfolding counted parameters if◌then◌otherwise◌ check ◌>>◌
counting-none [] h = refl
counting-none (b ∷ bs) h = absurd (omega arith)
