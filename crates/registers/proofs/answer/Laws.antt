-- A text over a lent tail, at its start and at any place, by induction over both. One text laid after another is their joined text
-- (`laid_then`), on which every writer rests.
use mathlib.Core.Path.{◌≡◌, refl, sym, ap, ◌∙◌}
use mathlib.Core.List.{[], ◌∷◌, ◌++◌}
use Prim.Native.Nat.{ℕ, zero, suc, ◌+◌, ◌≤◌, ◌<◌}
use native.Mathlib.Nat.{zero-add, suc-add, add-zero}
use native.Mathlib.Numerals.{add-one}
use native.Mathlib.Omega.{arith}
use lib.ListN.{length, length-append, take, drop, get_or, set}
use lib.Seq.{take-append_seam, take-suc}
use Rattle.registers.specs.Text.{Text}
use Rattle.registers.specs.Answer.{over, Laid}
use Rattle.registers.specs.AnswerParts.{over_at, LaidAt}

-- ---- from the start

-- a tail keeps its length
pub over-length : (text tail : Text) → length (over text tail) ≡ length tail
unfolding over
over-length [] tail = refl
over-length (b ∷ text) [] = refl
over-length (b ∷ text) (x ∷ tail) = ap suc (over-length text tail)

-- a text that has room stands whole, and what was after it is left
pub over-fits : (text tail : Text) → length text ≤ length tail → over text tail ≡ text ++ drop (length text) tail
unfolding over
over-fits [] tail h = refl
over-fits (b ∷ text) [] h = absurd (omega arith)
over-fits (b ∷ text) (x ∷ tail) h = ap (λ (l : Text). b ∷ l) (over-fits text tail (omega arith))

pub over-start : (text tail : Text) → length text ≤ length tail → take (length text) (over text tail) ≡ text
over-start text tail h = rw (over-fits text tail h) (take-append_seam text (drop (length text) tail))

over-append : (t u tail : Text) → over (t ++ u) tail ≡ over_at (length t) u (over t tail)
unfolding over over_at
over-append [] u tail = refl
over-append (b ∷ t) u [] = refl
over-append (b ∷ t) u (x ∷ tail) = ap (λ (l : Text). b ∷ l) (over-append t u tail)

-- ---- at a place

pub over_at-length : (at : ℕ) (text tail : Text) → length (over_at at text tail) ≡ length tail
unfolding over_at
over_at-length zero text tail = over-length text tail
over_at-length (suc at) text [] = refl
over_at-length (suc at) text (x ∷ tail) = ap suc (over_at-length at text tail)

over_at-none : (at : ℕ) (tail : Text) → over_at at [] tail ≡ tail
unfolding over over_at
over_at-none zero tail = refl
over_at-none (suc at) [] = refl
over_at-none (suc at) (x ∷ tail) = ap (λ (l : Text). x ∷ l) (over_at-none at tail)

-- one byte is a store, where the tail reaches
pub over_at-one : (at b : ℕ) (tail : Text) → over_at at (b ∷ []) tail ≡ set tail at b
unfolding over over_at
over_at-one zero b [] = refl
over_at-one zero b (x ∷ tail) = refl
over_at-one (suc at) b [] = refl
over_at-one (suc at) b (x ∷ tail) = ap (λ (l : Text). x ∷ l) (over_at-one at b tail)

-- a text after a text
pub over_at-append : (at : ℕ) (t u tail : Text) → over_at at (t ++ u) tail ≡ over_at (at + length t) u (over_at at t tail)
unfolding over_at
over_at-append zero t u tail = rw (zero-add (length t)) (over-append t u tail)
over_at-append (suc at) t u [] = rw (suc-add at (length t))
over_at-append (suc at) t u (x ∷ tail) = rw (suc-add at (length t)) (ap (λ (l : Text). x ∷ l) (over_at-append at t u tail))

-- ---- what a writer says

-- what a writer says determines its result and every byte that it leaves
pub laid-unique : {text before tail tail' : Text} {r r' : ℕ} → Laid text before r tail → Laid text before r' tail'
    → (r ≡ r') × (tail ≡ tail')
laid-unique p q = (p.long ∙ sym q.long, p.bytes ∙ sym q.bytes)

-- from place 0 is from the start
pub laid-whole : {text before tail : Text} {r : ℕ} → LaidAt 0 text before r tail → Laid text before r tail
unfolding over_at
laid-whole p = record { long = p.end ∙ zero-add _; bytes = p.bytes }

pub laid-at : {text before tail : Text} {r : ℕ} → Laid text before r tail → LaidAt 0 text before r tail
unfolding over_at
laid-at p = record { end = p.long ∙ sym (zero-add _); bytes = p.bytes }

pub laid_none : (at : ℕ) (tail : Text) → LaidAt at [] tail at tail
laid_none at tail = record { end = sym (add-zero at); bytes = sym (over_at-none at tail) }

pub laid_one : {at b : ℕ} {before tail : Text} → tail ≡ set before at b → LaidAt at (b ∷ []) before (at + 1) tail
laid_one {at} {b} {before} e = record { end = refl; bytes = e ∙ sym (over_at-one at b before) }

-- one writer after another writes one text after the other
pub laid_then : {at : ℕ} {t u a b c : Text} {r s : ℕ} → LaidAt at t a r b → LaidAt r u b s c → LaidAt at (t ++ u) a s c
laid_then {at} {t} {u} {a} {b} {c} {r} {s} p q =
    record {
      end = let l = length-append t u in let e = p.end in let f = q.end in omega arith;
      bytes = q.bytes ∙ rw (p.end, p.bytes) (sym (over_at-append at t u a));
    }

-- one byte more of a text that is being written
pub laid_more : (at : ℕ) (text : Text) (i : ℕ) → i < length text → {before tail tail' : Text}
    → LaidAt at (take i text) before (at + i) tail → tail' ≡ set tail (at + i) (get_or text i 0)
    → LaidAt at (take (i + 1) text) before (at + (i + 1)) tail'
laid_more at text i h p e =
    let a : at + (i + 1) ≡ at + i + 1 = omega arith in
    rw (a, add-one i, take-suc text i 0 h) (laid_then p (laid_one e))

-- a writer keeps the length of its tail
pub laid-length : {at : ℕ} {text before tail : Text} {r : ℕ} → LaidAt at text before r tail → length tail ≡ length before
laid-length p = ap length p.bytes ∙ over_at-length _ _ _
