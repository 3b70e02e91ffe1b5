-- A chunk's lines: their bytes are the chunk's, and its first lines are the lines of its first bytes. By induction over the bytes, of which
-- each joins the first line or ends it.
use mathlib.Core.Path.{◌≡◌, refl, sym, ◌∙◌, ap}
use mathlib.Core.Bool.{Bool, true, false}
use mathlib.Core.List.{List, [], ◌∷◌, ◌++◌, append_assoc, flatten, nil≢cons, head-eq_of_cons-eq, tail-eq_of_cons-eq}
use Prim.Native.Nat.{ℕ, suc, ◌+◌, ◌≤◌}
use native.Mathlib.Omega.{arith}
use lib.Dec.{eqb}
use lib.ListN.{length, take, drop, length-append, length-drop}
use lib.Seq.{drop-drop, take_at, length-take-le}
use Rattle.registers.specs.Text.{Text, if◌then◌otherwise◌}
use Rattle.interpreter.specs.Cuts.{join_first}
use Rattle.interpreter.specs.FlowParts.{first_line}
use Rattle.interpreter.specs.Server.{lines_of, WholeLines}
use Rattle.interpreter.proofs.Choices.{if-elim}
use Rattle.interpreter.proofs.server.Laws.{lines-first}

-- how many bytes lines have together
abbrev pub total : List Text → ℕ
total [] = 0
total (l ∷ ls) = length l + total ls

total-append : (ks ls : List Text) → total (ks ++ ls) ≡ total ks + total ls
total-append [] ls = omega arith
total-append (k ∷ ks) ls = omega (arith, total-append ks ls)

flatten-total : (ls : List Text) → length (flatten ls) ≡ total ls
unfolding flatten
flatten-total [] = refl
flatten-total (l ∷ ls) = omega (arith, length-append l (flatten ls), flatten-total ls)

flatten-append : (ks ls : List Text) → flatten (ks ++ ls) ≡ flatten ks ++ flatten ls
unfolding flatten
flatten-append [] ls = refl
flatten-append (k ∷ ks) ls = rw (flatten-append ks ls, append_assoc)

-- ---- the lines of a text

joined-whole : (b : ℕ) (ls : List Text) → flatten (join_first b ls) ≡ b ∷ flatten ls
unfolding flatten
joined-whole b [] = refl
joined-whole b (l ∷ ls) = refl

pub lines-whole : (t : Text) → flatten (lines_of t) ≡ t
unfolding lines_of flatten
lines-whole [] = refl
lines-whole (x ∷ xs) =
    let more = ap (λ (ys : Text). x ∷ ys) (lines-whole xs) in
    if-elim (λ (ls : List Text). flatten ls ≡ x ∷ xs) (eqb x 10) (λ _. more) (λ _. joined-whole x (lines_of xs) ∙ more)

pub lines-total : (t : Text) → total (lines_of t) ≡ length t
lines-total t = sym (flatten-total (lines_of t)) ∙ ap length (lines-whole t)

-- ---- its first lines, and those after them

no_more : (ks ls : List Text) → [] ≡ ks ++ ls → ks ≡ []
no_more [] ls e = refl
no_more (k ∷ ks) ls e = absurd (nil≢cons e)

lines-part : (t : Text) (done rest : List Text) → lines_of t ≡ done ++ rest → lines_of (take (total done) t) ≡ done
unfolding lines_of if◌then◌otherwise◌
lines-part [] [] rest e = refl
lines-part [] (d ∷ ds) rest e = absurd (nil≢cons e)
lines-part (x ∷ xs) [] rest e = refl
lines-part (x ∷ xs) (d ∷ ds) rest e = go (eqb x 10) refl (lines_of xs) refl (λ ks k. lines-part xs ks rest k)
  where
    go : (t : Bool) → eqb x 10 ≡ t → (ls : List Text) → lines_of xs ≡ ls
        → ((ks : List Text) → lines_of xs ≡ ks ++ rest → lines_of (take (total ks) xs) ≡ ks) → lines_of (take (total (d ∷ ds)) (x ∷ xs)) ≡ d ∷ ds
    go true q ls is more =
        let both : (x ∷ []) ∷ lines_of xs ≡ d ∷ (ds ++ rest) = rw q at e in
        let n : length (x ∷ []) + total ds ≡ suc (total ds) = omega arith in
        rw (← head-eq_of_cons-eq both, n, q, more ds (tail-eq_of_cons-eq both))
    go false q [] is more =
        let both : (x ∷ []) ∷ [] ≡ d ∷ (ds ++ rest) = rw (q, is) at e in
        rw (← head-eq_of_cons-eq both, no_more ds rest (tail-eq_of_cons-eq both), q)
    go false q (u ∷ us) is more =
        let both : (x ∷ u) ∷ us ≡ d ∷ (ds ++ rest) = rw (q, is) at e in
        let n : length (x ∷ u) + total ds ≡ suc (length u + total ds) = omega arith in
        let m = more (u ∷ ds) (is ∙ ap (λ (ks : List Text). u ∷ ks) (tail-eq_of_cons-eq both)) in
        rw (← head-eq_of_cons-eq both, n, q, m)

lines_after : (done rest : List Text) (t : Text) → lines_of t ≡ done ++ rest → lines_of (drop (total done) t) ≡ rest
unfolding lines_of
lines_after [] rest t e = e
lines_after (d ∷ done) rest [] e = absurd (nil≢cons e)
lines_after (d ∷ done) rest (x ∷ xs) e =
    let t = x ∷ xs in
    let both = sym (lines-first t (omega arith)) ∙ e in
    let more = lines_after done rest (drop (length (first_line t)) t) (tail-eq_of_cons-eq both) in
    rw (← head-eq_of_cons-eq both, ← drop-drop (total done) (length (first_line t)) t) more

-- a first part of the lines: how many bytes it has, which they are, and that it ends where a line does
module _ (t : Text) (done rest : List Text) (e : lines_of t ≡ done ++ rest) where
  pub first-bytes : take (total done) t ≡ flatten done
  first-bytes =
      let is = sym (lines-whole t) ∙ ap flatten e ∙ flatten-append done rest in
      ap (take (total done)) is ∙ take_at (flatten done) (flatten rest) (total done) (flatten-total done)

  pub first-lines : lines_of (take (total done) t) ≡ done
  first-lines = lines-part t done rest e

  pub first-whole : WholeLines (total done) t
  first-whole = rw (first-lines, lines_after done rest t e) e

-- whole lines, and then whole lines of what is left
pub whole-further : (t : Text) (n m : ℕ) → n + m ≤ length t → WholeLines n t → WholeLines m (drop n t)
    → WholeLines (n + m) t × (lines_of (take (n + m) t) ≡ lines_of (take n t) ++ lines_of (take m (drop n t)))
whole-further t n m h p q =
    let a = lines_of (take n t) in
    let b = lines_of (take m (drop n t)) in
    let c = lines_of (drop m (drop n t)) in
    let e : lines_of t ≡ (a ++ b) ++ c = p ∙ ap (λ (ls : List Text). a ++ ls) q ∙ sym (append_assoc a b c) in
    let d = length-drop n t in
    let k : total (a ++ b) ≡ n + m =
    total-append a b ∙ rw (lines-total (take n t), lines-total (take m (drop n t)), length-take-le n t (omega arith), length-take-le m (drop n t) (omega arith)) in
    (rw k at (first-whole t (a ++ b) c e), rw k at (first-lines t (a ++ b) c e))
