-- The sum of the pieces' own counts of newlines: it goes by the bytes alone (`ends`), whatever their pieces are, and a line cut short
-- keeps it, since the bytes that are cut have no newline.
use mathlib.Core.Path.{◌≡◌, refl, sym, ◌∙◌, ap}
use mathlib.Core.Bool.{true, false≢true}
use mathlib.Core.List.{List, [], ◌∷◌, ◌++◌, map}
use Prim.Native.Nat.{ℕ, zero, suc, ◌+◌, ◌-◌, ◌≤◌, zero-le}
use native.Mathlib.Omega.{arith}
use lib.Dec.{eqb}
use lib.ListN as L
use lib.ListN.{length}
use borrow.Author.Tests.{not-true}
use Rattle.registers.specs.Text.{Text, if◌then◌otherwise◌, every}
use Rattle.registers.proofs.Tests.{and_both}
use Rattle.interpreter.specs.Box.{Box}
use Rattle.interpreter.specs.Line.{piece, newlines}
use Rattle.interpreter.specs.Events.{Event, started, received, take, condition, look, altered, mislent, happens}
use Rattle.interpreter.specs.Histories.{single, newline, moments, Recut, results_of, summed, counted}
use Rattle.interpreter.specs.Demand3.{in_line, keep}
use Rattle.interpreter.proofs.Choices.{if₂}
use Rattle.interpreter.proofs.line.Pieces.{newlines-append, plain}

-- how many lines the pieces end, by their bytes
ends : List Event → ℕ
ends [] = 0
ends (started ∷ es) = ends es
ends (received xs ∷ es) = newlines xs + ends es
ends (take buffer ∷ es) = ends es
ends (condition x n ∷ es) = ends es
ends (look ∷ es) = ends es
ends (altered i x ∷ es) = ends es
ends (mislent buffer ∷ es) = ends es

counted-ends : (b : Box) (es : List Event) → counted b es ≡ ends es
unfolding ends summed results_of happens if◌then◌otherwise◌
counted-ends b [] = refl
counted-ends b (started ∷ es) = counted-ends _ es
counted-ends b (received xs ∷ es) = ap (λ (n : ℕ). newlines xs + n) (counted-ends (piece b xs) es)
counted-ends b (take buffer ∷ es) = counted-ends _ es
counted-ends b (condition x n ∷ es) = counted-ends _ es
counted-ends b (look ∷ es) = counted-ends b es
counted-ends b (altered i x ∷ es) = counted-ends _ es
counted-ends b (mislent buffer ∷ es) = counted-ends b es

ends-append : (es fs : List Event) → ends (es ++ fs) ≡ ends es + ends fs
unfolding ends
ends-append [] fs = omega arith
ends-append (started ∷ es) fs = ends-append es fs
ends-append (received xs ∷ es) fs = omega (arith, ends-append es fs)
ends-append (take buffer ∷ es) fs = ends-append es fs
ends-append (condition x n ∷ es) fs = ends-append es fs
ends-append (look ∷ es) fs = ends-append es fs
ends-append (altered i x ∷ es) fs = ends-append es fs
ends-append (mislent buffer ∷ es) fs = ends-append es fs

-- ---- in any pieces

singles-ends : (xs : Text) → ends (map single xs) ≡ newlines xs
unfolding ends newlines
singles-ends [] = refl
singles-ends (x ∷ xs) = omega (arith, singles-ends xs, newlines-append (x ∷ []) xs)

ends-moments : (es : List Event) → ends (moments es) ≡ ends es
unfolding ends moments
ends-moments [] = refl
ends-moments (started ∷ es) = ends-moments es
ends-moments (received xs ∷ es) = omega (arith, ends-append (map single xs) (moments es), singles-ends xs, ends-moments es)
ends-moments (take buffer ∷ es) = ends-moments es
ends-moments (condition x n ∷ es) = ends-moments es
ends-moments (look ∷ es) = ends-moments es
ends-moments (altered i x ∷ es) = ends-moments es
ends-moments (mislent buffer ∷ es) = ends-moments es

recut-ends : (b : Box) (h g : List Event) → Recut h g → counted b h ≡ ends g
recut-ends b h g e = counted-ends b h ∙ sym (ends-moments h) ∙ ap ends e ∙ ends-moments g

pub recut-counts : (b : Box) (h g : List Event) → Recut h g → counted b h ≡ counted b g
recut-counts b h g e = recut-ends b h g e ∙ sym (counted-ends b g)

-- ---- a line cut short

fewer : (k : ℕ) (xs : Text) → newlines (L.take k xs) ≤ newlines xs
unfolding newlines
fewer zero xs = zero-le
fewer (suc k) [] = zero-le
fewer (suc k) (x ∷ xs) = let more = fewer k xs in if₂ (λ (m n : ℕ). m ≤ n) (eqb x 10) (omega arith) more

kept-ends : (k : ℕ) (es : List Event) → ends (keep k es) ≤ ends es
unfolding ends keep
kept-ends k [] = zero-le
kept-ends k (started ∷ es) = kept-ends k es
kept-ends k (received xs ∷ es) = omega (arith, fewer k xs, kept-ends (k - length xs) es)
kept-ends k (take buffer ∷ es) = kept-ends k es
kept-ends k (condition x n ∷ es) = kept-ends k es
kept-ends k (look ∷ es) = kept-ends k es
kept-ends k (altered i x ∷ es) = kept-ends k es
kept-ends k (mislent buffer ∷ es) = kept-ends k es

plain-none : (xs : Text) → every plain xs ≡ true → newlines xs ≡ 0
unfolding newlines if◌then◌otherwise◌
plain-none [] t = refl
plain-none (x ∷ xs) t = let p = and_both (plain x) (every plain xs) t in rw (not-true (eqb x 10) p.0) (plain-none xs p.1)

-- while a line is under way none ends
line-ends : (es : List Event) → every in_line es ≡ true → ends es ≡ 0
unfolding ends in_line
line-ends [] t = refl
line-ends (started ∷ es) t = absurd (false≢true t)
line-ends (received xs ∷ es) t = let p = and_both (every plain xs) (every in_line es) t in omega (arith, plain-none xs p.0, line-ends es p.1)
line-ends (take buffer ∷ es) t = line-ends es t
line-ends (condition x n ∷ es) t = line-ends es t
line-ends (look ∷ es) t = line-ends es t
line-ends (altered i x ∷ es) t = line-ends es t
line-ends (mislent buffer ∷ es) t = line-ends es t

pub cut-counts : (b : Box) (k : ℕ) (before during later h h' : List Event) → every in_line during ≡ true
    → Recut h ((before ++ during ++ newline ∷ []) ++ later) → Recut h' ((before ++ keep k during ++ newline ∷ []) ++ later)
    → counted b h ≡ counted b h'
cut-counts b k before during later h h' t is is' =
    let none = line-ends during t in
    let cut = kept-ends k during in
    let same : ends ((before ++ during ++ newline ∷ []) ++ later) ≡ ends ((before ++ keep k during ++ newline ∷ []) ++ later) =
    simp ends-append (omega arith) in
    recut-ends b h _ is ∙ same ∙ sym (recut-ends b h' _ is')
