-- "A piece behaves as its bytes one at a time": histories with the same bytes leave the same state and the same results, in
-- whatever pieces the bytes come. By induction over the events each leaves what its single bytes (`moments`) leave, and those are the same.
use mathlib.Core.Path.{◌≡◌, refl, sym, ◌∙◌, ap}
use mathlib.Core.Bool.{Bool, true, false}
use mathlib.Core.List.{List, [], ◌∷◌, ◌++◌, map}
use Rattle.registers.specs.Text.{Text, if◌then◌otherwise◌}
use Rattle.interpreter.specs.Box.{Box}
use Rattle.interpreter.specs.Line.{end_line, byte, piece}
use Rattle.interpreter.specs.Events.{Event, started, received, take, condition, look, altered, mislent, Result, happens, after}
use Rattle.interpreter.specs.Histories.{single, newline, moments, Recut, results_of}

-- ---- histories, part by part

pub after-append : (b : Box) (es fs : List Event) → after b (es ++ fs) ≡ after (after b es) fs
unfolding after
after-append b [] fs = refl
after-append b (e ∷ es) fs = after-append (happens b e).box es fs

pub results-append : (p : Event → Bool) (b : Box) (es fs : List Event)
    → results_of p b (es ++ fs) ≡ results_of p b es ++ results_of p (after b es) fs
unfolding after results_of if◌then◌otherwise◌
results-append p b [] fs = refl
results-append p b (e ∷ es) fs = go (p e) _ _ _ (results-append p (happens b e).box es fs)
  where
    go : (t : Bool) (xs ys zs : List Result) → xs ≡ ys ++ zs
        → (if t then (happens b e).result ∷ xs otherwise xs) ≡ (if t then (happens b e).result ∷ ys otherwise ys) ++ zs
    go true xs ys zs ih = ap (λ (rs : List Result). (happens b e).result ∷ rs) ih
    go false xs ys zs ih = ih

pub newline-after : (b : Box) (es : List Event) → after b (es ++ newline ∷ []) ≡ end_line (after b es)
unfolding after happens piece byte if◌then◌otherwise◌
newline-after b es = after-append b es (newline ∷ [])

-- ---- bytes one at a time

pub singles-after : (b : Box) (xs : Text) → after b (map single xs) ≡ piece b xs
unfolding after happens piece
singles-after b [] = refl
singles-after b (x ∷ xs) = singles-after (byte b x) xs

pub after-moments : (b : Box) (es : List Event) → after b (moments es) ≡ after b es
unfolding after moments happens
after-moments b [] = refl
after-moments b (started ∷ es) = after-moments _ es
after-moments b (received xs ∷ es) =
    after-append b (map single xs) (moments es) ∙ ap (λ (c : Box). after c (moments es)) (singles-after b xs) ∙ after-moments (piece b xs) es
after-moments b (take buffer ∷ es) = after-moments _ es
after-moments b (condition x n ∷ es) = after-moments _ es
after-moments b (look ∷ es) = after-moments b es
after-moments b (altered i x ∷ es) = after-moments _ es
after-moments b (mislent buffer ∷ es) = after-moments b es

-- of results that are no pieces'
module _ (p : Event → Bool) (silent : (xs : Text) → p (received xs) ≡ false) where
  singles-results : (b : Box) (xs : Text) → results_of p b (map single xs) ≡ []
  unfolding results_of happens piece if◌then◌otherwise◌
  singles-results b [] = refl
  singles-results b (x ∷ xs) = rw (silent (x ∷ [])) (singles-results (byte b x) xs)

  one-more : (e : Event) (r : Result) {xs ys : List Result} → xs ≡ ys → (if p e then r ∷ xs otherwise xs) ≡ (if p e then r ∷ ys otherwise ys)
  one-more e r q = ap (λ (rs : List Result). if p e then r ∷ rs otherwise rs) q

  pub results-moments : (b : Box) (es : List Event) → results_of p b (moments es) ≡ results_of p b es
  unfolding results_of moments happens if◌then◌otherwise◌
  results-moments b [] = refl
  results-moments b (started ∷ es) = one-more started _ (results-moments _ es)
  results-moments b (received xs ∷ es) =
      results-append p b (map single xs) (moments es)
      ∙ rw (silent xs, singles-results b xs, singles-after b xs) (results-moments (piece b xs) es)
  results-moments b (take buffer ∷ es) = one-more (take buffer) _ (results-moments _ es)
  results-moments b (condition x n ∷ es) = one-more (condition x n) _ (results-moments _ es)
  results-moments b (look ∷ es) = one-more look _ (results-moments b es)
  results-moments b (altered i x ∷ es) = one-more (altered i x) _ (results-moments _ es)
  results-moments b (mislent buffer ∷ es) = one-more (mislent buffer) _ (results-moments b es)

  pub recut-results : (b : Box) (h g : List Event) → Recut h g → results_of p b h ≡ results_of p b g
  recut-results b h g e = sym (results-moments b h) ∙ ap (results_of p b) e ∙ results-moments b g

pub recut-state : (b : Box) (h g : List Event) → Recut h g → after b h ≡ after b g
recut-state b h g e = sym (after-moments b h) ∙ ap (after b) e ∙ after-moments b g
