-- A text cut at its separators outside quotes: at least one part; parts joined again and cut are the same parts, if each but the last has
-- its quotes closed (`Parted`), as the parts of any text have.
use mathlib.Core.Path.{◌≡◌, refl, sym}
use mathlib.Core.Bool.{Bool, true, false, not, ◌&&◌, false≢true}
use mathlib.Core.List.{List, [], ◌∷◌, ◌++◌}
use Prim.Native.Nat.{ℕ, ◌≤◌}
use native.Mathlib.Omega.{arith}
use lib.Dec.{eqb}
use lib.ListN.{length}
use borrow.Author.Tests.{eqb-true, eq-eqb, not-true}
use Rattle.registers.specs.Text.{Text, if◌then◌otherwise◌, every, empty}
use Rattle.registers.proofs.Tests.{and_both, and-fails}
use Rattle.interpreter.specs.Cuts.{join_first, is_quote, quote_next, separates, cut_open}
use Rattle.interpreter.proofs.Separators.{other, free}
use Rattle.interpreter.proofs.header.Bytes.{unquoted}

-- ---- one byte more

pub outside : (s mark b : ℕ) → separates s mark b ≡ true → mark ≡ 0
outside s mark b e = eqb-true mark 0 (and_both (eqb mark 0) (eqb b s) e).0

module _ (s mark b : ℕ) (bs : Text) where
  pub cut-here : separates s mark b ≡ true → cut_open s mark (b ∷ bs) ≡ [] ∷ cut_open s 0 bs
  unfolding cut_open if◌then◌otherwise◌
  cut-here e = rw e

  pub cut_later : separates s mark b ≡ false → cut_open s mark (b ∷ bs) ≡ join_first b (cut_open s (quote_next mark b) bs)
  unfolding cut_open if◌then◌otherwise◌
  cut_later e = rw e

-- ---- how many parts: at least one

pub join-length : (b : ℕ) (us : List Text) → 1 ≤ length us → length (join_first b us) ≡ length us
join-length b [] h = absurd (omega arith)
join-length b (u ∷ us) h = refl

pub cut-some : (s mark : ℕ) (t : Text) → 1 ≤ length (cut_open s mark t)
unfolding cut_open if◌then◌otherwise◌
cut-some s mark [] = omega arith
cut-some s mark (b ∷ bs) = go (separates s mark b) (cut-some s (quote_next mark b) bs)
  where
    go : (w : Bool) → 1 ≤ length (cut_open s (quote_next mark b) bs)
        → 1 ≤ length (if w then [] ∷ cut_open s 0 bs otherwise join_first b (cut_open s (quote_next mark b) bs))
    go true ih = omega arith
    go false ih = omega (arith, join-length b (cut_open s (quote_next mark b) bs) ih)

-- ---- a part: no separator outside quotes, and the quote that is open after it

unfoldable pub undivided : ℕ → ℕ → Text → Bool
undivided s mark [] = true
undivided s mark (b ∷ bs) = not (separates s mark b) && undivided s (quote_next mark b) bs

unfoldable pub quote_after : ℕ → Text → ℕ
quote_after mark [] = mark
quote_after mark (b ∷ bs) = quote_after (quote_next mark b) bs

-- a text without the separator is one part, whatever its quotes
pub free-undivided : (s mark : ℕ) (u : Text) → free s u ≡ true → undivided s mark u ≡ true
unfolding undivided free
free-undivided s mark [] t = refl
free-undivided s mark (b ∷ bs) t =
    let p = and_both (other s b) (every (other s) bs) t in
    rw (and-fails (eqb mark 0) (eqb b s) (not-true (eqb b s) p.0)) (free-undivided s (quote_next mark b) bs p.1)

-- the first part ends at the first separator outside quotes
pub cut-more : (s mark : ℕ) (u v : Text) → undivided s mark u ≡ true → quote_after mark u ≡ 0 → cut_open s mark (u ++ s ∷ v) ≡ u ∷ cut_open s 0 v
unfolding cut_open undivided quote_after if◌then◌otherwise◌
cut-more s mark [] v t q = rw (q, eq-eqb s s refl)
cut-more s mark (b ∷ bs) v t q =
    let p = and_both (not (separates s mark b)) (undivided s (quote_next mark b) bs) t in
    rw (not-true (separates s mark b) p.0, cut-more s (quote_next mark b) bs v p.1 q)

pub cut-one : (s mark : ℕ) (u : Text) → undivided s mark u ≡ true → cut_open s mark u ≡ u ∷ []
unfolding cut_open undivided if◌then◌otherwise◌
cut-one s mark [] t = refl
cut-one s mark (b ∷ bs) t =
    let p = and_both (not (separates s mark b)) (undivided s (quote_next mark b) bs) t in
    rw (not-true (separates s mark b) p.0, cut-one s (quote_next mark b) bs p.1)

-- ---- parts of a text: each is undivided, and each but the last has its quotes closed

abbrev pub Parted : ℕ → ℕ → List Text → Type 0
Parted s mark [] = Unit {0}
Parted s mark (u ∷ us) = (undivided s mark u ≡ true) × (empty us ≡ false → quote_after mark u ≡ 0) × Parted s 0 us

join-parted : (s mark b : ℕ) → separates s mark b ≡ false → (us : List Text) → Parted s (quote_next mark b) us → Parted s mark (join_first b us)
unfolding undivided quote_after
join-parted s mark b e [] g = (rw e refl, (λ n. absurd (false≢true (sym n))), tt)
join-parted s mark b e (u ∷ us) g = (rw e g.0, g.1, g.2)

pub cut-parted : (s mark : ℕ) (t : Text) → Parted s mark (cut_open s mark t)
unfolding cut_open undivided quote_after if◌then◌otherwise◌
cut-parted s mark [] = (refl, (λ n. absurd (false≢true (sym n))), tt)
cut-parted s mark (b ∷ bs) = go (separates s mark b) refl (cut-parted s 0 bs) (cut-parted s (quote_next mark b) bs)
  where
    go : (t : Bool) → separates s mark b ≡ t → Parted s 0 (cut_open s 0 bs) → Parted s (quote_next mark b) (cut_open s (quote_next mark b) bs)
        → Parted s mark (if t then [] ∷ cut_open s 0 bs otherwise join_first b (cut_open s (quote_next mark b) bs))
    go true e g k = (refl, (λ _. outside s mark b e), g)
    go false e g k = join-parted s mark b e (cut_open s (quote_next mark b) bs) k

-- ---- bytes before a text that neither open a quote nor separate

pub calm-front : (s : ℕ) (l t : Text) → free s l ≡ true → every unquoted l ≡ true → undivided s 0 (l ++ t) ≡ undivided s 0 t
unfolding undivided free quote_next unquoted if◌then◌otherwise◌
calm-front s [] t f u = refl
calm-front s (b ∷ l) t f u =
    let p = and_both (other s b) (every (other s) l) f in
    let q = and_both (unquoted b) (every unquoted l) u in
    rw (not-true (eqb b s) p.0, not-true (is_quote b) q.0) (calm-front s l t p.1 q.1)

-- ---- a text in quotes, none of whose bytes is that quote, and what comes after it

in-quotes : (s q : ℕ) (t r : Text) → eqb q 0 ≡ false → every (other q) t ≡ true → undivided s q (t ++ q ∷ r) ≡ undivided s 0 r
unfolding undivided quote_next if◌then◌otherwise◌
in-quotes s q [] r z e = rw (z, eq-eqb q q refl)
in-quotes s q (b ∷ t) r z e =
    let p = and_both (other q b) (every (other q) t) e in
    rw (z, not-true (eqb b q) p.0) (in-quotes s q t r z p.1)

pub quoted-parts : (s : ℕ) (t r : Text) → eqb 34 s ≡ false → every (other 34) t ≡ true → undivided s 0 (34 ∷ t ++ 34 ∷ r) ≡ undivided s 0 r
unfolding undivided quote_next if◌then◌otherwise◌
quoted-parts s t r n e = rw n (in-quotes s 34 t r refl e)
