-- Demand 3: the line cut to its obeyed units is a start of the line as it was sent. The obeyed units are the line's first ones, and joined
-- by `;` they are a start of all units joined, which are the line.
use mathlib.Core.Path.{◌≡◌, refl, sym, ◌∙◌, ap, ap₂}
use mathlib.Core.Bool.{false}
use mathlib.Core.List.{List, [], ◌∷◌, ◌++◌, append_assoc, append-nil}
use Prim.Native.Nat.{ℕ, ◌≤◌}
use Prim.Native.Char.{code}
use native.Mathlib.Omega.{arith}
use lib.Dec.{eqb}
use lib.ListN.{length, take, length-append}
use lib.Seq.{take_at}
use borrow.Author.Tests.{eqb-true}
use Rattle.registers.specs.Text.{Text, every, white}
use Rattle.registers.specs.Check.{Checked, refused, passed}
use Rattle.interpreter.specs.Cuts.{join_first, quote_next, separates, cut_open}
use Rattle.registers.proofs.Tests.{and_both}
use Rattle.interpreter.specs.Box.{Box, box, with_line}
use Rattle.interpreter.specs.Line.{Obeyed, attempt, units_of, at_newline}
use Rattle.interpreter.specs.Demand3.{obeyed_next, obeyed, join_units, cut_line}
use Rattle.interpreter.proofs.Choices.{if-elim}
use Rattle.interpreter.proofs.demands.refused.Cutting.{cut}
use Rattle.interpreter.proofs.demands.refused.Keeping.{cut_to}

-- ---- a text cut at every `;` outside quotes and joined again

join-first : (b : ℕ) (us : List Text) → join_units (join_first b us) ≡ b ∷ join_units us
unfolding join_units
join-first b [] = refl
join-first b (u ∷ []) = refl
join-first b (u ∷ v ∷ us) = refl

-- a text has at least one part
abbrev Some : List Text → Type 0
Some x = (u : Text) × ((us : List Text) × (x ≡ u ∷ us))

cut-some : (s mark : ℕ) (t : Text) → Some (cut_open s mark t)
unfolding cut_open
cut-some s mark [] = ([], ([], refl))
cut-some s mark (b ∷ bs) = if-elim Some (separates s mark b) (λ _. ([], (cut_open s 0 bs, refl))) (λ _. go (cut_open s (quote_next mark b) bs))
  where
    go : (us : List Text) → Some (join_first b us)
    go [] = (b ∷ [], ([], refl))
    go (u ∷ us) = (b ∷ u, (us, refl))

join-none : (us : List Text) → Some us → join_units ([] ∷ us) ≡ code ";" ∷ join_units us
unfolding join_units
join-none us h = rw h.1.1

join-cut : (mark : ℕ) (t : Text) → join_units (cut_open (code ";") mark t) ≡ t
unfolding cut_open join_units
join-cut mark [] = refl
join-cut mark (b ∷ bs) =
    if-elim (λ (x : List Text). join_units x ≡ b ∷ bs) (separates (code ";") mark b)
    (λ e. join-none (cut_open (code ";") 0 bs) (cut-some (code ";") 0 bs)
    ∙ ap₂ ◌∷◌ (sym (eqb-true b (code ";") (and_both (eqb mark 0) (eqb b (code ";")) e).1)) (join-cut 0 bs))
    (λ _. join-first b (cut_open (code ";") (quote_next mark b) bs) ∙ ap (λ (y : Text). b ∷ y) (join-cut (quote_next mark b) bs))

-- ---- the obeyed units are the first ones

abbrev Starts {ℓ} : {A : Type ℓ} → List A → List A → Type ℓ
Starts {A = A} p t = (r : List A) × (t ≡ p ++ r)

next-starts : (us : List Text) (u : Text) → ((path : List Text) (b : Box) → Starts (obeyed us path b) us)
    → (r : Checked Obeyed) → Starts (obeyed_next (λ p c. obeyed us p c) u r) (u ∷ us)
next-starts us u ih (refused n) = (u ∷ us, refl)
next-starts us u ih (passed o) = let h = ih o.path o.box in (h.0, ap (λ (x : List Text). u ∷ x) h.1)

obeyed-starts : (us path : List Text) (b : Box) → Starts (obeyed us path b) us
unfolding obeyed
obeyed-starts [] path b = ([], refl)
obeyed-starts (u ∷ us) path b = next-starts us u (λ p c. obeyed-starts us p c) (attempt path b u)

join-starts : (xs ys : List Text) → Starts (join_units xs) (join_units (xs ++ ys))
unfolding join_units
join-starts [] ys = (join_units ys, refl)
join-starts (u ∷ []) [] = ([], sym (append-nil u))
join-starts (u ∷ []) (y ∷ ys) = (code ";" ∷ join_units (y ∷ ys), refl)
join-starts (u ∷ v ∷ xs) ys =
    let h = join-starts (v ∷ xs) ys in
    (h.0, ap (λ (t : Text). u ++ code ";" ∷ t) h.1 ∙ sym (append_assoc u (code ";" ∷ join_units (v ∷ xs)) h.0))

units-start : (line : Text) (b : Box) → Starts (join_units (obeyed (units_of line) [] b)) line
unfolding units_of obeyed join_units
units-start line b =
    if-elim (λ (us : List Text). Starts (join_units (obeyed us [] b)) line) (every white line) (λ _. (line, refl)) (λ _.
    let us = cut_open (code ";") 0 line in
    let o = obeyed-starts us [] b in
    let j = join-starts (obeyed us [] b) o.0 in
    (j.0, sym (join-cut 0 line) ∙ ap join_units o.1 ∙ j.1))

cut-starts : (b : Box) → Starts (cut_line b) b.core.line
unfolding cut_line
cut-starts b =
    if-elim (λ (p : Text). Starts p b.core.line) b.core.overlong (λ _. (b.core.line, refl)) (λ _. units-start b.core.line (at_newline b))

-- ---- the cut line by its length

pub cut-length : (b : Box) → length (cut_line b) ≤ length b.core.line
cut-length b = omega (arith, simp length-append at (ap length (cut-starts b).1))

-- cut to as many bytes is cut to the obeyed units
pub cut-is : (b : Box) → cut_to (length (cut_line b)) b ≡ cut b
unfolding cut_to
cut-is b =
    let h = cut-starts b in
    ap (λ (l : Text). box (with_line l false b.core) b.trouble)
    (ap (take (length (cut_line b))) h.1 ∙ take_at (cut_line b) h.0 (length (cut_line b)) refl)
