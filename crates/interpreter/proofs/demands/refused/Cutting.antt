-- Demand 3, at the newline: a line that is refused by a number other than -430, and the same line cut to the units that were obeyed,
-- leave the same core. The cut line's units are the obeyed ones, since none of them has a `;` outside quotes and the first is not blank; and the refusal
-- changes no core.
use mathlib.Core.Path.{◌≡◌, refl, sym, ◌∙◌, ap}
use mathlib.Core.Bool.{Bool, true, false, not, false≢true}
use mathlib.Core.List.{List, [], ◌∷◌, ◌++◌}
use Prim.Native.Nat.{ℕ}
use Prim.Native.Char.{code}
use lib.Dec.{eqb}
use borrow.Author.Tests.{eqb-true}
use Rattle.registers.specs.Text.{Text, if◌then◌otherwise◌, every, white, empty, after}
use Rattle.registers.specs.Check.{Checked, refused, passed, ◌>>=◌, ◌>>◌, check}
use Rattle.registers.specs.declared.settings.Settings.{Settings}
use Rattle.registers.proofs.Tests.{and_both, and-true}
use Rattle.interpreter.specs.Cuts.{cut_open}
use Rattle.interpreter.specs.Box.{Box, box, with_line}
use Rattle.interpreter.specs.Unit.{allowed, Read, read_unit}
use Rattle.interpreter.specs.Line.{Obeyed, attempt, refuse, next, run_units, units_of, interrupted, finished, run_line, end_line, at_newline}
use Rattle.interpreter.specs.Demand3.{obeyed_next, obeyed, refusal_next, refusal, join_units, cut_line, line_refusal}
use Rattle.interpreter.proofs.Choices.{if-elim}
use Rattle.interpreter.proofs.Lists.{is-empty}
use Rattle.interpreter.proofs.header.Grammar.{header-none}
use Rattle.interpreter.proofs.cuts.Parts.{Parted, cut-parted, cut-more, cut-one}
use Rattle.interpreter.proofs.demands.refused.Agreement.{over-cores, finished-core}

-- the same box, its waiting line cut to the units that will be obeyed
abbrev pub cut : Box → Box
cut b = box (with_line (cut_line b) false b.core) b.trouble

-- a refusal by a number other than -430 changes no core
refuse-keeps : (n : ℕ) (b : Box) → (n ≡ 430 → ⊥) → (refuse n b).core ≡ b.core
unfolding refuse
refuse-keeps n b h =
    if-elim (λ (c : Box). c.core ≡ b.core) (eqb n 430) (λ q. absurd (h (eqb-true n 430 q))) (λ _. refl)

-- ---- the units that were obeyed, run by themselves

next-cut : (u : Text) (us path : List Text) (b : Box)
    → ((p : List Text) (c : Box) → (refusal us p c ≡ 430 → ⊥) → (run_units us p c).core ≡ (run_units (obeyed us p c) p c).core)
    → (r : Checked Obeyed) → attempt path b u ≡ r → (refusal_next (λ p c. refusal us p c) r ≡ 430 → ⊥)
    → (next (λ p c. run_units us p c) b r).core ≡ (run_units (obeyed_next (λ p c. obeyed us p c) u r) path b).core
unfolding run_units
next-cut u us path b ih (refused n) e h = refuse-keeps n b h
next-cut u us path b ih (passed o) e h = rw e (ih o.path o.box h)

units-cut : (us path : List Text) (b : Box) → (refusal us path b ≡ 430 → ⊥) → (run_units us path b).core ≡ (run_units (obeyed us path b) path b).core
unfolding run_units obeyed refusal
units-cut [] path b h = refl
units-cut (u ∷ us) path b h = next-cut u us path b (λ p c k. units-cut us p c k) (attempt path b u) refl h

-- ---- the cut line's units are the units that were obeyed

-- units joined by `;` and cut again
cut-joined : (u : Text) (us : List Text) → Parted (code ";") 0 (u ∷ us) → cut_open (code ";") 0 (join_units (u ∷ us)) ≡ u ∷ us
unfolding join_units
cut-joined u [] t = cut-one (code ";") 0 u t.0
cut-joined u (v ∷ us) t =
    cut-more (code ";") 0 u (join_units (v ∷ us)) t.0 (t.1 refl) ∙ ap (λ (x : List Text). u ∷ x) (cut-joined v us t.2)

-- ---- a unit that is obeyed is not blank

after-all : (p : ℕ → Bool) (t : Text) → every p t ≡ true → after p t ≡ []
unfolding if◌then◌otherwise◌
after-all p [] h = refl
after-all p (b ∷ bs) h = let q = and_both (p b) (every p bs) h in rw (q.0, after-all p bs q.1)

blank-refused : (s : Settings) (path : List Text) (u : Text) → every white u ≡ true → (n : ℕ) × (read_unit s path u ≡ refused n)
unfolding read_unit check ◌>>=◌ ◌>>◌
blank-refused s path u h = rw (after-all white u h, header-none) (go (every allowed u))
  where
    none : Checked Read
    none = refused 102

    go : (t : Bool) → (n : ℕ) × ((check 101 t >> none) ≡ refused n)
    go true = (102, refl)
    go false = (101, refl)

-- nothing, or a first unit that is not blank
abbrev visible_first : List Text → Bool
visible_first [] = true
visible_first (u ∷ us) = not (every white u)

visible-first : (us path : List Text) (b : Box) → visible_first (obeyed us path b) ≡ true
unfolding obeyed attempt ◌>>=◌
visible-first [] path b = refl
visible-first (w ∷ us) path b = go (every white w) refl
  where
    visible : every white w ≡ false → (r : Checked Obeyed) → visible_first (obeyed_next (λ p c. obeyed us p c) w r) ≡ true
    visible q (refused n) = refl
    visible q (passed o) = rw q

    go : (t : Bool) → every white w ≡ t → visible_first (obeyed (w ∷ us) path b) ≡ true
    go true q = rw (blank-refused b.core.settings path w q).1
    go false q = visible q (attempt path b w)

-- where units are obeyed there are units
obeyed-some : (us path : List Text) (b : Box) → empty (obeyed us path b) ≡ false → empty us ≡ false
unfolding obeyed
obeyed-some [] path b e = e
obeyed-some (u ∷ us) path b e = refl

-- the units that are obeyed are parted as all units are
parted-obeyed : (s mark : ℕ) (us path : List Text) (b : Box) → Parted s mark us → Parted s mark (obeyed us path b)
unfolding obeyed
parted-obeyed s mark [] path b t = tt
parted-obeyed s mark (u ∷ us) path b t = go (attempt path b u) (λ q c. parted-obeyed s 0 us q c t.2)
  where
    go : (r : Checked Obeyed) → ((q : List Text) (c : Box) → Parted s 0 (obeyed us q c)) → Parted s mark (obeyed_next (λ q c. obeyed us q c) u r)
    go (refused n) ih = tt
    go (passed o) ih = (t.0, (λ e. t.1 (obeyed-some us o.path o.box e)), ih o.path o.box)

-- a start of a blank text is blank
blank-start : (p : ℕ → Bool) (u v : Text) → every p (u ++ v) ≡ true → every p u ≡ true
blank-start p [] v t = refl
blank-start p (b ∷ bs) v t = let q = and_both (p b) _ t in and-true q.0 (blank-start p bs v q.1)

blank-joined : (u : Text) (us : List Text) → every white (join_units (u ∷ us)) ≡ true → every white u ≡ true
unfolding join_units
blank-joined u [] t = t
blank-joined u (v ∷ us) t = blank-start white u (code ";" ∷ join_units (v ∷ us)) t

-- units joined, and cut as a line
units-joined : (us : List Text) → Parted (code ";") 0 us → visible_first us ≡ true → units_of (join_units us) ≡ us
unfolding units_of join_units if◌then◌otherwise◌
units-joined [] t h = refl
units-joined (u ∷ us) t h =
    if-elim (λ (x : List Text). x ≡ u ∷ us) (every white (join_units (u ∷ us)))
    (λ q. absurd (false≢true (rw (blank-joined u us q) at h))) (λ _. cut-joined u us t)

units-parted : (line : Text) → Parted (code ";") 0 (units_of line)
unfolding units_of
units-parted line = if-elim (Parted (code ";") 0) (every white line) (λ _. tt) (λ _. cut-parted (code ";") 0 line)

-- ---- the line

-- a line that runs in a box, and the same cut to its obeyed units
run-cut : (line : Text) (b : Box) → (refusal (units_of line) [] b ≡ 430 → ⊥)
    → (run_line line false b).core ≡ (run_line (join_units (obeyed (units_of line) [] b)) false b).core
unfolding run_line if◌then◌otherwise◌
run-cut line b h =
    let us = obeyed (units_of line) [] b in
    let e = units-joined us (parted-obeyed (code ";") 0 (units_of line) [] b (units-parted line)) (visible-first (units_of line) [] b) in
    over-cores (λ x y. (finished x).core ≡ (finished y).core) finished-core _ _ (units-cut (units_of line) [] b h)
    ∙ ap (λ (vs : List Text). (finished (run_units vs [] b)).core) (sym e)

-- a blank line runs nothing
blank-line : (b : Box) → b.core.answer ≡ [] → (run_line [] false b).core ≡ b.core
unfolding run_line units_of run_units finished if◌then◌otherwise◌
blank-line b e = rw e refl

-- after the -410 no answer waits
pub none-waits : (b : Box) → (interrupted b).core.answer ≡ []
unfolding interrupted
none-waits b = if-elim (λ (c : Box). c.core.answer ≡ []) (empty b.core.answer) (λ q. is-empty b.core.answer q) (λ _. refl)

-- "At its newline the two agree in all but the error queue and the event status register"
pub newline-cut : (b : Box) → (line_refusal b ≡ 430 → ⊥) → (end_line b).core ≡ (end_line (cut b)).core
unfolding end_line cut_line line_refusal run_line if◌then◌otherwise◌
newline-cut b h = go b.core.overlong h
  where
    go : (o : Bool) → ((if o then 363 otherwise refusal (units_of b.core.line) [] (at_newline b)) ≡ 430 → ⊥)
        → (run_line b.core.line o (at_newline b)).core
        ≡ (run_line (if o then [] otherwise join_units (obeyed (units_of b.core.line) [] (at_newline b))) false (at_newline b)).core
    go true k = sym (blank-line (at_newline b) (none-waits (box (with_line [] false b.core) b.trouble)))
    go false k = run-cut b.core.line (at_newline b) k
