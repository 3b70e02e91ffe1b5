-- The loop over a line's units. Its invariant, `Going`: the units left at place `at`, run at the box as it stands, do what all units do from the
-- start. A turn runs the unit up to the next `;`, which is the first of those left (`first-unit`); a refused one ends the line.
use mathlib.Core.Path.{◌≡◌, refl, sym, ◌∙◌}
use mathlib.Core.Bool.{Bool, true, false, ◌&&◌, false≢true}
use mathlib.Core.List.{List, [], ◌∷◌}
use Prim.Native.Char.{code}
use Prim.Native.Nat.{ℕ, suc, ◌+◌, ◌-◌, ◌≤◌, ◌<◌, zero-le}
use native.Mathlib.Omega.{arith}
use native.Mathlib.Numerals.{add-one}
use lib.Dec.{ltb, leb-suc-suc}
use lib.ListN.{length, take, drop, length-drop}
use lib.Seq.{drop-drop}
use borrow.Author.Tests.{lt-ltb, le-ltb, ltb-true, ltb-false}
use Rattle.registers.specs.Text.{Text, if◌then◌otherwise◌}
use Rattle.std.specs.Prelude.{Result, Ok, Err}
use Rattle.registers.specs.Error.{number_of}
use Rattle.registers.specs.declared.error.Error.{Error}
use Rattle.registers.specs.Check.{refused, passed}
use Rattle.registers.proofs.Tests.{and_both}
use Rattle.interpreter.specs.Cuts.{quote_next, separates, cut_open}
use Rattle.interpreter.specs.CutsParts.{place_open}
use Rattle.interpreter.specs.Box.{memory, Box}
use Rattle.interpreter.specs.Line.{Obeyed, attempt, refuse, run_units}
use Rattle.interpreter.specs.HeaderParts.{IsPath}
use Rattle.interpreter.specs.PresentParts.{box_in, box_at, RefusedWith}
use Rattle.interpreter.specs.LineParts.{UnitRan, GoesOn}
use Rattle.interpreter.specs.declared.present.Present.{Present}
use Rattle.interpreter.specs.declared.present.Running.{Running}
use Rattle.interpreter.specs.declared.path.Path.{Path}
use Rattle.interpreter.proofs.header.Path.{at-root}

-- ---- a line cut at its units

-- the units after the first
unfoldable others : ℕ → Text → List Text
others mark l =
    if ltb (place_open (code ";") mark l) (length l) then cut_open (code ";") 0 (drop (place_open (code ";") mark l + 1) l) otherwise []

first-unit : (mark : ℕ) (l : Text) → cut_open (code ";") mark l ≡ take (place_open (code ";") mark l) l ∷ others mark l
unfolding cut_open others place_open if◌then◌otherwise◌
first-unit mark [] = refl
first-unit mark (x ∷ l) = go (separates (code ";") mark x) refl (first-unit (quote_next mark x) l)
  where
    n : ℕ
    n = place_open (code ";") (quote_next mark x) l

    go : (t : Bool) → separates (code ";") mark x ≡ t → cut_open (code ";") (quote_next mark x) l ≡ take n l ∷ others (quote_next mark x) l
        → cut_open (code ";") mark (x ∷ l) ≡ take (place_open (code ";") mark (x ∷ l)) (x ∷ l) ∷ others mark (x ∷ l)
    go true e ih = rw (e, lt-ltb 0 (suc (length l)) (omega arith))
    go false e ih = rw (e, ih, leb-suc-suc (suc n) (length l), add-one (suc n), add-one n)

others-more : (l : Text) → place_open (code ";") 0 l < length l → others 0 l ≡ cut_open (code ";") 0 (drop (place_open (code ";") 0 l + 1) l)
unfolding others if◌then◌otherwise◌
others-more l h = rw (lt-ltb (place_open (code ";") 0 l) (length l) h)

others-none : (l : Text) → length l ≤ place_open (code ";") 0 l → others 0 l ≡ []
unfolding others if◌then◌otherwise◌
others-none l h = rw (le-ltb (place_open (code ";") 0 l) (length l) h)

-- ---- units run one by one

module _ (u : Text) (us path : List Text) (b : Box) where
  pub run_on : (o : Obeyed) → attempt path b u ≡ passed o → run_units (u ∷ us) path b ≡ run_units us o.path o.box
  unfolding run_units
  run_on o e = rw e

  pub run-stop : (n : ℕ) → attempt path b u ≡ refused n → run_units (u ∷ us) path b ≡ refuse n b
  unfolding run_units
  run-stop n e = rw e

pub run_none : (path : List Text) (b : Box) → run_units [] path b ≡ b
unfolding run_units
run_none path b = refl

-- ---- the units of a line so far: what is left does what all of them do

pub record Going (b : Box) (line : Text) (way : Path) (out store : Text) (d : Running) (at : ℕ) : Type 0 where
  pub within : at ≤ length line
  pub path : List Text
  pub holds : IsPath path way
  pub left : run_units (cut_open (code ";") 0 (drop at line)) path (box_at d.present out (memory store)) ≡ run_units (cut_open (code ";") 0 line) [] b

pub going_start : (p : Running) (line : Text) (way : Path) (out store : Text) → way.used ≡ 0 → p.present.answered ≡ 0
    → Going (box_in p.present [] (memory store)) line way out store p 0
going_start p line way out store u z =
    record { within = zero-le; path = []; holds = at-root way u; left = rw z }

module _ (b : Box) (line : Text) (way : Path) (out store : Text) (d : Running) (at : ℕ) (g : Going b line way out store d at)
    (end : ℕ) (is : end ≡ at + place_open (code ";") 0 (drop at line)) (within : end ≤ length line) (more : Path) (left kept : Text) where
  -- the rest of the line, which begins with this unit, and the box before it
  abbrev here : Text
  here = drop at line

  abbrev before : Box
  before = box_at d.present out (memory store)

  n : end - at ≡ place_open (code ";") 0 here
  n = omega (arith, is)

  first : cut_open (code ";") 0 here ≡ take (end - at) here ∷ others 0 here
  first = rw n (first-unit 0 here)

  -- the unit was refused
  going_stopped : (s : Running) (e : Error) → UnitRan d.present g.path (take (end - at) here) out (memory store) (Err e) s.present more left (memory kept)
      → (q : Present) → RefusedWith e s.present q → box_at q left (memory kept) ≡ run_units (cut_open (code ";") 0 line) [] b
  going_stopped s e w q r =
      r.box left (memory kept) ∙ (rw w.2 w.1) ∙ sym (run-stop (take (end - at) here) (others 0 here) g.path before (number_of e) w.0) ∙ (rw first at g.left)

  -- the unit was obeyed
  module _ (r : Running) (w : UnitRan d.present g.path (take (end - at) here) out (memory store) (Ok tt) r.present more left (memory kept)) where
    passes : run_units (others 0 here) w.0 (box_at r.present left (memory kept)) ≡ run_units (cut_open (code ";") 0 line) [] b
    passes = sym (run_on (take (end - at) here) (others 0 here) g.path before _ w.1) ∙ (rw first at g.left)

    going_on : end < length line → Going b line more left kept r (end + 1)
    going_on h =
        let m = n in
        let f = length-drop at line in
        let next : at + (place_open (code ";") 0 here + 1) ≡ end + 1 = omega arith in
        let rest : others 0 here ≡ cut_open (code ";") 0 (drop (end + 1) line) = rw (others-more here (omega arith), drop-drop (place_open (code ";") 0 here + 1) at line, next) in
        record { within = omega arith; path = w.0; holds = w.2; left = rw rest at passes }

    going_end : length line ≤ end → box_at r.present left (memory kept) ≡ run_units (cut_open (code ";") 0 line) [] b
    going_end h =
        let m = n in
        let f = length-drop at line in
        sym (run_none _ _) ∙ (rw (others-none here (omega arith)) at passes)

  -- what is left of the line's units, as the code asks whether it goes on
  abbrev Ran : Result (Unit {0}) Error → Running → Type 0
  Ran ran s = UnitRan d.present g.path (take (end - at) here) out (memory store) ran s.present more left (memory kept)

  pub going_stop : (s q : Running) (ran : Result (Unit {0}) Error) → Ran ran s → (goes : Bool) → GoesOn ran s.present goes q.present
      → (goes && ltb end (length line)) ≡ false → box_at q.present left (memory kept) ≡ run_units (cut_open (code ";") 0 line) [] b
  going_stop s q (Ok x) w goes on e = going_end q (rw (← on.1) at w) (ltb-false end (length line) (rw on.0 at e))
  going_stop s q (Err x) w goes on e = going_stopped s x w q.present on.1

  pub going_next : (s q : Running) (ran : Result (Unit {0}) Error) → Ran ran s → (goes : Bool) → GoesOn ran s.present goes q.present
      → (goes && ltb end (length line)) ≡ true → Going b line more left kept q (end + 1)
  going_next s q (Ok x) w goes on e = going_on q (rw (← on.1) at w) (ltb-true end (length line) (and_both goes (ltb end (length line)) e).1)
  going_next s q (Err x) w goes on e = absurd (false≢true (rw on.0 at e))
