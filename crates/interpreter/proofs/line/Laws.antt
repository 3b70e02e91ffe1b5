-- One unit, by the promises of its steps: reading refuses it, or it is carried out, and then the lock or check 8 bars it, check 9 leaves it
-- unanswered, or it is done. Each is a case of the definition's chain of checks (`attempt-read`, `attempt-carried`).
use mathlib.Core.Path.{◌≡◌, refl, sym, ◌∙◌}
use mathlib.Core.List.{List}
use Prim.Native.Nat.{ℕ}
use Rattle.registers.specs.Text.{Text}
use Rattle.registers.specs.Label.{text_in}
use Rattle.registers.specs.Check.{Checked, refused, passed, ◌>>=◌, ◌>>◌}
use Rattle.registers.specs.Error.{number_of}
use Rattle.registers.specs.declared.error.Error.{Error}
use Rattle.interpreter.specs.Box.{Memory, Box}
use Rattle.interpreter.specs.Unit.{Read, read_unit}
use Rattle.interpreter.specs.Perform.{permitted, perform}
use Rattle.interpreter.specs.Line.{attempt}
use Rattle.interpreter.specs.UnitParts.{UnitRead, Accepted, Allowed, AllowedText}
use Rattle.interpreter.specs.declared.unit.Reading.{Reading}
use Rattle.interpreter.specs.PresentParts.{core_in, box_at}
use Rattle.interpreter.specs.PerformParts.{After}
use Rattle.interpreter.specs.ReplyParts.{Answered}
use Rattle.interpreter.specs.LineParts.{carried, CarriedOut, UnitRan}
use Rattle.std.specs.Prelude.{Result, Ok, Err}
use Rattle.interpreter.specs.declared.deed.Deed.{Deed}
use Rattle.interpreter.specs.declared.present.Present.{Present}
use Rattle.interpreter.specs.declared.path.Path.{Path}
use Rattle.interpreter.proofs.Checks.{first-check}
use Rattle.interpreter.proofs.unit.Allowed.{read-allowed, text-allowed}

-- ---- a unit that was read: it is barred, left unanswered, or done

module _ (p : Present) (d : Deed) (t out : Text) (m : Memory) where
  abbrev b : Box
  b = box_at p out m

  -- the lock and check 8 see nothing of the answers so far
  pub seen : {c : Checked (Unit {0})} → permitted d (core_in p.settings p.status) ≡ c → permitted d b.core ≡ c
  unfolding permitted
  seen q = q

  pub deed-barred : (e : Error) → permitted d (core_in p.settings p.status) ≡ refused (number_of e) → CarriedOut d t p out m (Err e) p out m
  unfolding ◌>>◌
  deed-barred e l = (rw (seen l), refl, refl)

  module _ (l : permitted d (core_in p.settings p.status) ≡ passed tt) (left : Text) where
    pub deed-unanswered : (e : Error) → Answered d t p out (Err e) left → CarriedOut d t p out m (Err e) p left m
    unfolding ◌>>◌
    deed-unanswered e says = let a = says m in (rw (seen l, a.0), a.1, refl)

    pub deed-done : Allowed p.settings d → (next : Present) → After d t p next → (end : ℕ) → Answered d t p out (Ok end) left
        → carried d t b ≡ passed (box_at (record { settings = next.settings; status = next.status; answered = end }) left m)
    unfolding ◌>>◌
    deed-done allowed next s end says = rw (seen l) (says.1 next m allowed s)

-- ---- the whole unit: it is refused by its reading, or carried out

module _ (path : List Text) (b : Box) (u : Text) where
  attempt-read : (n : ℕ) → read_unit b.core.settings path u ≡ refused n → attempt path b u ≡ refused n
  unfolding attempt ◌>>=◌
  attempt-read n e = rw e

  attempt-carried : (r : Read) → read_unit b.core.settings path u ≡ passed r
      → attempt path b u ≡ (carried r.deed r.text b >>= λ c. passed (record { path = r.path; box = c }))
  unfolding attempt ◌>>=◌
  attempt-carried r e = rw e (sym (first-check (permitted r.deed b.core) (perform r.deed r.text b) (λ c. passed (record { path = r.path; box = c }))))

module _ (p : Present) (path : List Text) (unit : Text) (way : Path) where
  pub unit-refused : (e : Error) → UnitRead p.settings path unit (Err e) way → (out : Text) (m : Memory) → UnitRan p path unit out m (Err e) p way out m
  unit-refused e read out m = (attempt-read path (box_at p out m) unit (number_of e) read, refl, refl)

  module _ (a : Reading) (read : Accepted p.settings path unit a way) where
    -- the text that its parameter gives
    abbrev said : Text
    said = text_in a.given.now

    pub unit-allowed : Allowed p.settings a.deed
    unit-allowed = read-allowed p.settings path unit read.is

    pub unit-said : AllowedText a.deed said
    unit-said = text-allowed p.settings path unit read.is

    pub unit-carried : (r : Result (Unit {0}) Error) (q : Present) (out left : Text) (m m' : Memory) → CarriedOut a.deed said p out m r q left m' → UnitRan p path unit out m r q way left m'
    unfolding ◌>>=◌
    unit-carried (Ok x) q out left m m' c = (read.left, attempt-carried path (box_at p out m) unit _ read.is ∙ rw c, read.holds)
    unit-carried (Err e) q out left m m' c = (attempt-carried path (box_at p out m) unit _ read.is ∙ rw c.0, c.1, c.2)
