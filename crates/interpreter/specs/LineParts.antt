-- What the line reader's own functions say. Nothing of 01 is defined here: see Line.antt.
use Rattle.std.specs.Prelude.{◌≡◌, Bool, true, false, List, [], ◌≤◌, Result, Ok, Err}
use Prim.Native.Char.{code}
use Rattle.registers.specs.Text.{Text}
use Rattle.registers.specs.Check.{Checked, refused, passed, ◌>>◌}
use Rattle.registers.specs.Queue.{most}
use Rattle.registers.specs.Status.{registers_of, trouble_of}
use Rattle.registers.specs.Error.{number_of}
use Rattle.registers.specs.declared.error.Error.{Error}
use Rattle.interpreter.specs.Cuts.{cut_open}
use Rattle.interpreter.specs.Box.{Memory, Box, box, most_answer}
use Rattle.interpreter.specs.Perform.{permitted, perform}
use Rattle.interpreter.specs.Line.{attempt, refuse, run_units, run_line}
use Rattle.interpreter.specs.HeaderParts.{IsPath}
use Rattle.interpreter.specs.PresentParts.{box_in, box_at, RefusedWith}
use Rattle.interpreter.specs.declared.deed.Deed.{Deed}
use Rattle.interpreter.specs.declared.present.Present.{Present}
use Rattle.interpreter.specs.declared.path.Path.{Path}

-- what comes of a unit that was read: the lock and check 8, and what it does with check 9
abbrev pub carried : Deed → Text → Box → Checked Box
carried d t b = permitted d b.core >> perform d t b

-- it is obeyed; or it is refused, and of the answers so far is left what the refusal leaves of them
abbrev pub Left : Error → Present → Text → Memory → Text → Memory → Type 0
Left e p out m out' m' = refuse (number_of e) (box_at p out' m') ≡ refuse (number_of e) (box_at p out m)

abbrev pub CarriedOut : Deed → Text → Present → Text → Memory → Result (Unit {0}) Error → Present → Text → Memory → Type 0
CarriedOut d t p out m (Ok x) r out' m' = carried d t (box_at p out m) ≡ passed (box_at r out' m')
CarriedOut d t p out m (Err e) r out' m' = (carried d t (box_at p out m) ≡ refused (number_of e)) × Left e p out m out' m' × (r ≡ p)

abbrev pub UnitRan : Present → List Text → Text → Text → Memory → Result (Unit {0}) Error → Present → Path → Text → Memory → Type 0
UnitRan p path unit out m (Ok x) r way out' m' =
    (names : List Text) × (attempt path (box_at p out m) unit ≡ passed (record { path = names; box = box_at r out' m' })) × IsPath names way
UnitRan p path unit out m (Err e) r way out' m' = (attempt path (box_at p out m) unit ≡ refused (number_of e)) × Left e p out m out' m' × (r ≡ p)

-- a line goes on after a unit that was obeyed, and not after one that was refused
abbrev pub GoesOn : Result (Unit {0}) Error → Present → Bool → Present → Type 0
GoesOn (Ok x) p more r = (more ≡ true) × (r ≡ p)
GoesOn (Err e) p more r = (more ≡ false) × RefusedWith e p r

abbrev pub UnitsRan : Present → Text → Memory → Present → Text → Memory → Type 0
UnitsRan p line m r out' m' = box_at r out' m' ≡ run_units (cut_open (code ";") 0 line) [] (box_in p [] m)

pub record LineRan (p : Present) (line : Text) (overlong : Bool) (m : Memory) (r : Present) (out' : Text) (m' : Memory) : Type 0 where
  pub queued : r.status.queued ≤ most
  pub room : r.answered ≤ most_answer
  pub box : box_at r out' m' ≡ run_line line overlong (box_in p [] m)

-- a box with a line in it
abbrev pub box_holding : Present → Text → Bool → Text → Memory → Box
box_holding p line overlong answer m =
    box (record { settings = p.settings; registers = registers_of p.status; line = line; overlong = overlong; answer = answer; memory = m })
    (trouble_of p.status)
