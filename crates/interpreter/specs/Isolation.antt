-- 02, #111: "two histories which differ only in parameter values of accepted setting units for channel 2 give the same settings and query
-- answers for channel 1". The premises: "every setting unit for channel 2 is accepted in both histories, and in neither is there a *SAV, a
-- *RCL, an overlong line or a -430". "The answers are those given by the units, whether or not they are taken".
use Rattle.std.specs.Prelude.{◌≡◌, Bool, true, false, not, ◌&&◌, List, [], ◌∷◌, ◌++◌, ℕ, eqb}
use Rattle.registers.specs.Text.{Text, if◌then◌otherwise◌, every}
use Rattle.registers.specs.Check.{Checked, refused, passed}
use Rattle.registers.specs.Settings.{second, value_at}
use Rattle.interpreter.specs.Header.{Header, header, is_common, full_names, path_after}
use Rattle.interpreter.specs.Rows.{find_role}
use Rattle.interpreter.specs.Box.{Memory, Core, Box, power_up}
use Rattle.interpreter.specs.Unit.{Read, header_text, read_unit}
use Rattle.interpreter.specs.Reply.{reply_to}
use Rattle.interpreter.specs.Line.{Obeyed, attempt, units_of}
use Rattle.interpreter.specs.Events.{Event, started, Result, after}
use Rattle.interpreter.specs.Histories.{newline, Recut, is_piece, sent}
use Rattle.interpreter.specs.Demand3.{in_line}
use Rattle.interpreter.specs.State.{box_of, Started}
use Rattle.interpreter.specs.Calls.{Calls}
use Rattle.interpreter.specs.Steps.{Step, powers_up, discards, overruns, tries, finds_none, steps}
use Rattle.interpreter.specs.declared.state.State.{State}
use Rattle.interpreter.specs.declared.deed.Deed.{Deed}
use Rattle.interpreter.specs.declared.deed.Deed.TheVariants.{Change, Complete, Clear, Query, Inquire, Saving}
use Rattle.interpreter.specs.declared.deed.Query as queries
use Rattle.interpreter.specs.declared.deed.Query.TheVariants.{Identity, SelfTest, Completed, Limit, Value, Stored, Condition, SetEvents, Label as label_asked}
use Rattle.interpreter.specs.declared.deed.Role.{Role}
use Rattle.interpreter.specs.declared.deed.Role.TheVariants.{Setting as setting, Register as register, Only, Saving as saving, Label as label}

-- ---- "setting units for channel 2": told by the header and the path that it is read after, whatever the parameters are

abbrev pub of_second : Checked Role → Bool
of_second (refused n) = false
of_second (passed (setting i)) = second i
of_second (passed (register r)) = false
of_second (passed (Only d)) = false
of_second (passed (saving x)) = false
of_second (passed label) = false

abbrev pub heads_second : List Text → Checked Header → Bool
heads_second path (refused n) = false
heads_second path (passed h) =
    not h.query && of_second (find_role (is_common h.place) (full_names h.place path h.names) h.query)

unfoldable pub sets_second : List Text → Text → Bool
sets_second path u = heads_second path (header (header_text u))

-- ---- "differ only in parameter values": the same units, but that one which sets a setting of channel 2 may have other parameters
-- behind its header, of another length too

pub data UnitAlike (path : List Text) (u v : Text) : Type 0 where
  same : u ≡ v → UnitAlike path u v
  other_value : sets_second path u ≡ true → header_text u ≡ header_text v → UnitAlike path u v

-- the path that a unit's header leaves, obeyed or not
abbrev pub path_left : List Text → Checked Header → List Text
path_left path (refused n) = path
path_left path (passed h) = path_after h.place path h.names

-- unit by unit, the first of them after a path
unfoldable pub UnitsAlike : List Text → List Text → List Text → Type 0
UnitsAlike path [] [] = Unit {0}
UnitsAlike path [] (v ∷ vs) = ⊥
UnitsAlike path (u ∷ us) [] = ⊥
UnitsAlike path (u ∷ us) (v ∷ vs) = UnitAlike path u v × UnitsAlike (path_left path (header (header_text u))) us vs

abbrev pub LinesAlike : Text → Text → Type 0
LinesAlike x y = UnitsAlike [] (units_of x) (units_of y)

-- all events but pieces
unfoldable pub besides : List Event → List Event
besides [] = []
besides (e ∷ es) = let more = besides es in if is_piece e then more otherwise e ∷ more

-- what happens while a line is under way: its bytes, and the same other events in both histories
pub record During (d e : List Event) : Type 0 where
  pub first : every in_line d ≡ true
  pub second : every in_line e ≡ true
  pub others : besides d ≡ besides e

-- two histories, line by line. A line that is cut off by a power-up or by the history's end runs no units, so that of its bytes nothing is
-- asked
pub data Alike : List Event → List Event → Type 0 where
  unended : {d e : List Event} → During d e → Alike d e
  powered : {d e h g : List Event} → During d e → Alike h g → Alike (d ++ started ∷ h) (e ++ started ∷ g)
  ended : {d e h g : List Event} → During d e → LinesAlike (sent d) (sent e) → Alike h g → Alike (d ++ newline ∷ h) (e ++ newline ∷ g)

-- ---- the premises, of each history by itself

abbrev pub saves : Deed → Bool
saves (Change x) = false
saves Complete = false
saves Clear = false
saves (Query q) = false
saves (Inquire q) = false
saves (Saving x p) = true

-- a unit is no *SAV and no *RCL of a place, obeyed or not
abbrev pub unsaved : Checked Read → Bool
unsaved (refused n) = true
unsaved (passed r) = not (saves r.deed)

abbrev pub calm_unit : Bool → Checked Obeyed → Bool
calm_unit sets (refused n) = not sets && not (eqb n 430)
calm_unit sets (passed o) = true

-- "every setting unit for channel 2 is accepted .., and in neither is there a *SAV, a *RCL, an overlong line or a -430"
unfoldable pub calm : Step → Bool
calm (powers_up b) = true
calm (discards b) = true
calm (overruns b) = false
calm (tries path b u) = unsaved (read_unit b.core.settings path u) && calm_unit (sets_second path u) (attempt path b u)
calm (finds_none b) = true

abbrev pub Calm : List Step → Type 0
Calm ss = every calm ss ≡ true

-- ---- "query answers for channel 1": those of every obeyed query of a setting that is not channel 2's; and those of the registers,
-- *IDN?, *TST? and *OPC? besides. *ESR?, *STB? and SYST:ERR? tell of errors, and a take that is lent too short a buffer for the one
-- history's answer alone makes a -410 there alone

abbrev pub asks_second : queries.Query → Bool
asks_second Identity = false
asks_second SelfTest = false
asks_second Completed = false
asks_second (Limit i v) = second i
asks_second (Value i) = second i
asks_second (Stored r) = false
asks_second (Condition x) = false
asks_second (SetEvents x) = false
asks_second label_asked = false

abbrev pub answer_to : Deed → Core → List Text
answer_to (Change x) c = []
answer_to Complete c = []
answer_to Clear c = []
answer_to (Query q) c = if asks_second q then [] otherwise reply_to q c ∷ []
answer_to (Inquire q) c = []
answer_to (Saving x p) c = []

abbrev pub given_by : Core → Checked Read → Checked Obeyed → List Text
given_by c (refused n) x = []
given_by c (passed r) (refused n) = []
given_by c (passed r) (passed o) = answer_to r.deed c

unfoldable pub given : Step → List Text
given (powers_up b) = []
given (discards b) = []
given (overruns b) = []
given (tries path b u) = given_by b.core (read_unit b.core.settings path u) (attempt path b u)
given (finds_none b) = []

unfoldable pub answers : List Step → List Text
answers [] = []
answers (x ∷ xs) = given x ++ answers xs

-- ---- the statement

-- all settings but channel 2's, the display's text among them, and all registers but the event status register
pub record Agree (b c : Box) : Type 0 where
  pub settings : (i : ℕ) → second i ≡ false → value_at b.core.settings i ≡ value_at c.core.settings i
  pub text : b.core.settings.text ≡ c.core.settings.text
  pub registers : b.core.registers ≡ c.core.registers

-- whatever is in the stores that they are lent
pub record Isolated (m m' : Memory) (h g : List Event) : Type 0 where
  pub left : Agree (after (power_up m) h) (after (power_up m') g)
  pub told : answers (steps (power_up m) h) ≡ answers (steps (power_up m') g)

-- h and h' are the two histories, each in any pieces
abbrev pub Isolation : Type 0
Isolation =
    (m m' : Memory) (g g' h h' : List Event) → Alike g g' → Recut h g → Recut h' g' → Calm (steps (power_up m) h) → Calm (steps (power_up m') h')
    → Isolated m m' h h'

-- the settings by calls of the public functions, known by their promises alone, from two power-ups
abbrev pub IsolationOfCalls : Type 0
IsolationOfCalls =
    (m m' : Memory) (g g' h h' : List Event) → Alike g g' → Recut h g → Recut h' g' → Calm (steps (power_up m) h) → Calm (steps (power_up m') h')
    → (s s' t t' : State) (n n' : Memory) (rs rs' : List Result) → Started s → Started s' → Calls t n s m h rs → Calls t' n' s' m' h' rs'
    → Agree (box_of t n) (box_of t' n')
