-- Demand 2, besides the definition of every event: settings keep their limits, pieces behave as their bytes, and an answer to a
-- settings query, sent back, leaves every setting as it was. From any state that could be the box's, not only from power-up.
use Rattle.std.specs.Prelude.{◌≡◌, true, false, List, [], ◌∷◌, ◌++◌, ℕ, ◌+◌, ◌≤◌, ◌<◌}
use Rattle.std.proofs.Math.ListN as L
use Rattle.std.specs.Int.Signed.{le_z}
use Rattle.registers.specs.Text.{Text, white, every, empty}
use Rattle.registers.specs.Check.{passed}
use Rattle.registers.specs.Settings.{count, voltage, range, voltage2, range2, twelve_volts, wide_range, kind_of, value_at, displayed, within, answer_of, at_reset}
use Rattle.registers.specs.Label.{most_text, may_stand, quoted_text}
use Rattle.registers.specs.declared.settings.Settings.{Settings}
use Rattle.registers.specs.Status.{all_read, locked}
use Rattle.interpreter.specs.Header.{Header, header, is_common, full_names}
use Rattle.interpreter.specs.Rows.{find_role}
use Rattle.interpreter.specs.Box.{Box, box, with_settings, with_registers, with_line}
use Rattle.interpreter.specs.Unit.{read_unit}
use Rattle.interpreter.specs.Perform.{perform}
use Rattle.interpreter.specs.Line.{units_of, piece, newlines}
use Rattle.interpreter.specs.Events.{Event, take, Result, happens, Own, after}
use Rattle.interpreter.specs.Histories.{newline, Recut, replies, counted}
use Rattle.interpreter.specs.Demand3.{in_line, line_refusal}
use Rattle.interpreter.specs.declared.deed.Deed.TheVariants.{Change, Clear, Query as asked}
use Rattle.interpreter.specs.declared.deed.Query.{Query}
use Rattle.interpreter.specs.declared.deed.Change.TheVariants.{Reset}
use Rattle.interpreter.specs.declared.deed.Query.TheVariants.{Value, Label}
use Rattle.interpreter.specs.declared.deed.Role.{Role}
use Rattle.interpreter.specs.declared.deed.Role.TheVariants.{Setting, Label as label_role}

-- ---- "Settings never leave their limits", in any history

abbrev pub WithinLimits : Type 0
WithinLimits = (b : Box) → Own b → (es : List Event) (i : ℕ) → i < count →
    let s = (after b es).core.settings in within s i (value_at s i) ≡ true

-- the text's limits "are the length and the bytes that are accepted" (02, #109)
abbrev pub TextWithinLimits : Type 0
TextWithinLimits = (b : Box) → Own b → (es : List Event) →
    let t = displayed (after b es).core.settings in (every may_stand t ≡ true) × (L.length t ≤ most_text)

-- "a voltage above its range" never comes, on either channel (02, #111)
pub record InRange (s : Settings) : Type 0 where
  pub first : wide_range s range ≡ false → le_z (value_at s voltage) twelve_volts ≡ true
  pub second : wide_range s range2 ≡ false → le_z (value_at s voltage2) twelve_volts ≡ true

abbrev pub WithinRange : Type 0
WithinRange = (b : Box) → Own b → (es : List Event) → InRange (after b es).core.settings

-- ---- "*RST the settings only"; "*CLS clears the event status register, the operation event register and the queue, nothing else", by 02 (#104)
-- "all three event registers"

abbrev pub ResetsOnly : Type 0
ResetsOnly = (t : Text) (b : Box) → perform (Change Reset) t b ≡ passed (box (with_settings at_reset b.core) b.trouble)

abbrev pub ClearsOnly : Type 0
ClearsOnly = (t : Text) (b : Box) → perform Clear t b ≡ passed (box (with_registers (all_read b.core.registers) b.core) (record { events = 0; queue = [] }))

-- ---- "A piece behaves as its bytes one at a time", and so as its parts; its count is the sum of theirs. In whatever pieces the
-- bytes of a history come, the state, the results of all other events and the sum of the pieces' counts are the same

abbrev pub InParts : Type 0
InParts = (b : Box) (xs ys : Text)
    → (piece b (xs ++ ys) ≡ piece (piece b xs) ys) × (newlines (xs ++ ys) ≡ newlines xs + newlines ys)

abbrev pub InAnyPieces : Type 0
InAnyPieces = (b : Box) (h g : List Event) → Recut h g → (after b h ≡ after b g) × (replies b h ≡ replies b g) × (counted b h ≡ counted b g)

-- ---- the round trip

-- a setting: one of the table's, by its row, or the display's text (02, #109)
pub data Which : Type 0 where
  tabled : ℕ → Which
  display : Which

-- its query, what its header is for, and its answer
abbrev pub query_of : Which → Query
query_of (tabled i) = Value i
query_of display = Label

abbrev pub role_of : Which → Role
role_of (tabled i) = Setting i
role_of display = label_role

abbrev pub answer_to : Which → Settings → Text
answer_to (tabled i) s = answer_of (kind_of i) (value_at s i)
answer_to display s = quoted_text (displayed s)

-- a box whose waiting line is a query of setting i without parameter, in any spelling, alone
pub record Asks (i : Which) (b : Box) : Type 0 where
  pub whole : b.core.overlong ≡ false
  pub alone : units_of b.core.line ≡ b.core.line ∷ []
  pub path : List Text
  pub text : Text
  pub asks : read_unit b.core.settings [] b.core.line ≡ passed (record { deed = asked (query_of i); text = text; path = path })

-- what then waits is the setting's value
abbrev pub Answered : Type 0
Answered = (b : Box) → Own b → (i : Which) (before : List Event) → Asks i (after b before) →
    (after b (before ++ newline ∷ [])).core.answer ≡ answer_to i (after b before).core.settings ++ 10 ∷ []

-- an event took an answer: these bytes and a newline
pub record Took (a : Text) (r : Result) : Type 0 where
  pub number : r.number ≡ 0
  pub bytes : L.take r.value r.buffer ≡ a ++ 10 ∷ []

-- a header of setting i, not as a query, in any spelling
pub record Spelling (i : Which) (h : Text) : Type 0 where
  pub read : Header
  pub reads : header h ≡ passed read
  pub sets : read.query ≡ false
  pub row : find_role (is_common read.place) (full_names read.place [] read.names) false ≡ passed (role_of i)

-- a box whose waiting line is such a header with that parameter, alone, with any white space around them
pub record Sends (i : Which) (a : Text) (b : Box) : Type 0 where
  pub whole : b.core.overlong ≡ false
  pub left : Text
  pub header : Text
  pub gap : Text
  pub right : Text
  pub line : b.core.line ≡ left ++ (header ++ (gap ++ (a ++ right)))
  pub spelling : Spelling i header
  pub left_white : every white left ≡ true
  pub gap_white : every white gap ≡ true
  pub gap_there : empty gap ≡ false
  pub right_white : every white right ≡ true

-- the history up to the query's newline, to the take, and to the newline of the line that sends the answer back; what happens
-- in between is no power-up and ends no other line
abbrev pub queried : List Event → List Event
queried before = before ++ newline ∷ []

abbrev pub sent_back : List Event → List Event → Text → List Event → List Event
sent_back before early buffer late = queried before ++ early ++ take buffer ∷ late

-- what the take between them tells
abbrev pub taken_from : Box → List Event → List Event → Text → Result
taken_from b before early buffer = (happens (after b (queried before ++ early)) (take buffer)).result

-- "is accepted and leaves every setting as it was": it raises no error, and nothing is changed but that the line is gone
pub record Back (asking sending back : Box) : Type 0 where
  pub settings : back.core.settings ≡ asking.core.settings
  pub accepted : line_refusal sending ≡ 0
  pub rest : back ≡ box (with_line [] false sending.core) sending.trouble

-- a setting's answer is asked for, taken, and sent back, from a state that could be the box's
pub record Trip (b : Box) (i : Which) (a buffer : Text) (r : Result) (before early late : List Event) : Type 0 where
  pub own : Own b
  pub first : every in_line early ≡ true
  pub second : every in_line late ≡ true
  pub asks : Asks i (after b before)
  pub took : Took a r
  pub sends : Sends i a (after b (sent_back before early buffer late))

-- the round trip's premises; "no lock bit is 1" (02, #105) as the line that sends the answer back ends. 02 (#108) adds "that none of its events is
-- refused with number 5": the two newlines and the take are not, since such an event is a `mislent`, and between them one changes nothing
pub record Premises (b : Box) (i : Which) (a buffer : Text) (r : Result) (before early late : List Event) : Type 0 where
  pub trip : Trip b i a buffer r before early late
  pub free : locked (after b (sent_back before early buffer late)).core.registers ≡ false

abbrev pub RoundTrip : Type 0
RoundTrip =
    (b : Box) (i : Which) (a buffer : Text) (before early late h : List Event)
    → Premises b i a buffer (taken_from b before early buffer) before early late
    → Recut h (sent_back before early buffer late ++ newline ∷ [])
    → Back (after b before) (after b (sent_back before early buffer late)) (after b h)

pub record Demand2 : Type 0 where
  pub limits : WithinLimits
  pub text : TextWithinLimits
  pub range : WithinRange
  pub resets : ResetsOnly
  pub clears : ClearsOnly
  pub parts : InParts
  pub pieces : InAnyPieces
  pub answered : Answered
  pub round_trip : RoundTrip
