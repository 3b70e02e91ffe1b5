-- 02, #114, "Line writer": "takes present and wanted settings of channel 1 or 2 and writes into a lent buffer one line for each setting that
-- differs". The settings of a channel are its thirteen and the single ones; those of the other channel stay.
use Rattle.std.specs.Prelude.{◌≡◌, Bool, true, false, not, ◌&&◌, ◌||◌, List, [], ◌∷◌, ◌++◌, ℕ, zero, suc, ◌<◌, eqb, leb, length, take, drop, ℤ, Ok, Err, Result as Outcome}
use Prim.Native.Char.{code}
use Rattle.std.specs.Int.Signed.{lt_z}
use Rattle.registers.specs.Text.{Text, if◌then◌otherwise◌, bytes, same, empty}
use Rattle.registers.specs.Label.{quoted_text}
use Rattle.registers.specs.Check.{Checked, refused, passed}
use Rattle.registers.specs.Words.{Node, must, may, short_form}
use Rattle.registers.specs.Settings.{table_count, voltage, range, exam, second, setting_at, kind_of, value_at, with_value, displayed, AsLong, wide_range, possible_settings, answer_of}
use Rattle.registers.specs.Status.{locked}
use Rattle.registers.specs.declared.settings.Settings.{Settings}
use Rattle.interpreter.specs.Header.{numbered}
use Rattle.interpreter.specs.Rows.{second_of}
use Rattle.interpreter.specs.Box.{Memory, Box, box, with_settings}
use Rattle.interpreter.specs.Line.{interrupted, piece}
use Rattle.interpreter.specs.Events.{Event, received, Result, result_of}
use Rattle.interpreter.specs.Histories.{Recut}
use Rattle.interpreter.specs.State.{box_of, possible_state}
use Rattle.interpreter.specs.Calls.{Calls}
use Rattle.interpreter.specs.declared.state.State.{State}
use Rattle.interpreter.specs.Demand3.{Fresh}
use Rattle.writer.specs.declared.lines.Refusal.{Refusal}
use Rattle.writer.specs.declared.lines.Refusal.TheVariants.{NotWritable, BufferTooShort}

-- "refused with number 6", "with number 7"
abbrev pub refusal_number : Refusal → ℕ
refusal_number NotWritable = 6
refusal_number (BufferTooShort n) = 7

abbrev pub number_of : Outcome ℕ Refusal → ℕ
number_of (Ok n) = 0
number_of (Err e) = refusal_number e

-- the length of the lines; 7 tells the needed length
abbrev pub length_told : Refusal → ℕ
length_told NotWritable = 0
length_told (BufferTooShort n) = n

abbrev pub length_of : Outcome ℕ Refusal → ℕ
length_of (Ok n) = n
length_of (Err e) = length_told e

-- ---- one line

-- a setting's header: the short forms of the nodes that can't be left out, with a number behind the node that takes one
unfoldable pub short_names : Text → List Node → List Text
short_names number [] = []
short_names number (must w ∷ nodes) = (if numbered w then short_form w ++ number otherwise short_form w) ∷ short_names number nodes
short_names number (may w ∷ nodes) = short_names number nodes

unfoldable pub joined_names : List Text → Text
joined_names [] = []
joined_names (x ∷ []) = x
joined_names (x ∷ y ∷ names) = x ++ code ":" ∷ joined_names (y ∷ names)

-- "none meaning 1"
unfoldable pub header_for : ℕ → Text
header_for i = joined_names (short_names (if second i then bytes "2" otherwise []) (setting_at i).nodes)

-- the line that gives a setting a value, as the setting's query answers it
unfoldable pub line_for : ℕ → ℤ → Text
line_for i v = header_for i ++ (code " " ∷ answer_of (kind_of i) v ++ 10 ∷ [])

-- ---- all lines

abbrev pub differs : Settings → Settings → ℕ → Bool
differs p w i = lt_z (value_at p i) (value_at w i) || lt_z (value_at w i) (value_at p i)

-- the slot of a row of 01's table on a channel; a single setting has the same on both
abbrev pub own_slot : Checked ℕ → ℕ → ℕ
own_slot (refused n) row = row
own_slot (passed i) row = i

unfoldable pub slot_of : ℕ → ℕ → ℕ
slot_of channel row = if eqb channel 2 then own_slot (second_of row) row otherwise row

-- "range and voltage in an order that is never refused": to range R24V the range comes first, to R12V the voltage, as in 01's table
unfoldable pub row_at : Bool → ℕ → ℕ
row_at wide n = if wide && eqb n voltage then range otherwise (if wide && eqb n range then voltage otherwise n)

-- by the channel's own range
abbrev pub slot_at : Settings → ℕ → ℕ → ℕ
slot_at w channel n = slot_of channel (row_at (wide_range w (slot_of channel range)) n)

abbrev pub line_at : Settings → Settings → ℕ → Text
line_at p w i = if differs p w i then line_for i (value_at w i) otherwise []

-- those of the first n rows, in that order
unfoldable pub lines_to : Settings → Settings → ℕ → ℕ → Text
lines_to p w channel zero = []
lines_to p w channel (suc n) = lines_to p w channel n ++ line_at p w (slot_at w channel n)

-- the display's text (02, #109) is a single setting too: its header, and the text as its query answers it
abbrev pub label_header : Text
label_header = bytes "DISP:TEXT"

unfoldable pub label_for : Text → Text
label_for t = label_header ++ (code " " ∷ quoted_text t ++ 10 ∷ [])

abbrev pub label_line : Settings → Settings → Text
label_line p w = if same p.text w.text then [] otherwise label_for (displayed w)

-- "one line for each setting that differs"
abbrev pub lines_for : Settings → Settings → ℕ → Text
lines_for p w channel = lines_to p w channel table_count ++ label_line p w

-- ---- what the writer does

-- "Another channel, settings outside their limits or range, or two different exam modes are refused with number 6". Both records are tested whole,
-- the other channel's settings too
unfoldable pub writable : Settings → Settings → ℕ → Bool
writable p w channel = (eqb channel 1 || eqb channel 2) && (possible_settings p && (possible_settings w && not (differs p w exam)))

-- "A buffer too short is refused with number 7"; 7 tells the needed length
abbrev pub copied : Text → Text → Result
copied t buffer = if leb (length t) (length buffer) then result_of 0 (length t) (t ++ drop (length t) buffer) otherwise result_of 7 (length t) buffer

-- "tested after 6; both leave the buffer unchanged"
unfoldable pub written : Settings → Settings → ℕ → Text → Result
written p w channel buffer = if writable p w channel then copied (lines_for p w channel) buffer otherwise result_of 6 0 buffer

-- ---- what its lines do

-- where they run: "at the start of a line, from the present settings and with no lock bit set"
pub record Ready (p : Settings) (b : Box) : Type 0 where
  pub fresh : Fresh b.core
  pub present : b.core.settings ≡ p
  pub free : locked b.core.registers ≡ false

-- settings are as long as their type says
abbrev pub Whole : Settings → Type 0
Whole s = AsLong s

-- an answer that waits is discarded by the first line, as any line does
abbrev pub discarded : Text → Box → Box
discarded t b = if empty t then b otherwise interrupted b

-- the present settings, but each of the channel's first n rows as it is wanted
unfoldable pub aimed_to : Settings → Settings → ℕ → ℕ → Settings
aimed_to p w channel zero = p
aimed_to p w channel (suc n) = let i = slot_of channel n in with_value i (value_at w i) (aimed_to p w channel n)

-- and the text
abbrev pub aimed : Settings → Settings → ℕ → Settings
aimed p w channel = record { values = (aimed_to p w channel table_count).values; text = w.text }

-- "the lines lead exactly to the wanted ones": the channel's settings are the wanted ones, and nothing else is changed. So none of the lines is
-- refused, and where no answer waits no error is raised
abbrev pub led_to : Settings → Text → Box → Box
led_to s t b = let c = discarded t b in box (with_settings s c.core) c.trouble

abbrev pub Leads : Type 0
Leads = (p w : Settings) (channel : ℕ) → Whole p → Whole w → writable p w channel ≡ true
    → (b : Box) → Ready p b → piece b (lines_for p w channel) ≡ led_to (aimed p w channel) (lines_for p w channel) b

-- the same of calls, known by their promises alone: what `write` left in its buffer is handed to the box, in any pieces
abbrev pub LeadsOfCalls : Type 0
LeadsOfCalls = (p w : Settings) (channel : ℕ) (buffer left : Text) (n : ℕ) → Whole p → Whole w → result_of 0 n left ≡ written p w channel buffer
    → (s t : State) (m k : Memory) (es : List Event) (rs : List Result) → possible_state s ≡ true → Ready p (box_of s m)
    → Calls t k s m es rs → Recut es (received (take n left) ∷ [])
    → box_of t k ≡ led_to (aimed p w channel) (take n left) (box_of s m)

-- what they aim at, setting by setting: the channel's have their wanted values, and all others stay
pub record Aims (p w : Settings) (channel : ℕ) : Type 0 where
  pub own : (row : ℕ) → row < table_count → value_at (aimed p w channel) (slot_of channel row) ≡ value_at w (slot_of channel row)
  pub text : displayed (aimed p w channel) ≡ displayed w
  pub others : (i : ℕ) → ((row : ℕ) → row < table_count → i ≡ slot_of channel row → ⊥) → value_at (aimed p w channel) i ≡ value_at p i

abbrev pub AimsRight : Type 0
AimsRight = (p w : Settings) (channel : ℕ) → Whole p → Aims p w channel

pub record LinesLead : Type 0 where
  pub histories : Leads
  pub calls : LeadsOfCalls
  pub aims : AimsRight
