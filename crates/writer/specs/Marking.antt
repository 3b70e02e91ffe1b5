-- The marker's session as it comes in, byte by byte: how far it is marked, what a byte adds, and what is found at the end. Session.antt says what
-- a session's verdict is; `MarksSession` below says that what is found is that verdict, however the session is cut.
use Rattle.std.specs.Prelude.{◌≡◌, Bool, true, false, ◌&&◌, ℕ, ◌+◌, ◌≤◌, ◌<◌, eqb, ltb, leb, length, take, drop, get_or, Option, Some, None, unwrap_or}
use mathlib.Core.List.{List, [], ◌∷◌, ◌++◌, flatten}
use Prim.Native.Char.{code}
use Rattle.registers.specs.Text.{Text, if◌then◌otherwise◌, empty}
use Rattle.interpreter.specs.Box.{Box, memory, blank, answer_is, store_size, most_answer}
use Rattle.interpreter.specs.Events.{received, happens}
use Rattle.interpreter.specs.State.{box_of, possible_state, Started}
use Rattle.writer.specs.Session.{Verdict, agree, differs, broken, verdict_on}
use Rattle.writer.specs.declared.session.Stage.{Stage}
use Rattle.writer.specs.declared.session.Stage.TheVariants.{Fresh, Sending, Finding, Differing, Stopped}
use Rattle.writer.specs.declared.session.Report.{Report}
use Rattle.writer.specs.declared.session.Report.TheVariants.{Agree, Differs, Broken, Refused}
use Rattle.writer.specs.declared.session.Place.{Place}
use Rattle.writer.specs.declared.session.Marker.{Marker}

-- ---- how far a session is marked

pub record Progress : Type 0 where
  pub box : Box  -- after all bytes that were sent so far, each answer taken
  pub room : Text  -- its first bytes are the answer to the last line sent, until it is found in the record
  pub place : Place

-- nothing has come
abbrev pub at_start : Place
at_start = record { stage = Fresh; number = 0; sent = None; waiting = 0 }

abbrev pub begun_at : Place → Stage → Option ℕ → Place
begun_at q stage sent = record { stage = stage; number = q.number + 1; sent = sent; waiting = q.waiting }

-- the first byte of a line: "`>` before each sent line and `<` before each answer"; "an answer on one side only differs"; "at an empty line or
-- another first byte it reports a broken record"
unfoldable pub line_begun : Place → ℕ → Place
line_begun q x =
    if eqb x (code "<") then begun_at q (Finding 0) q.sent
    otherwise (if eqb x (code ">")
    then (if eqb q.waiting 0 then begun_at q Sending (Some (q.number + 1)) otherwise begun_at q Differing q.sent)
    otherwise begun_at q Stopped q.sent)

-- a part of a line that is sent: an answer of so many bytes waits, and the line has ended or goes on
unfoldable pub place_sent : Place → ℕ → Bool → Place
place_sent q n ended = record { stage = if ended then Fresh otherwise q.stage; number = q.number; sent = q.sent; waiting = n }

-- the box receives it, and an answer that then waits is taken to the start of the room
unfoldable pub part_sent : Progress → Text → Bool → Progress
part_sent p bytes ended =
    let b = (happens p.box (received bytes)).box in
    let a = b.core.answer in
    record { box = answer_is [] b; room = a ++ drop (length a) p.room; place = place_sent p.place (length a) ended }

abbrev pub found_so : Place → Stage → ℕ → Place
found_so q stage waiting = record { stage = stage; number = q.number; sent = q.sent; waiting = waiting }

-- a byte of a recorded answer, of which so many were found: the box's has it next; with the newline both end
unfoldable pub place_found : Place → ℕ → Text → ℕ → Place
place_found q n room x =
    if ltb n q.waiting && eqb (get_or room n 0) x
    then (if eqb x 10 then (if eqb (n + 1) q.waiting then found_so q Fresh 0 otherwise found_so q Differing q.waiting)
    otherwise found_so q (Finding (n + 1)) q.waiting)
    otherwise found_so q Differing q.waiting

abbrev pub placed : Progress → Place → Progress
placed p q = record { box = p.box; room = p.room; place = q }

-- a byte of the session, by the stage
unfoldable pub byte_at : Stage → Progress → ℕ → Progress
byte_at Fresh p x = placed p (line_begun p.place x)
byte_at Sending p x = part_sent p (x ∷ []) (eqb x 10)
byte_at (Finding n) p x = placed p (place_found p.place n p.room x)
byte_at Differing p x = p
byte_at Stopped p x = p

abbrev pub byte_read : Progress → ℕ → Progress
byte_read p x = byte_at p.place.stage p x

unfoldable pub fed : Progress → Text → Progress
fed p [] = p
fed p (x ∷ xs) = fed (byte_read p x) xs

-- a line was begun and hasn't ended
abbrev pub left_open : Stage → Bool
left_open Fresh = false
left_open Sending = true
left_open (Finding n) = true
left_open Differing = false
left_open Stopped = false

-- "a last line without newline counts" (READINGS)
unfoldable pub closed : Progress → Progress
closed p = if left_open p.place.stage then byte_read p 10 otherwise p

-- ---- what is found

-- at a place where no line is left open
unfoldable pub report_of : Stage → Place → Report
report_of Fresh q = if eqb q.waiting 0 then Agree q.number otherwise Differs (unwrap_or q.sent 0) (q.number + 1) q.waiting
report_of Differing q = Differs (unwrap_or q.sent q.number) q.number q.waiting
report_of _ q = Broken q.number

abbrev pub report_at : Place → Report
report_at q = report_of q.stage q

-- a report as a verdict: the box's answer stands at the start of the room. A marker that was refused marks nothing: line 0 is no line
abbrev pub verdict_of : Report → Text → Verdict
verdict_of (Agree n) room = agree n
verdict_of (Differs n j waiting) room = differs n j (take waiting room)
verdict_of (Broken n) room = broken n
verdict_of Refused room = broken 0

-- ---- what the functions say

-- what a marker means, with the store and the room that are lent to it
abbrev pub progress_of : Marker → Text → Text → Progress
progress_of m store room = record { box = box_of m.state (memory store); room = room; place = m.place }

abbrev pub most_lines : ℕ
most_lines = 9223372036854775808

-- its box is possible and has no answer of its own, the room holds the answer that waits
unfoldable pub sound_marker : Marker → Bool
sound_marker m = possible_state m.state && (empty (take m.state.waiting m.state.answer) && leb m.place.waiting most_answer)

-- and its lines can be counted
unfoldable pub possible_marker : Marker → Bool
possible_marker m = sound_marker m && ltb m.place.number most_lines

-- the lengths of what is lent are those of its types
pub record Lent (store room : Text) : Type 0 where
  pub sized : length store ≡ store_size
  pub wide : length room ≡ most_answer

pub record Begun (m : Marker) : Type 0 where
  pub started : Started m.state
  pub place : m.place ≡ at_start
  pub possible : possible_marker m ≡ true

-- a piece was fed; a marker that can't be is handed back, and nothing that is lent changes
pub record Fed (m : Marker) (store room bytes : Text) (r : Marker) (store' room' : Text) : Type 0 where
  pub possible : Lent store room → possible_marker m ≡ true
      → (progress_of r store' room' ≡ fed (progress_of m store room) bytes)
      × (sound_marker r ≡ true)
      × (r.place.number ≤ m.place.number + length bytes)
      × Lent store' room'
  pub impossible : Lent store room → possible_marker m ≡ false → (r ≡ m) × (store' ≡ store) × (room' ≡ room)

-- a session was ended
pub record Finished (m : Marker) (store room : Text) (r : Report) (store' room' : Text) : Type 0 where
  pub possible : Lent store room → possible_marker m ≡ true
      → let p = closed (progress_of m store room) in (r ≡ report_at p.place) × (room' ≡ p.room) × (memory store' ≡ p.box.core.memory)
  pub impossible : Lent store room → possible_marker m ≡ false → (r ≡ Refused) × (store' ≡ store) × (room' ≡ room)

-- ---- a session in pieces

-- calls one after the other, known by their promises alone
pub data Feeds : Marker → Text → Text → List Text → Marker → Text → Text → Type 0 where
  none : {m : Marker} {store room : Text} → Feeds m store room [] m store room
  more : {m n r : Marker} {store room store₁ room₁ store₂ room₂ bytes : Text} {pieces : List Text}
      → Fed m store room bytes n store₁ room₁ → Feeds n store₁ room₁ pieces r store₂ room₂ → Feeds m store room (bytes ∷ pieces) r store₂ room₂

-- the report is the session's verdict, whatever pieces it came in, from a store of zeros; it has fewer than 2^63 bytes
abbrev pub MarksSession : Type 0
MarksSession = (m n : Marker) (store room store₁ room₁ store₂ room₂ : Text) (pieces : List Text) (r : Report)
    → Begun m → store ≡ blank.store → length room ≡ most_answer → length (flatten pieces) < most_lines
    → Feeds m store room pieces n store₁ room₁ → Finished n store₁ room₁ r store₂ room₂
    → verdict_of r room₂ ≡ verdict_on (flatten pieces)
