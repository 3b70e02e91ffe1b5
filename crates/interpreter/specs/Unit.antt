-- Checks 1 to 7 on one unit. They see the settings, the path and the unit's bytes, and nothing else of the box. The lock and check 8
-- come after them: see Perform.permitted.
use Rattle.std.specs.Prelude.{Bool, not, ◌&&◌, ◌||◌, List, [], ◌∷◌, ℕ, leb, length}
use Rattle.registers.specs.Text.{Text, white, visible, printable, every, start, after}
use Rattle.registers.specs.Check.{Checked, passed, ◌>>=◌, ◌>>◌, check}
use Rattle.registers.specs.Queue.{among, may_be_queued}
use Rattle.registers.specs.Label.{text_in}
use Rattle.registers.specs.declared.settings.Settings.{Settings}
use Rattle.interpreter.specs.Cuts.{trim}
use Rattle.interpreter.specs.Header.{header, full_names, path_after, is_common}
use Rattle.interpreter.specs.Rows.{find_role}
use Rattle.interpreter.specs.Parameter.{parameters, none_empty, least, greatest, deed_of}
use Rattle.interpreter.specs.declared.deed.Deed.{Deed}

-- the numbers that a unit can be refused by: all that 01 and 02 put into the queue but -350, which a full queue makes, -363 and -410, which
-- are a newline's, and -420, which is a take's
abbrev pub raisable : ℕ → Bool
raisable n = may_be_queued n && not (among n (350 ∷ 363 ∷ 410 ∷ 420 ∷ []))

-- what a unit asks for, the text that it gives where its row takes one (02, #109), and the path that it leaves
pub record Read : Type 0 where
  pub deed : Deed
  pub text : Text
  pub path : List Text

-- check 2: "White space around a unit .. is skipped; the header runs to the first white space"
abbrev pub header_text : Text → Text
header_text u = start visible (after white u)

abbrev pub parameter_text : Text → Text
parameter_text u = trim (after visible (after white u))

-- check 1: "a byte that is neither white space nor 33 to 126"
abbrev pub allowed : ℕ → Bool
allowed b = white b || printable b

-- the checks in 01's order: 1, 2, 3, 4, then 5 to 7 in deed_of
unfoldable pub read_unit : Settings → List Text → Text → Checked Read
read_unit s path u =
    check 101 (every allowed u) >>
    header (header_text u) >>= λ h.
    let ps = parameters (parameter_text u) in
    check 102 (none_empty ps) >>
    find_role (is_common h.place) (full_names h.place path h.names) h.query >>= λ r.
    check 108 (leb (length ps) (greatest r h.query)) >>
    check 109 (leb (least r h.query) (length ps)) >>
    deed_of s r h.query ps >>= λ d.
    passed (record { deed = d; text = text_in (parameter_text u); path = path_after h.place path h.names })
