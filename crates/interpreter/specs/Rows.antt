-- The seventeen settings and "Registers and queue": every header that the box knows, with what it is for; and check 3.
use Rattle.std.specs.Prelude.{Bool, true, false, ◌&&◌, ◌||◌, List, [], ◌∷◌, ◌++◌, ℕ, suc, ◌+◌, ◌-◌, ltb}
use Prim.Native.String.{String}
use Rattle.registers.specs.Text.{Text, if◌then◌otherwise◌, bytes, same, empty, same_bool}
use Rattle.registers.specs.Check.{Checked, refused, passed, ◌>>=◌}
use Rattle.registers.specs.Words.{Node, must, may}
use Rattle.registers.specs.Settings.{Setting, table, table_count}
use Rattle.registers.specs.declared.status.Register.{Register}
use Rattle.registers.specs.declared.status.RegisterSet.{RegisterSet}
use Rattle.registers.specs.declared.status.RegisterSet.TheVariants.{Operation, Lock, Warning}
use Rattle.interpreter.specs.Header.{spells, suffix_in}
use Rattle.interpreter.specs.declared.deed.Role.{Role}
use Rattle.interpreter.specs.declared.deed.Role.TheVariants.{Setting as setting, Register as register, Only, Saving as saving, Label as label}
use Rattle.interpreter.specs.declared.deed.Saving.TheVariants.{Save, Recall}
use Rattle.interpreter.specs.declared.deed.Deed.{Deed}
use Rattle.interpreter.specs.declared.deed.Deed.TheVariants.{Change, Complete, Clear, Query, Inquire, Saving}
use Rattle.interpreter.specs.declared.deed.Change.TheVariants.{Nothing, Reset}
use Rattle.interpreter.specs.declared.deed.Query.TheVariants.{Identity, SelfTest, Completed, Condition, SetEvents}
use Rattle.interpreter.specs.declared.deed.Inquiry.TheVariants.{StandardEvents, StatusByte, NextError}

pub record Row : Type 0 where
  pub star : Bool
  pub nodes : List Node
  pub role : Role

abbrev pub plain : List Node → Role → Row
plain nodes role = record { star = false; nodes = nodes; role = role }

abbrev pub starred : String → Role → Row
starred w role = record { star = true; nodes = must w ∷ []; role = role }

-- the five commands of STATus:OPERation, and of STATus:LOCK and STATus:WARNing (02, #104)
abbrev pub of_set : RegisterSet → String → List Row
of_set x w =
    plain (must "STATus" ∷ must w ∷ must "CONDition" ∷ []) (Only (Query (Condition x)))
    ∷ plain (must "STATus" ∷ must w ∷ may "EVENt" ∷ []) (Only (Query (SetEvents x)))
    ∷ plain (must "STATus" ∷ must w ∷ must "ENABle" ∷ []) (register (Register.Enable x))
    ∷ plain (must "STATus" ∷ must w ∷ must "NTRansition" ∷ []) (register (Register.Ntr x))
    ∷ plain (must "STATus" ∷ must w ∷ must "PTRansition" ∷ []) (register (Register.Ptr x))
    ∷ []

-- "All have a query"
unfoldable pub setting_rows : ℕ → List Setting → List Row
setting_rows i [] = []
setting_rows i (s ∷ ss) = plain s.nodes (setting i) ∷ setting_rows (suc i) ss

-- "Registers and queue", and what 02 adds: *SAV and *RCL (#108), DISPlay:TEXT (#109), and two sets (#104)
unfoldable pub other_rows : List Row
other_rows =
    starred "IDN" (Only (Query Identity))
    ∷ starred "TST" (Only (Query SelfTest))
    ∷ starred "OPC" (Only (Query Completed))
    ∷ starred "WAI" (Only (Change Nothing))
    ∷ starred "OPC" (Only Complete)
    ∷ starred "RST" (Only (Change Reset))
    ∷ starred "CLS" (Only Clear)
    ∷ starred "ESE" (register Register.Ese)
    ∷ starred "SRE" (register Register.Sre)
    ∷ starred "ESR" (Only (Inquire StandardEvents))
    ∷ starred "STB" (Only (Inquire StatusByte))
    ∷ plain (must "SYSTem" ∷ must "ERRor" ∷ []) (Only (Inquire NextError))
    ∷ starred "SAV" (saving Save)
    ∷ starred "RCL" (saving Recall)
    ∷ plain (must "DISPlay" ∷ must "TEXT" ∷ []) label
    ∷ of_set Operation "OPERation" ++ of_set Lock "LOCK" ++ of_set Warning "WARNing"

unfoldable pub rows : List Row
rows = setting_rows 0 table ++ other_rows

-- a query of settings and registers, or one of *ESR?, *STB? and SYSTem:ERRor?
abbrev pub is_query : Deed → Bool
is_query (Change x) = false
is_query Complete = false
is_query Clear = false
is_query (Query q) = true
is_query (Inquire q) = true
is_query (Saving x p) = false

-- "a query or a setting form the row lacks"
abbrev pub has_form : Bool → Role → Bool
has_form asked (setting i) = true
has_form asked (register r) = true
has_form asked label = true
has_form asked (Only d) = same_bool asked (is_query d)
has_form asked (saving x) = same_bool asked false

unfoldable pub fits_row : Bool → List Text → Bool → Row → Bool
fits_row star names asked r = same_bool star r.star && (has_form asked r.role && spells r.nodes names)

-- check 3: "-113 is raised exactly when no row .. spells the header"
unfoldable pub find_row : Bool → List Text → Bool → List Row → Checked Role
find_row star names asked [] = refused 113
find_row star names asked (r ∷ rs) = if fits_row star names asked r then passed r.role otherwise find_row star names asked rs

-- ---- the channel (02, #111): "The thirteen rows of that kind exist per channel; monitor mode (a suffix 2 there is -114) .. stay single"

-- the rows that part them: monitor mode, and the first after the channel's
abbrev pub monitor : ℕ
monitor = 3

abbrev pub brightness : ℕ
brightness = 14

-- the slot of a row on channel 2, where it has one: they stand after the table in its order, without monitor mode
unfoldable pub second_of : ℕ → Checked ℕ
second_of i =
    if ltb i monitor then passed (i + table_count)
    otherwise (if ltb monitor i && ltb i brightness then passed (i + (table_count - 1)) otherwise refused 114)

abbrev pub on_second : Role → Checked Role
on_second (setting i) = second_of i >>= λ j. passed (setting j)
on_second (register r) = refused 114
on_second (Only d) = refused 114
on_second (saving x) = refused 114
on_second label = refused 114

-- "a numeric suffix 1 or 2 .., none meaning 1"; "other suffixes there give -114"
unfoldable pub on_channel : Text → Role → Checked Role
on_channel t r = if empty t || same t (bytes "1") then passed r otherwise (if same t (bytes "2") then on_second r otherwise refused 114)

-- check 3: the row, "-113", and then the channel, "-114 in check 3, if the header without them spells a row"
unfoldable pub find_role : Bool → List Text → Bool → Checked Role
find_role star names asked = find_row star names asked rows >>= on_channel (suffix_in names)
