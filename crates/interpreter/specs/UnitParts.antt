-- What the unit reader's own functions say. Nothing of 01 is defined here: see Unit.antt.
use Rattle.std.specs.Prelude.{◌≡◌, Bool, true, List, ℕ, ◌≤◌, ◌<◌, leb, length, Result, Ok, Err}
use Rattle.registers.specs.Text.{Text, if◌then◌otherwise◌, every}
use Rattle.registers.specs.Check.{Checked, refused, passed, ◌>>=◌, ◌>>◌, check}
use Rattle.registers.specs.Error.{number_of}
use Rattle.registers.specs.declared.error.Error.{Error}
use Rattle.registers.specs.Settings.{count, within, accepted}
use Rattle.registers.specs.Label.{most_text, may_stand, text_in}
use Rattle.registers.specs.Status.{widest}
use Rattle.registers.specs.declared.settings.Settings.{Settings}
use Rattle.interpreter.specs.Parameter.{parameters, none_empty, least, greatest, deed_of}
use Rattle.interpreter.specs.DeedParts.{role_at}
use Rattle.interpreter.specs.HeaderParts.{IsPath}
use Rattle.interpreter.specs.Unit.{allowed, read_unit}
use Rattle.interpreter.specs.declared.deed.Deed.{Deed}
use Rattle.interpreter.specs.declared.deed.Deed.TheVariants.{Change as change, Complete, Clear, Query as query, Inquire, Saving}
use Rattle.registers.specs.Setup.{places}
use Rattle.interpreter.specs.declared.deed.Change.{Change}
use Rattle.interpreter.specs.declared.deed.Change.TheVariants.{Nothing, Put, Reset, Store, Label as labelled}
use Rattle.interpreter.specs.declared.deed.Query.{Query}
use Rattle.interpreter.specs.declared.deed.Query.TheVariants.{Identity, SelfTest, Completed, Limit, Value, Stored, Condition, SetEvents, Label as label_asked}
use Rattle.interpreter.specs.declared.deed.Role.{Role}
use Rattle.interpreter.specs.declared.unit.Reading.{Reading}
use Rattle.interpreter.specs.declared.path.Path.{Path}

-- the role of the place that a search found, if it found one
unfoldable pub role_found : Checked ℕ → Checked Role
role_found place = place >>= λ i. passed (role_at i)

-- the checks after the header
unfoldable pub decided : Settings → Checked ℕ → Bool → Text → Checked Deed
decided s place asked t =
    check 102 (none_empty (parameters t)) >>
    role_found place >>= λ r.
    check 108 (leb (length (parameters t)) (greatest r asked)) >>
    check 109 (leb (least r asked) (length (parameters t))) >>
    deed_of s r asked (parameters t)

-- check 1 on the text after a header, and then those
unfoldable pub decided_text : Settings → Checked ℕ → Bool → Text → Checked Deed
decided_text s place asked t = check 101 (every allowed t) >> decided s place asked t

-- checks 1 and 2 on a unit that starts with no header
unfoldable pub header_refusal : Text → ℕ
header_refusal u = if every allowed u then 102 otherwise 101

-- a unit is accepted: it leaves its deed, a path, and the text that its parameter gives
pub record Accepted (s : Settings) (path : List Text) (u : Text) (r : Reading) (p : Path) : Type 0 where
  pub left : List Text
  pub is : read_unit s path u ≡ passed (record { deed = r.deed; text = text_in r.given.now; path = left })
  pub holds : IsPath left p

-- a unit is refused by an error's number, or accepted
abbrev pub UnitRead : Settings → List Text → Text → Result Reading Error → Path → Type 0
UnitRead s path u (Err e) p = read_unit s path u ≡ refused (number_of e)
UnitRead s path u (Ok r) p = Accepted s path u r p

-- ---- what a unit that was read asks for: what it stores is within its limits and, in exam mode, on the step, and the settings
-- that it names are there

abbrev pub AllowedChange : Settings → Change → Type 0
AllowedChange s Nothing = Unit {0}
AllowedChange s (Put i v x) = (i < count) × (within s i v ≡ true) × (accepted s x ≡ true)
AllowedChange s Reset = Unit {0}
AllowedChange s (Store x n side) = n ≤ widest x
AllowedChange s labelled = Unit {0}

abbrev pub AllowedQuery : Query → Type 0
AllowedQuery Identity = Unit {0}
AllowedQuery SelfTest = Unit {0}
AllowedQuery Completed = Unit {0}
AllowedQuery (Limit i v) = i < count
AllowedQuery (Value i) = i < count
AllowedQuery (Stored x) = Unit {0}
AllowedQuery (Condition x) = Unit {0}
AllowedQuery (SetEvents x) = Unit {0}
AllowedQuery label_asked = Unit {0}

abbrev pub Allowed : Settings → Deed → Type 0
Allowed s (change c) = AllowedChange s c
Allowed s Complete = Unit {0}
Allowed s Clear = Unit {0}
Allowed s (query q) = AllowedQuery q
Allowed s (Inquire q) = Unit {0}
Allowed s (Saving x p) = p < places

-- and the text that it stores is within its limits
abbrev pub AllowedLabel : Change → Text → Type 0
AllowedLabel Nothing t = Unit {0}
AllowedLabel (Put i v x) t = Unit {0}
AllowedLabel Reset t = Unit {0}
AllowedLabel (Store x n side) t = Unit {0}
AllowedLabel labelled t = (every may_stand t ≡ true) × (length t ≤ most_text)

abbrev pub AllowedText : Deed → Text → Type 0
AllowedText (change c) t = AllowedLabel c t
AllowedText Complete t = Unit {0}
AllowedText Clear t = Unit {0}
AllowedText (query q) t = Unit {0}
AllowedText (Inquire q) t = Unit {0}
AllowedText (Saving x p) t = Unit {0}
