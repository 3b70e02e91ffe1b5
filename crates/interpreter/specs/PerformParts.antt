-- What the functions that perform a deed say. Nothing of 01 is defined here: see Perform.antt.
use Rattle.std.specs.Prelude.{◌≡◌, ◌≤◌}
use Rattle.registers.specs.Text.{Text}
use Rattle.registers.specs.Settings.{with_value, with_text, at_reset}
use Rattle.registers.specs.Status.{Registers, Trouble, registers_of, trouble_of, no_trouble, completed, stored_in, set_read, all_read}
use Rattle.registers.specs.Queue.{most}
use Rattle.registers.specs.declared.settings.Settings.{Settings}
use Rattle.registers.specs.declared.status.Status.{Status}
use Rattle.interpreter.specs.UnitParts.{Allowed}
use Rattle.interpreter.specs.Perform.{after_inquiry}
use Rattle.interpreter.specs.declared.deed.Deed.{Deed}
use Rattle.interpreter.specs.declared.deed.Deed.TheVariants.{Change, Complete, Clear, Query, Inquire, Saving}
use Rattle.interpreter.specs.declared.deed.Change as changes
use Rattle.interpreter.specs.declared.deed.Change.TheVariants.{Nothing as no_change, Put, Reset, Store, Label}
use Rattle.interpreter.specs.declared.deed.Query as queries
use Rattle.interpreter.specs.declared.deed.Query.TheVariants.{Identity as identity, SelfTest, Completed, Limit, Value, Stored, Condition, SetEvents, Label as label_asked}
use Rattle.interpreter.specs.declared.present.Present.{Present}

-- ---- what a deed leaves of settings, registers and trouble; *SAV and *RCL are carried out elsewhere

abbrev pub settings_changed : changes.Change → Text → Settings → Settings
settings_changed no_change t s = s
settings_changed (Put i v side) t s = with_value i v s
settings_changed Reset t s = at_reset
settings_changed (Store x n side) t s = s
settings_changed Label t s = with_text t s

abbrev pub settings_left : Deed → Text → Settings → Settings
settings_left (Change x) t s = settings_changed x t s
settings_left Complete t s = s
settings_left Clear t s = s
settings_left (Query q) t s = s
settings_left (Inquire q) t s = s
settings_left (Saving x p) t s = s

abbrev pub registers_changed : changes.Change → Registers → Registers
registers_changed no_change r = r
registers_changed (Put i v side) r = r
registers_changed Reset r = r
registers_changed (Store x n side) r = stored_in x n r
registers_changed Label r = r

abbrev pub registers_asked : queries.Query → Registers → Registers
registers_asked identity r = r
registers_asked SelfTest r = r
registers_asked Completed r = r
registers_asked (Limit i v) r = r
registers_asked (Value i) r = r
registers_asked (Stored x) r = r
registers_asked (Condition x) r = r
registers_asked (SetEvents x) r = set_read x r
registers_asked label_asked r = r

abbrev pub registers_left : Deed → Registers → Registers
registers_left (Change x) r = registers_changed x r
registers_left Complete r = r
registers_left Clear r = all_read r
registers_left (Query q) r = registers_asked q r
registers_left (Inquire q) r = r
registers_left (Saving x p) r = r

abbrev pub trouble_left : Deed → Trouble → Trouble
trouble_left (Change x) t = t
trouble_left Complete t = completed t
trouble_left Clear t = no_trouble
trouble_left (Query q) t = t
trouble_left (Inquire q) t = after_inquiry q t
trouble_left (Saving x p) t = t

pub record StatusLeft (d : Deed) (s r : Status) : Type 0 where
  pub registers : (c : Settings) → Allowed c d → registers_of r ≡ registers_left d (registers_of s)
  pub trouble : trouble_of r ≡ trouble_left d (trouble_of s)
  pub queued : r.queued ≤ most

-- what a deed leaves, but for the answer
pub record After (d : Deed) (t : Text) (p r : Present) : Type 0 where
  pub settings : r.settings ≡ settings_left d t p.settings
  pub status : StatusLeft d p.status r.status
