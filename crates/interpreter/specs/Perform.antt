-- The seventeen settings and "Registers and queue": what a unit that passed checks 1 to 7 does to the box, with the lock and check 8
-- before it. Check 9 is in Reply.antt.
use Rattle.std.specs.Prelude.{Bool, true, false, not, ◌&&◌, ◌||◌, ℕ, eqb, pos}
use Rattle.std.specs.Int.Signed.{le_z}
use Rattle.registers.specs.Text.{Text}
use Rattle.registers.specs.Check.{Checked, passed, ◌>>=◌, ◌>>◌, check}
use Rattle.registers.specs.Settings.{output, output2, with_value, with_text, at_reset, conflict}
use Rattle.registers.specs.Status.{locked, Trouble, no_trouble, completed, events_read, oldest_read, set_read, all_read, stored_in}
use Rattle.registers.specs.declared.settings.Settings.{Settings}
use Rattle.registers.specs.declared.status.RegisterSet.{RegisterSet}
use Rattle.registers.specs.Setup.{settings_in, recallable, block_at, saved_at}
use Rattle.interpreter.specs.Box.{with_store, Core, Box, box, with_settings, with_registers, with_memory}
use Rattle.interpreter.specs.Reply.{reply_to, inquiry_reply, reply}
use Rattle.interpreter.specs.declared.deed.Deed.{Deed}
use Rattle.interpreter.specs.declared.deed.Deed.TheVariants.{Change, Complete, Clear, Query, Inquire, Saving}
use Rattle.interpreter.specs.declared.deed.Change as changes
use Rattle.interpreter.specs.declared.deed.Change.TheVariants.{Nothing, Put, Reset, Store, Label}
use Rattle.interpreter.specs.declared.deed.Saving as savings
use Rattle.interpreter.specs.declared.deed.Saving.TheVariants.{Save, Recall}
use Rattle.interpreter.specs.declared.deed.Query as queries
use Rattle.interpreter.specs.declared.deed.Query.TheVariants.{Identity, SelfTest, Completed, Limit, Value, Stored, Condition, SetEvents, Label as label_asked}
use Rattle.interpreter.specs.declared.deed.Inquiry as inquiries
use Rattle.interpreter.specs.declared.deed.Inquiry.TheVariants.{StandardEvents, StatusByte, NextError}

-- ---- changes: a setting, *RST ("the settings only"), a register; *WAI does nothing. The display's text (02, #109) goes beside the change. What was rounded off a number is told with it
-- (02, #107) and changes nothing

unfoldable pub changed : changes.Change → Text → Core → Core
changed Nothing t c = c
changed (Put i v x) t c = with_settings (with_value i v c.settings) c
changed Reset t c = with_settings at_reset c
changed (Store r n x) t c = with_registers (stored_in r n c.registers) c
changed Label t c = with_settings (with_text t c.settings) c

-- ---- the lock (02, #105), then check 8

-- OUTPut[:STATe] of a channel (02, #111)
abbrev pub is_output : ℕ → Bool
is_output i = eqb i output || eqb i output2

-- what it blocks: "every setting command and *RST", and by 02 (#108) *SAV and *RCL, "before -314"; "Queries, *CLS, the register commands and OUTPut 0 still work". Off is 0, and check 7
-- lets nothing below it pass
abbrev pub blocked_change : changes.Change → Bool
blocked_change Nothing = false
blocked_change (Put i v x) = not (is_output i && le_z v (pos 0))
blocked_change Reset = true
blocked_change (Store r n x) = false
blocked_change Label = true

abbrev pub blocked : Deed → Bool
blocked (Change x) = blocked_change x
blocked Complete = false
blocked Clear = false
blocked (Query q) = false
blocked (Inquire q) = false
blocked (Saving x p) = true

-- check 8: "range R12V while the voltage is above 12.0"
abbrev pub conflicting_change : changes.Change → Settings → Bool
conflicting_change Nothing s = false
conflicting_change (Put i v x) s = conflict s i v
conflicting_change Reset s = false
conflicting_change (Store r n x) s = false
conflicting_change Label s = false

abbrev pub conflicting : Deed → Settings → Bool
conflicting (Change x) s = conflicting_change x s
conflicting Complete s = false
conflicting Clear s = false
conflicting (Query q) s = false
conflicting (Inquire q) s = false
conflicting (Saving x p) s = false

-- "While any lock condition bit is 1, every setting command and *RST is refused with -221 after its value checks and before check 8"
unfoldable pub permitted : Deed → Core → Checked (Unit {0})
permitted d c = check 221 (not (blocked d && locked c.registers)) >> check 221 (not (conflicting d c.settings))

-- ---- what a query leaves: "Reading .. the event register clears it"

abbrev pub set_cleared : RegisterSet → Core → Core
set_cleared x c = with_registers (set_read x c.registers) c

-- "*CLS clears all three event registers" (02, #104)
abbrev pub all_cleared : Core → Core
all_cleared c = with_registers (all_read c.registers) c

abbrev pub after_query : queries.Query → Core → Core
after_query Identity c = c
after_query SelfTest c = c
after_query Completed c = c
after_query (Limit i v) c = c
after_query (Value i) c = c
after_query (Stored r) c = c
after_query (Condition x) c = c
after_query (SetEvents x) c = set_cleared x c
after_query label_asked c = c

-- *ESR? clears what it reads, *STB? changes nothing, SYSTem:ERRor? "removes the oldest"
abbrev pub after_inquiry : inquiries.Inquiry → Trouble → Trouble
after_inquiry StandardEvents t = events_read t
after_inquiry StatusByte t = t
after_inquiry NextError t = oldest_read t

-- ---- *SAV and *RCL (02, #108). *SAV writes all settings to its block of the store; "*RCL of a block whose check fails, that is all zero, or
-- whose settings break a limit or the range, raises -314 and changes no setting", and of any other it sets all at once, without check 8

unfoldable pub set_up : savings.Saving → ℕ → Core → Checked Core
set_up Save p c = passed (with_memory (with_store (saved_at p c.settings c.memory.store) c.memory) c)
set_up Recall p c =
    let b = block_at p c.memory.store in
    check 314 (recallable b) >> passed (with_settings (settings_in b) c)

-- ---- the deed: "*OPC sets event bit 0"; "*CLS clears the event status register, the operation event register and the queue, nothing
-- else", by 02 (#104) "all three event registers"

unfoldable pub perform : Deed → Text → Box → Checked Box
perform (Change x) t b = passed (box (changed x t b.core) b.trouble)
perform Complete t b = passed (box b.core (completed b.trouble))
perform Clear t b = passed (box (all_cleared b.core) no_trouble)
perform (Query q) t b = reply (reply_to q b.core) (after_query q b.core) >>= λ c. passed (box c b.trouble)
perform (Inquire q) t b = reply (inquiry_reply q b) b.core >>= λ c. passed (box c (after_inquiry q b.trouble))
perform (Saving x p) t b = set_up x p b.core >>= λ c. passed (box c b.trouble)
