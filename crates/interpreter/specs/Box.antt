-- "What can happen to the box": the state that events change, in two parts. The trouble is the event status register and the
-- error queue, the core is all else. And power-up, the first state.
use Rattle.std.specs.Prelude.{Bool, false, [], ℕ, eqb, length, set, replicate}
use Rattle.registers.specs.Text.{Text}
use Rattle.registers.specs.Settings.{at_reset}
use Rattle.registers.specs.Status.{Registers, Trouble, raised, registers_of, trouble_of, at_start}
use Rattle.registers.specs.declared.settings.Settings.{Settings}

-- "A line holds at most 512 bytes before its newline", by 02 (#106) 4,096
abbrev pub most_line : ℕ
most_line = 4096

-- check 9: an answer of the line with its newline doesn't "pass 1,024 bytes", by 02 (#106) 4,096
abbrev pub most_answer : ℕ
most_answer = 4096

-- 02, #108: "a lent store of ten blocks of 512 bytes"
abbrev pub store_size : ℕ
store_size = 5120

-- what the caller lends to every event but power-up. It is the caller's, so it outlives a power-up
pub record Memory : Type 0 where
  pub store : Text

abbrev pub memory : Text → Memory
memory t = record { store = t }

-- it is of the right size; otherwise number 5
unfoldable pub right_size : Memory → Bool
right_size m = eqb (length m.store) store_size

-- a store of zeros
unfoldable pub blank : Memory
blank = memory (replicate store_size 0)

-- another store in it
abbrev pub with_store : Text → Memory → Memory
with_store t m = record { store = t }

-- another byte at a place of the store
abbrev pub altered_in : ℕ → ℕ → Memory → Memory
altered_in i x m = with_store (set m.store i x) m

pub record Core : Type 0 where
  pub settings : Settings
  pub registers : Registers
  pub line : Text  -- the bytes of the line so far, at most most_line
  pub overlong : Bool  -- further bytes were dropped
  pub answer : Text  -- the waiting answer; while a line runs, the answers of its units so far
  pub memory : Memory  -- as it is lent

pub record Box : Type 0 where
  pub core : Core
  pub trouble : Trouble

abbrev pub box : Core → Trouble → Box
box c t = record { core = c; trouble = t }

-- ---- a part of the core changed

abbrev pub with_settings : Settings → Core → Core
with_settings s c = record { settings = s; registers = c.registers; line = c.line; overlong = c.overlong; answer = c.answer; memory = c.memory }

abbrev pub with_registers : Registers → Core → Core
with_registers r c = record { settings = c.settings; registers = r; line = c.line; overlong = c.overlong; answer = c.answer; memory = c.memory }

abbrev pub with_line : Text → Bool → Core → Core
with_line l o c = record { settings = c.settings; registers = c.registers; line = l; overlong = o; answer = c.answer; memory = c.memory }

abbrev pub with_answer : Text → Core → Core
with_answer a c = record { settings = c.settings; registers = c.registers; line = c.line; overlong = c.overlong; answer = a; memory = c.memory }

abbrev pub with_memory : Memory → Core → Core
with_memory m c = record { settings = c.settings; registers = c.registers; line = c.line; overlong = c.overlong; answer = c.answer; memory = m }

abbrev pub answer_is : Text → Box → Box
answer_is a b = box (with_answer a b.core) b.trouble

-- an error raised: the core stays
abbrev pub raise : ℕ → Box → Box
raise n b = box b.core (raised n b.trouble)

-- "Power-up: settings as *RST, event status 128, enables 0, PTR 32,767, NTR 0, condition 0, all else empty"
-- The lent memory stays as it is
unfoldable pub power_up : Memory → Box
power_up m =
    box (record { settings = at_reset; registers = registers_of at_start; line = []; overlong = false; answer = []; memory = m })
    (trouble_of at_start)
