-- "Registers and queue": registers, error queue and status byte; refusals 3 and 4 on them. `Trouble` is the event status
-- register and the error queue, all that a refused unit adds to; `Registers` is what it leaves alone.
use Rattle.std.specs.Prelude.{Bool, true, false, not, ◌&&◌, List, [], ◌∷◌, ◌++◌, map, ℕ, ◌+◌, ◌-◌, ◌^◌, leb, ltb, eqb, length, take, drop, set, get_or, replicate}
use Rattle.std.specs.Int.Bits.{bit_and, bit_or}
use Rattle.registers.specs.Text.{if◌then◌otherwise◌, every, empty, rest}
use Rattle.registers.specs.Error.{event_bit, overflow}
use Rattle.registers.specs.Queue.{may_be_queued, most, last_place}
use Rattle.registers.specs.Group.{meet, condition_is, event_read, with_enable, with_ptr, with_ntr, possible_group, group_at_start, no_group, widest_group, group_count}
use Rattle.registers.specs.declared.group.Group.{Group}
use Rattle.registers.specs.declared.status.Status.{Status}
use Rattle.registers.specs.declared.status.Register.{Register}
use Rattle.registers.specs.declared.status.Register.TheVariants.{Ese, Sre, Enable, Ntr, Ptr}
use Rattle.registers.specs.declared.status.RegisterSet.{RegisterSet}
use Rattle.registers.specs.declared.status.RegisterSet.TheVariants.{Operation, Lock, Warning}

pub record Registers : Type 0 where
  pub ese : ℕ  -- *ESE
  pub sre : ℕ  -- *SRE
  pub groups : List Group  -- STATus:OPERation, STATus:LOCK and STATus:WARNing, by their places

pub record Trouble : Type 0 where
  pub events : ℕ  -- the event status register
  pub queue : List ℕ  -- oldest first; 222 stands for -222

-- ---- what a status record means: "The array places beyond a stored length mean nothing"

abbrev pub registers_of : Status → Registers
registers_of s = record { ese = s.ese; sre = s.sre; groups = s.groups }

abbrev pub trouble_of : Status → Trouble
trouble_of s = record { events = s.events; queue = take s.queued s.errors }

-- ---- errors

-- "An error raised when it is full turns the sixteenth into -350 and sets bit 3 besides its own bit"
unfoldable pub raised : ℕ → Trouble → Trouble
raised n t =
    if ltb (length t.queue) most
    then record { events = bit_or t.events (event_bit n); queue = t.queue ++ n ∷ [] }
    otherwise record { events = bit_or (bit_or t.events (event_bit n)) (event_bit overflow); queue = take last_place t.queue ++ overflow ∷ [] }

-- what *CLS leaves
abbrev pub no_trouble : Trouble
no_trouble = record { events = 0; queue = [] }

-- "*OPC sets event bit 0"
unfoldable pub completed : Trouble → Trouble
completed t = record { events = bit_or t.events 1; queue = t.queue }

-- "Reading *ESR? .. clears it"
unfoldable pub events_read : Trouble → Trouble
events_read t = record { events = 0; queue = t.queue }

-- "SYSTem:ERRor? removes the oldest"
unfoldable pub oldest_read : Trouble → Trouble
oldest_read t = record { events = t.events; queue = rest t.queue }

-- ---- the registers that are set and asked

-- the place of a register set
abbrev pub place_of : RegisterSet → ℕ
place_of Operation = 0
place_of Lock = 1
place_of Warning = 2

abbrev pub group_in : RegisterSet → Registers → Group
group_in x r = get_or r.groups (place_of x) no_group

abbrev pub with_group : RegisterSet → Group → Registers → Registers
with_group x g r = record { ese = r.ese; sre = r.sre; groups = set r.groups (place_of x) g }

-- refusal 4: "255 for the event status register, *ESE and *SRE"
abbrev pub widest_byte : ℕ
widest_byte = 255

-- "0 to 255", "0 to 32,767"
abbrev pub widest : Register → ℕ
widest Ese = widest_byte
widest Sre = widest_byte
widest (Enable x) = widest_group
widest (Ntr x) = widest_group
widest (Ptr x) = widest_group

-- "bit 6 of *SRE is stored as 0"
unfoldable pub without_bit6 : ℕ → ℕ
without_bit6 n = n - bit_and n (2 ^ 6)

-- a register takes a value, whatever its width
unfoldable pub stored_in : Register → ℕ → Registers → Registers
stored_in Ese n r = record { ese = n; sre = r.sre; groups = r.groups }
stored_in Sre n r = record { ese = r.ese; sre = without_bit6 n; groups = r.groups }
stored_in (Enable x) n r = with_group x (with_enable n (group_in x r)) r
stored_in (Ntr x) n r = with_group x (with_ntr n (group_in x r)) r
stored_in (Ptr x) n r = with_group x (with_ptr n (group_in x r)) r

-- what its query answers
unfoldable pub register_in : Register → Registers → ℕ
register_in Ese r = r.ese
register_in Sre r = r.sre
register_in (Enable x) r = (group_in x r).enable
register_in (Ntr x) r = (group_in x r).ntr
register_in (Ptr x) r = (group_in x r).ptr

-- a set's event register read; "*CLS clears all three event registers" (02, #104)
abbrev pub set_read : RegisterSet → Registers → Registers
set_read x r = with_group x (event_read (group_in x r)) r

abbrev pub all_read : Registers → Registers
all_read r = record { ese = r.ese; sre = r.sre; groups = map event_read r.groups }

-- a set's condition reported
abbrev pub set_reported : RegisterSet → ℕ → Registers → Registers
set_reported x n r = with_group x (condition_is n (group_in x r)) r

-- "While any lock condition bit is 1" (02, #105): its event, enable, PTR and NTR have no say
abbrev pub locked : Registers → Bool
locked r = not (eqb (group_in Lock r).condition 0)

-- ---- the status byte

-- a weight where its bit is 1
abbrev pub weight_if : Bool → ℕ → ℕ
weight_if on weight = if on then weight otherwise 0

-- the weight of bit k where it is set
abbrev pub bit_if : Bool → ℕ → ℕ
bit_if true k = 2 ^ k
bit_if false k = 0

-- a set's bit in the status byte: the bits 1 and 3 of 02 (#104) for LOCK and WARNing hold "unless Table 2.1 of source document 000 says
-- otherwise", and it does
abbrev pub bit_of : RegisterSet → ℕ
bit_of Operation = 7
bit_of Lock = 0
bit_of Warning = 1

-- a set's event AND its enable is not 0
abbrev pub summed_up : RegisterSet → List Group → ℕ
summed_up x gs = let g = get_or gs (place_of x) no_group in bit_if (meet g.event g.enable) (bit_of x)

unfoldable pub set_bits : List Group → ℕ
set_bits gs = summed_up Operation gs + summed_up Lock gs + summed_up Warning gs

-- "bit 7 operation event AND its enable is not 0; bit 5 the same for *ESR and *ESE; bit 4 an answer has bytes, ..; bit 2 queue not
-- empty"; bits 0 and 1 are LOCK's and WARNing's, and bit 3 is 0
unfoldable pub summary : Registers → Trouble → Bool → ℕ
summary r t answers =
    set_bits r.groups
    + bit_if (meet t.events r.ese) 5
    + bit_if answers 4
    + bit_if (not (empty t.queue)) 2

-- "bit 6 exactly when another set bit is enabled by *SRE"
unfoldable pub status_byte : Registers → Trouble → Bool → ℕ
status_byte r t answers = summary r t answers + bit_if (meet (summary r t answers) r.sre) 6

-- ---- refusal 4: what couldn't be the box's

-- "a register above its width (255 for .. *ESE and *SRE, 32,767 for the others), *SRE with bit 6"
unfoldable pub possible_registers : Registers → Bool
possible_registers r = leb r.ese widest_byte && leb r.sre widest_byte && eqb (bit_and r.sre (2 ^ 6)) 0 && every possible_group r.groups

-- "a queue above 16 or holding a number this paper never puts there"; the event status register above 255
unfoldable pub possible_trouble : Trouble → Bool
possible_trouble t = leb (length t.queue) most && (leb t.events widest_byte && every may_be_queued t.queue)

-- the record's own queue length is tested, since `trouble_of` cuts the queue to its sixteen places
unfoldable pub possible_status : Status → Bool
possible_status s = leb s.queued most && (possible_registers (registers_of s) && possible_trouble (trouble_of s))

-- ---- the status record after each of its methods, for any record at all

-- other registers, or other trouble, in the same record
abbrev pub with_registers : Registers → Status → Status
with_registers r s =
    record { events = s.events; ese = r.ese; sre = r.sre; groups = r.groups; queued = s.queued; errors = s.errors }

abbrev pub with_trouble : ℕ → ℕ → List ℕ → Status → Status
with_trouble events queued errors s =
    record { events = events; ese = s.ese; sre = s.sre; groups = s.groups; queued = queued; errors = errors }

-- an error raised, as `raised` says; a queue length above 16 counts as full
unfoldable pub raised_in : ℕ → Status → Status
raised_in n s =
    if ltb s.queued most
    then with_trouble (bit_or s.events (event_bit n)) (s.queued + 1) (set s.errors s.queued n) s
    otherwise with_trouble (bit_or (bit_or s.events (event_bit n)) (event_bit overflow)) s.queued (set s.errors last_place overflow) s

-- "*CLS clears the event status register, the operation event register and the queue, nothing else"; by 02 (#104) "all three event
-- registers"
unfoldable pub cleared_in : Status → Status
cleared_in s = with_registers (all_read (registers_of s)) (with_trouble 0 0 s.errors s)

-- another event status register: 0 once *ESR? has read it, with bit 0 after *OPC
unfoldable pub events_in : ℕ → Status → Status
events_in n s = with_trouble n s.queued s.errors s

-- the oldest error removed, as `oldest_read` says; the numbers move up and a 0 follows them
unfoldable pub oldest_read_in : Status → Status
oldest_read_in s =
    if eqb s.queued 0 then s otherwise with_trouble s.events (s.queued - 1) (drop 1 s.errors ++ 0 ∷ []) s

-- a condition is reported; refusal 3: a value "above 32,767" leaves all "unchanged"
unfoldable pub reported_in : RegisterSet → ℕ → Status → Status
reported_in x n s = if leb n widest_group then with_registers (set_reported x n (registers_of s)) s otherwise s

-- a register takes a value; one above its width is not stored
unfoldable pub register_set : Register → ℕ → Status → Status
register_set x n s = if leb n (widest x) then with_registers (stored_in x n (registers_of s)) s otherwise s

-- ---- power-up: "event status 128, enables 0 .. all else empty"

unfoldable pub at_start : Status
at_start =
    record { events = 128; ese = 0; sre = 0; groups = replicate group_count group_at_start; queued = 0; errors = replicate most 0 }
