-- "Registers and queue": a register group, the condition, event, enable, PTR and NTR of STATus:OPERation; STATus:LOCK and
-- STATus:WARNing are each the same again (02, #104).
use Rattle.std.specs.Prelude.{ℕ, Bool, not, ◌&&◌, leb, eqb}
use Rattle.std.specs.Int.Bits.{bit_and, bit_or, bit_xor}
use Rattle.registers.specs.declared.group.Group.{Group}

-- refusal 4: "32,767 for the others"
abbrev pub widest_group : ℕ
widest_group = 32767

-- STATus:OPERation, STATus:LOCK and STATus:WARNing (02, #104)
abbrev pub group_count : ℕ
group_count = 3

-- some bit is in both
abbrev pub meet : ℕ → ℕ → Bool
meet a b = not (eqb (bit_and a b) 0)

-- the bits that are 0 in the old condition and 1 in the new one; the bits that are 1 and then 0
unfoldable pub rises : ℕ → ℕ → ℕ
rises old new = bit_and (bit_xor old new) new

unfoldable pub falls : ℕ → ℕ → ℕ
falls old new = bit_and (bit_xor old new) old

-- "An event bit is set when its condition bit rises and PTR has it, or falls and NTR has it"
unfoldable pub events_after : ℕ → Group → ℕ
events_after new g = bit_or g.event (bit_or (bit_and (rises g.condition new) g.ptr) (bit_and (falls g.condition new) g.ntr))

-- the group after the box reported the condition
unfoldable pub condition_is : ℕ → Group → Group
condition_is new g =
    record { condition = new; event = events_after new g; enable = g.enable; ptr = g.ptr; ntr = g.ntr }

-- "Reading .. the event register clears it"
unfoldable pub event_read : Group → Group
event_read g = record { condition = g.condition; event = 0; enable = g.enable; ptr = g.ptr; ntr = g.ntr }

-- the group with another enable, PTR or NTR: no event comes of it
abbrev pub with_enable : ℕ → Group → Group
with_enable n g = record { condition = g.condition; event = g.event; enable = n; ptr = g.ptr; ntr = g.ntr }

abbrev pub with_ptr : ℕ → Group → Group
with_ptr n g = record { condition = g.condition; event = g.event; enable = g.enable; ptr = n; ntr = g.ntr }

abbrev pub with_ntr : ℕ → Group → Group
with_ntr n g = record { condition = g.condition; event = g.event; enable = g.enable; ptr = g.ptr; ntr = n }

-- refusal 4: no register above its width
unfoldable pub possible_group : Group → Bool
possible_group g =
    leb g.condition widest_group
    && leb g.event widest_group
    && leb g.enable widest_group
    && leb g.ptr widest_group
    && leb g.ntr widest_group

-- power-up: "enables 0, PTR 32,767, NTR 0, condition 0, all else empty"
abbrev pub group_at_start : Group
group_at_start = record { condition = 0; event = 0; enable = 0; ptr = widest_group; ntr = 0 }

-- a group of zeros: what a place past the three holds
abbrev pub no_group : Group
no_group = record { condition = 0; event = 0; enable = 0; ptr = 0; ntr = 0 }
