-- Worked values of 01, as one table under one statement: the definitions of this crate compute each of them. Checks 6, 7 and 8,
-- the seventeen settings and their answers, registers, queue and status byte, and refusal 4 on the status record.
use Rattle.std.specs.Prelude.{Bool, true, false, ◌&&◌, List, [], ◌∷◌, ◌++◌, ℕ, suc, T, eqb, replicate, ℤ, pos}
use Prim.Native.Char.{code}
use Prim.Native.String.{String}
use Rattle.std.specs.Int.Bits.{bit_or}
use Rattle.std.specs.Int.Signed.{le_z}
use Rattle.registers.specs.Text.{Text, if◌then◌otherwise◌, bytes, white, digit, small, letter, capital, same_bool, every, same}
use Rattle.registers.specs.Check.{Checked, refused, passed, ◌>>=◌, ◌>>◌, check}
use Rattle.registers.specs.Words.{Node, must, may, short_form}
use Rattle.registers.specs.Answer.{in_places, decimal, tenths, over}
use Rattle.registers.specs.Error.{number_of, event_bit, message_in, error_text}
use Rattle.registers.specs.Queue.{queueable, may_be_queued}
use Rattle.registers.specs.Number.{after_sign, fraction_of, after_fraction, exponent_of, after_exponent, lowering, written, numeral_from, decimal_of, value_of, scaled, number}
use Rattle.registers.specs.Suffix.{suffixes, no_suffix, power_in, remains}
use Rattle.registers.specs.Rounding.{nearest, size_in, rounded, fitted, size_side, side_in, switched_on}
use Rattle.registers.specs.Settings.{Kind, bool, words, number as steps, Setting, minus, table, slots, setting_at, kind_of, quantity_of, value_at, at_reset, wide_range, narrow, lowest, highest, within, conflict, examined, accepted, stored, answer_of}
use Rattle.registers.specs.Group.{rises, falls, events_after, condition_is, event_read, possible_group}
use Rattle.registers.specs.Status.{registers_of, trouble_of, without_bit6, stored_in, register_in, summary, status_byte, possible_registers, possible_trouble, possible_status, with_trouble, raised_in, cleared_in, events_in, group_in, set_read, locked, set_bits, with_registers, oldest_read_in, reported_in, register_set, at_start}
use Rattle.registers.specs.declared.error.Error.{Error}
use Rattle.registers.specs.declared.error.Error.TheVariants.{Syntax, DataOutOfRange, InputBufferOverrun, QueryUnterminated}
use Rattle.registers.specs.declared.number.Decimal.{Decimal}
use Rattle.registers.specs.declared.rounding.Side.{Side}
use Rattle.registers.specs.declared.rounding.Side.TheVariants.{On, Below, Above}
use Rattle.registers.specs.declared.settings.Settings.{Settings}
use Rattle.registers.specs.declared.status.Register.{Register}
use Rattle.registers.specs.declared.status.Register.TheVariants.{Ese, Sre, Enable, Ntr, Ptr}
use Rattle.registers.specs.declared.status.RegisterSet.{RegisterSet}
use Rattle.registers.specs.declared.status.RegisterSet.TheVariants.{Operation, Lock, Warning}
use Rattle.registers.specs.declared.status.Status.{Status}
use Rattle.registers.specs.declared.suffix.Quantity.{Quantity}
use Rattle.registers.specs.declared.suffix.Quantity.TheVariants.{Nothing}

-- ---- the kinds of examples

-- what can happen to the status record
data Step : Type 0 where
  raise : Error → Step
  report : RegisterSet → ℕ → Step  -- a condition
  set : Register → ℕ → Step
  ask_events : Step  -- *ESR?
  ask_set : RegisterSet → Step  -- STATus:OPERation?, STATus:LOCK?, STATus:WARNing?
  ask_error : Step  -- SYSTem:ERRor?
  complete : Step  -- *OPC
  clear : Step  -- *CLS

data Example : Type 0 where
  value : String → Bool → ℕ → ℕ → ℕ → Example  -- a number: is its sign a minus, its digits, its powers of ten up and down
  wrong : ℕ → List String → Example  -- an error, and texts that check 6 refuses by it for a row without a quantity
  switch : String → Bool → Example  -- a number given for a bool: is it on
  rounds : String → ℕ → ℤ → ℤ → Checked ℤ → Example  -- a number, how many steps make one, the limits in steps, and what check 7 says
  rests : String → ℕ → Side → Example  -- a number, how many steps make one, and how the exact value stands to the rounded one
  exams : String → ℤ → Side → Bool → Example  -- a header and the value stored for it at *RST: does a number on that side then pass
  sets : String → String → String → Example  -- a header, a number given for it at *RST, and what the header then answers
  refuses : String → ℕ → List String → Example  -- a header, an error, and texts that check 6 or 7 refuses by it at *RST
  limits : String → String → String → String → Example  -- a header's lowest, highest and own value at *RST, as answers
  slot : ℕ → String → String → String → Example  -- the same of a slot
  answers : List (String × ℤ) → String → String → Example  -- values stored by header after *RST, and what a header then answers
  lays : String → String → String → Example  -- a text, a lent tail, and that tail with the text in it
  message : ℕ → String → Example  -- an error, and what SYSTem:ERRor? answers
  event : RegisterSet → List Step → ℕ → Example  -- steps after power-up, and a set's event register then
  events : List Step → ℕ → Example  -- .. the event status register
  queue : List Step → List ℕ → Example  -- .. the error queue
  register : List Step → Register → ℕ → Example  -- .. a register
  byte : List Step → Bool → ℕ → Example  -- .. the status byte where an answer has bytes (true) or not
  locks : List Step → Bool → Example  -- .. does the lock hold
  possible : Status → Bool → Example  -- a status record: could it be the box's

-- ---- the examples

abbrev raises : ℕ → Error → List Step
raises n e = replicate n (raise e)

abbrev registers : ℕ → ℕ → Status
registers ese sre = with_registers (record { ese = ese; sre = sre; groups = at_start.groups }) at_start

examples : List Example
examples =
    -- check 6: the exact value
    value "7.25" false 725 0 2
    ∷ value "-0.45" true 45 0 2
    ∷ value "+.5" false 5 0 1
    ∷ value "5. " false 5 0 0
    ∷ value "1.E1" false 1 1 0
    ∷ value "0.00001E6" false 1 1 0
    ∷ value "25e-3" false 25 0 3
    -- twelve digits and thirteen: leading zeros don't count, across the point too, and trailing zeros do
    ∷ value "123456789012" false 123456789012 0 0
    ∷ value "0000000000000000.012" false 12 0 3
    ∷ value "0.0000000000001" false 1 0 13
    ∷ value "5.00000000000" false 500000000000 0 11
    ∷ wrong 124 ("1234567890123" ∷ "5.000000000000" ∷ "0.1234567890123" ∷ "1234567890123E10" ∷ [])
    -- exponents 9 and 10
    ∷ value "1E9" false 1 9 0
    ∷ value "1E0000000009" false 1 9 0
    ∷ value "1E-9" false 1 0 9
    ∷ wrong 123 ("1E10" ∷ "0E10" ∷ "1E-10" ∷ "1E99999999999999" ∷ [])
    -- something after the number, or no number
    ∷ wrong 138 ("5V" ∷ "1E" ∷ "1E+" ∷ "5 E3" ∷ "5E 3" ∷ "0x10" ∷ "1E5E5" ∷ "1E10V" ∷ [])
    ∷ wrong 121 ("1 2" ∷ "1.2.3" ∷ "1_0" ∷ "5%" ∷ "+" ∷ "-" ∷ "." ∷ "--5" ∷ "- 5" ∷ "+V" ∷ ".E5" ∷ [])
    -- suffixes, in any letter case, with or without white space before: the whole of what remains, exactly scaled
    ∷ sets "VOLT" "5V" "5.0"
    ∷ sets "VOLT" "5000 MV" "5.0"
    ∷ sets "VOLT" "5e3mv" "5.0"
    ∷ sets "VOLT" "7250mV" "7.3"
    ∷ sets "VOLT" "7249.9 Mv" "7.2"
    ∷ refuses "VOLT" 222 ("12050 MV" ∷ [])
    ∷ sets "FREQ" "60HZ" "60.0"
    ∷ sets "FREQ" "0.06 KHZ" "60.0"
    ∷ sets "FREQ" "6E-5 MHZ" "60.0"
    ∷ refuses "FREQ" 222 ("60 MHZ" ∷ [])
    ∷ sets "CURR:LIM:RMS" "1.5A" "1.5"
    ∷ sets "CURR:LIM:PEAK:HIGH" "750ma" "0.8"
    ∷ sets "CURR:LIM:PEAK:LOW" "-450 MA" "-0.5"
    ∷ refuses "CURR:LIM:PEAK:LOW" 222 ("-449.9 MA" ∷ [])
    ∷ sets "CURR:LIM:RMS:TIME" "2.5 s" "3"
    ∷ sets "CURR:LIM:PEAK:TIME" "2S" "2"
    ∷ refuses "VOLT" 131 ("5A" ∷ "5V2" ∷ "5E" ∷ "5 V V" ∷ "5KV" ∷ "5VM" ∷ "1E10A" ∷ "5VOLT" ∷ [])
    ∷ refuses "FREQ" 131 ("60V" ∷ "60H" ∷ "60MHZZ" ∷ "60 GHZ" ∷ [])
    ∷ refuses "CURR:LIM:RMS:TIME" 131 ("1500 MS" ∷ "1KS" ∷ [])
    ∷ refuses "DISP:BRIG" 138 ("5S" ∷ "5V" ∷ [])
    ∷ refuses "VOLT" 121 ("5_V" ∷ "5 _V" ∷ "V" ∷ "5%" ∷ [])
    ∷ refuses "VOLT" 124 ("1234567890123 MV" ∷ "1234567890123E10 MV" ∷ [])
    ∷ refuses "VOLT" 123 ("1E10MV" ∷ "1E-10 V" ∷ [])
    -- a bool: rounded to a whole number first, "zero is off, any other is on"
    ∷ switch "0.4" false
    ∷ switch "0.5" true
    ∷ switch "-0.5" true
    ∷ switch "-0.4" false
    ∷ switch "1E-9" false
    ∷ switch "-1" true
    ∷ switch "-0" false
    -- check 7: rounded to the step, halves away from zero, and only then compared
    ∷ rounds "2.5" 1 (minus 9) (pos 9) (passed (pos 3))
    ∷ rounds "2.49999999999" 1 (minus 9) (pos 9) (passed (pos 2))
    ∷ rounds "-2.5" 1 (minus 9) (pos 9) (passed (minus 3))
    ∷ rounds "-0.4" 1 (minus 9) (pos 9) (passed (pos 0))
    ∷ rounds "123456789012E9" 1 (minus 9) (pos 9) (refused 222)
    ∷ rounds "255.4" 1 (pos 0) (pos 255) (passed (pos 255))
    ∷ rounds "255.5" 1 (pos 0) (pos 255) (refused 222)
    -- what was rounded off: the exact value against the rounded one, which is below zero with it
    ∷ rests "5.10" 10 On
    ∷ rests "5.05" 10 Below
    ∷ rests "5.04" 10 Above
    ∷ rests "-0.45" 10 Above
    ∷ rests "-0.44" 10 Below
    ∷ rests "-0.5" 10 On
    ∷ rests "4.4" 1 Above
    ∷ rests "4.5" 1 Below
    ∷ rests "5.000000001" 10 Above
    ∷ rests "5.00000000000" 10 On
    ∷ rests "0.0000000000001" 10 Above
    ∷ rests "-1E-9" 1 Below
    ∷ rests "0E-9" 1 On
    ∷ rests "123456789012E9" 10 On
    ∷ rests "99999999999.5" 1 Below
    -- exam mode: off the step nothing passes
    ∷ exams "SYST:EXAM" (pos 0) Below true
    ∷ exams "SYST:EXAM" (pos 1) Below false
    ∷ exams "SYST:EXAM" (pos 1) Above false
    ∷ exams "SYST:EXAM" (pos 1) On true
    ∷ exams "SYST:KLOC" (pos 1) Above true
    ∷ sets "VOLT" "7.25" "7.3"
    ∷ sets "VOLT" "7.2499" "7.2"
    ∷ sets "VOLT" "12.04" "12.0"
    ∷ refuses "VOLT" 222 ("12.05" ∷ [])
    ∷ sets "VOLT" "-0.04" "0.0"
    ∷ refuses "VOLT" 222 ("-0.05" ∷ [])
    ∷ sets "CURR:LIM:PEAK:LOW" "-0.45" "-0.5"
    ∷ refuses "CURR:LIM:PEAK:LOW" 222 ("-0.44" ∷ [])
    ∷ sets "CURR:LIM:PEAK:LOW" "-8.04" "-8.0"
    ∷ refuses "CURR:LIM:PEAK:LOW" 222 ("-8.05" ∷ [])
    ∷ sets "FREQ" "39.95" "40.0"
    ∷ refuses "FREQ" 222 ("39.94" ∷ [])
    ∷ sets "CURR:LIM:RMS:TIME" "0.5" "1"
    ∷ refuses "CURR:LIM:RMS:TIME" 222 ("0.4" ∷ [])
    ∷ sets "DISP:BRIG" "99.4" "99"
    ∷ refuses "DISP:BRIG" 222 ("99.5" ∷ [])
    -- the seventeen settings: lowest and highest value, and the one at *RST
    ∷ limits "OUTP" "0" "1" "0"
    ∷ limits "OUTP:PON" "0" "1" "0"
    ∷ limits "OUTP:REL" "0" "1" "1"
    ∷ limits "OUTP:MON:MODE" "CURR" "VOLT" "VOLT"
    ∷ limits "VOLT" "0.0" "12.0" "0.0"
    ∷ limits "VOLT:RANG" "R12V" "R24V" "R12V"
    ∷ limits "FREQ" "40.0" "550.0" "50.0"
    ∷ limits "CURR:LIM:RMS" "0.1" "2.0" "1.0"
    ∷ limits "CURR:LIM:RMS:MODE" "CONT" "OFF" "OFF"
    ∷ limits "CURR:LIM:PEAK:MODE" "CONT" "OFF" "OFF"
    ∷ limits "CURR:LIM:RMS:TIME" "1" "10" "1"
    ∷ limits "CURR:LIM:PEAK:TIME" "1" "10" "1"
    ∷ limits "CURR:LIM:PEAK:HIGH" "0.5" "8.0" "4.0"
    ∷ limits "CURR:LIM:PEAK:LOW" "-8.0" "-0.5" "-4.0"
    ∷ limits "DISP:BRIG" "0" "99" "50"
    ∷ limits "SYST:KLOC" "0" "1" "0"
    ∷ limits "SYST:EXAM" "0" "1" "0"
    -- and channel 2's thirteen, by their slots
    ∷ slot 17 "0" "1" "0"
    ∷ slot 18 "0" "1" "0"
    ∷ slot 19 "0" "1" "1"
    ∷ slot 20 "0.0" "12.0" "0.0"
    ∷ slot 21 "R12V" "R24V" "R12V"
    ∷ slot 22 "40.0" "550.0" "50.0"
    ∷ slot 23 "0.1" "2.0" "1.0"
    ∷ slot 24 "CONT" "OFF" "OFF"
    ∷ slot 25 "CONT" "OFF" "OFF"
    ∷ slot 26 "1" "10" "1"
    ∷ slot 27 "1" "10" "1"
    ∷ slot 28 "0.5" "8.0" "4.0"
    ∷ slot 29 "-8.0" "-0.5" "-4.0"
    -- stored and answered; the voltage's limit goes by the range, and check 8 keeps R24V above 12.0
    ∷ answers (("OUTP:MON:MODE", pos 1) ∷ []) "OUTP:MON:MODE" "SCUR"
    ∷ answers (("CURR:LIM:PEAK:LOW", minus 5) ∷ []) "CURR:LIM:PEAK:LOW" "-0.5"
    ∷ answers (("VOLT", pos 121) ∷ []) "VOLT" "0.0"
    ∷ answers (("VOLT:RANG", pos 1) ∷ ("VOLT", pos 240) ∷ []) "VOLT" "24.0"
    ∷ answers (("VOLT:RANG", pos 1) ∷ ("VOLT", pos 241) ∷ []) "VOLT" "0.0"
    ∷ answers (("VOLT:RANG", pos 1) ∷ ("VOLT", pos 200) ∷ ("VOLT:RANG", pos 0) ∷ []) "VOLT:RANG" "R24V"
    ∷ answers (("VOLT:RANG", pos 1) ∷ ("VOLT", pos 120) ∷ ("VOLT:RANG", pos 0) ∷ []) "VOLT:RANG" "R12V"
    ∷ lays "12.0" "--------" "12.0----"
    ∷ lays "12.0" "--" "12"
    -- error texts
    ∷ message 0 "0,\"No error\""
    ∷ message 222 "-222,\"Data out of range\""
    ∷ message 114 "-114,\"Header suffix out of range\""
    ∷ message 350 "-350,\"Queue overflow\""
    ∷ message 410 "-410,\"Query INTERRUPTED\""
    -- transitions: at power-up PTR has every bit and NTR none
    ∷ event Operation (report Operation 4 ∷ []) 4
    ∷ event Operation (set (Ptr Operation) 3 ∷ report Operation 4 ∷ []) 0
    ∷ event Operation (set (Ptr Operation) 3 ∷ report Operation 4 ∷ set (Ptr Operation) 4 ∷ []) 0
    ∷ event Operation (report Operation 4 ∷ ask_set Operation ∷ report Operation 4 ∷ []) 0
    ∷ event Operation (report Operation 4 ∷ ask_set Operation ∷ report Operation 0 ∷ []) 0
    ∷ event Operation (set (Ntr Operation) 4 ∷ report Operation 4 ∷ ask_set Operation ∷ report Operation 0 ∷ []) 4
    ∷ event Operation (set (Ntr Operation) 4 ∷ report Operation 4 ∷ ask_set Operation ∷ report Operation 3 ∷ []) 7
    ∷ event Operation (set (Ntr Operation) 4 ∷ report Operation 4 ∷ ask_set Operation ∷ report Operation 32768 ∷ []) 0
    ∷ event Operation (report Operation 1 ∷ report Operation 2 ∷ []) 3
    ∷ event Operation (report Operation 4 ∷ clear ∷ []) 0
    -- the other two sets: a report reaches its own set alone, reading clears one, and *CLS all
    ∷ event Lock (report Lock 4 ∷ report Warning 3 ∷ []) 4
    ∷ event Warning (report Lock 4 ∷ report Warning 3 ∷ []) 3
    ∷ event Operation (report Lock 4 ∷ report Warning 3 ∷ []) 0
    ∷ event Lock (set (Ptr Lock) 0 ∷ set (Ntr Lock) 4 ∷ report Lock 4 ∷ report Lock 0 ∷ []) 4
    ∷ event Warning (report Warning 4 ∷ ask_set Warning ∷ []) 0
    ∷ event Warning (report Warning 4 ∷ ask_set Lock ∷ []) 4
    ∷ event Lock (report Lock 4 ∷ clear ∷ []) 0
    ∷ event Warning (report Warning 4 ∷ clear ∷ []) 0
    -- the event status register: 128 at power-up, and a bit by an error's hundreds
    ∷ events [] 128
    ∷ events (raise Syntax ∷ []) 160
    ∷ events (raise DataOutOfRange ∷ []) 144
    ∷ events (raise InputBufferOverrun ∷ []) 136
    ∷ events (raise QueryUnterminated ∷ []) 132
    ∷ events (complete ∷ []) 129
    ∷ events (complete ∷ ask_events ∷ []) 0
    ∷ events (complete ∷ clear ∷ []) 0
    -- the queue: oldest first, sixteen numbers, and the seventeenth error makes the sixteenth -350 and sets bit 3
    ∷ queue (raise Syntax ∷ raise DataOutOfRange ∷ []) (102 ∷ 222 ∷ [])
    ∷ queue (raise Syntax ∷ raise DataOutOfRange ∷ ask_error ∷ []) (222 ∷ [])
    ∷ queue (raise Syntax ∷ clear ∷ []) []
    ∷ queue (raises 16 DataOutOfRange) (replicate 16 222)
    ∷ events (raises 16 DataOutOfRange) 144
    ∷ queue (raises 17 DataOutOfRange) (replicate 15 222 ++ 350 ∷ [])
    ∷ events (raises 17 DataOutOfRange) 152
    ∷ queue (raises 18 DataOutOfRange) (replicate 15 222 ++ 350 ∷ [])
    ∷ events (raises 17 DataOutOfRange ++ ask_events ∷ raise Syntax ∷ []) 40
    ∷ queue (raises 17 DataOutOfRange ++ ask_error ∷ raise Syntax ∷ []) (replicate 14 222 ++ 350 ∷ 102 ∷ [])
    -- registers: bit 6 of *SRE is stored as 0, and *CLS leaves them alone
    ∷ register (set Sre 255 ∷ []) Sre 191
    ∷ register (set Ese 255 ∷ clear ∷ []) Ese 255
    ∷ register (set Ese 256 ∷ []) Ese 0
    ∷ register (set (Enable Operation) 32767 ∷ []) (Enable Operation) 32767
    ∷ register (set (Enable Operation) 32768 ∷ []) (Enable Operation) 0
    ∷ register [] (Ptr Operation) 32767
    ∷ register [] (Ntr Operation) 0
    -- the status byte
    ∷ byte [] false 0
    ∷ byte [] true 16
    ∷ byte (set Sre 16 ∷ []) true 80
    ∷ byte (set Ese 128 ∷ []) false 32
    ∷ byte (raise DataOutOfRange ∷ []) false 4
    ∷ byte (set Sre 64 ∷ raise DataOutOfRange ∷ []) false 4
    ∷ byte (set Sre 32 ∷ set Ese 16 ∷ raise DataOutOfRange ∷ []) false 100
    ∷ byte (report Lock 4 ∷ report Warning 4 ∷ []) false 0
    ∷ byte (set (Enable Lock) 4 ∷ report Lock 4 ∷ []) false 1
    ∷ byte (set (Enable Warning) 5 ∷ report Warning 4 ∷ []) false 2
    ∷ byte (set (Enable Lock) 1 ∷ set Sre 1 ∷ report Lock 1 ∷ []) false 65
    ∷ byte (set (Enable Operation) 4 ∷ report Operation 4 ∷ []) false 128
    ∷ byte (set (Enable Operation) 4 ∷ set Sre 128 ∷ report Operation 4 ∷ []) true 208
    -- the lock: any of the fifteen condition bits, and nothing else. An event that is left over doesn't lock, and a masked PTR doesn't unlock
    ∷ locks [] false
    ∷ locks (report Lock 1 ∷ []) true
    ∷ locks (report Lock 16384 ∷ []) true
    ∷ locks (report Lock 32768 ∷ []) false
    ∷ locks (report Lock 4 ∷ report Lock 0 ∷ []) false
    ∷ locks (set (Ptr Lock) 0 ∷ report Lock 4 ∷ []) true
    ∷ locks (report Lock 4 ∷ ask_set Lock ∷ clear ∷ []) true
    ∷ locks (report Operation 4 ∷ report Warning 4 ∷ []) false
    -- refusal 4: -350 may stand anywhere in the queue, and places beyond its length mean nothing
    ∷ possible at_start true
    ∷ possible (registers 255 191) true
    ∷ possible (registers 256 0) false
    ∷ possible (registers 0 64) false
    ∷ possible (with_trouble 256 0 (replicate 16 0) at_start) false
    ∷ possible (with_trouble 0 16 (replicate 16 350) at_start) true
    ∷ possible (with_trouble 0 17 (replicate 16 350) at_start) false
    ∷ possible (with_trouble 0 1 (103 ∷ replicate 15 0) at_start) false
    ∷ possible (with_trouble 0 1 (102 ∷ replicate 15 103) at_start) true
    ∷ []

-- ---- what an example says

passes : {A : Type 0} → (A → Bool) → Checked A → Bool
passes p (refused n) = false
passes p (passed a) = p a

fails : {A : Type 0} → ℕ → Checked A → Bool
fails n (refused m) = eqb m n
fails n (passed a) = false

same_fit : Checked ℤ → Checked ℤ → Bool
same_fit (passed a) m = passes (λ (b : ℤ). le_z a b && le_z b a) m
same_fit (refused n) m = fails n m

same_side : Side → Side → Bool
same_side On On = true
same_side On Below = false
same_side On Above = false
same_side Below On = false
same_side Below Below = true
same_side Below Above = false
same_side Above On = false
same_side Above Below = false
same_side Above Above = true

-- a header in its shortest spelling, and the row that it stands in
shortest : List Node → Text
shortest [] = []
shortest (may w ∷ nodes) = shortest nodes
shortest (must w ∷ nodes) = code ":" ∷ short_form w ++ shortest nodes

row_in : List Setting → Text → ℕ
row_in [] t = 0
row_in (s ∷ ss) t = if same (shortest s.nodes) t then 0 otherwise suc (row_in ss t)

row : String → ℕ
row header = row_in table (code ":" ∷ bytes header)

-- checks 6 and 7 on a number
fit : Quantity → ℕ → ℤ → ℤ → String → Checked ℤ
fit q k low high t = number q (bytes t) >>= fitted k low high

-- on a number given for a row
steps_of : Kind → ℕ
steps_of bool = 1
steps_of (words ws) = 1
steps_of (steps k low high) = k

given : ℕ → String → Checked ℤ
given i t = fit (quantity_of i) (steps_of (kind_of i)) (lowest i) (highest at_reset i) t

answered : ℕ → String → ℤ → Bool
answered i answer v = same (answer_of (kind_of i) v) (bytes answer)

stored_all : List (String × ℤ) → Settings → Settings
stored_all [] s = s
stored_all (p ∷ ps) s = stored_all ps (stored (row p.0) p.1 s)

step : Step → Status → Status
step (raise e) s = raised_in (number_of e) s
step (report x n) s = reported_in x n s
step (set x n) s = register_set x n s
step ask_events s = events_in 0 s
step (ask_set x) s = with_registers (set_read x (registers_of s)) s
step ask_error s = oldest_read_in s
step complete s = events_in (bit_or s.events 1) s
step clear s = cleared_in s

steps_from : Status → List Step → Status
steps_from s [] = s
steps_from s (x ∷ xs) = steps_from (step x s) xs

holds : Example → Bool
holds (value t m n up down) =
    passes (λ (d : Decimal). same_bool d.minus m && (eqb d.digits n && (eqb d.up up && eqb d.down down))) (number Nothing (bytes t))
holds (wrong n ts) = every (λ (t : String). fails n (number Nothing (bytes t))) ts
holds (switch t on) = passes (λ (d : Decimal). same_bool (switched_on d) on) (number Nothing (bytes t))
holds (rounds t k low high r) = same_fit r (fit Nothing k low high t)
holds (rests t k x) = passes (λ (d : Decimal). same_side (side_in k d) x) (number Nothing (bytes t))
holds (exams h v x on) = same_bool (accepted (stored (row h) v at_reset) x) on
holds (sets h t answer) = passes (answered (row h) answer) (given (row h) t)
holds (refuses h n ts) = every (λ (t : String). fails n (given (row h) t)) ts
holds (limits h low high reset) =
    answered (row h) low (lowest (row h))
    && (answered (row h) high (highest at_reset (row h)) && answered (row h) reset (value_at at_reset (row h)))
holds (slot i low high reset) =
    answered i low (lowest i) && (answered i high (highest at_reset i) && answered i reset (value_at at_reset i))
holds (answers ps h answer) = answered (row h) answer (value_at (stored_all ps at_reset) (row h))
holds (lays text before tail) = same (over (bytes text) (bytes before)) (bytes tail)
holds (message n answer) = same (error_text n) (bytes answer)
holds (event x xs n) = eqb (group_in x (registers_of (steps_from at_start xs))).event n
holds (events xs n) = eqb (steps_from at_start xs).events n
holds (queue xs ns) = same (trouble_of (steps_from at_start xs)).queue ns
holds (register xs x n) = eqb (register_in x (registers_of (steps_from at_start xs))) n
holds (byte xs on n) = eqb (status_byte (registers_of (steps_from at_start xs)) (trouble_of (steps_from at_start xs)) on) n
holds (locks xs on) = same_bool (locked (registers_of (steps_from at_start xs))) on
holds (possible s on) = same_bool (possible_status s) on

all_hold : T (every holds examples)
unfolding examples passes fails same_fit same_side fit steps_of shortest row_in row given answered stored_all step steps_from holds
    if◌then◌otherwise◌ bytes white digit small letter capital same ◌>>=◌ ◌>>◌ check short_form in_places decimal tenths over
    event_bit message_in error_text queueable may_be_queued
    after_sign fraction_of after_fraction exponent_of after_exponent lowering written numeral_from decimal_of value_of scaled suffixes no_suffix power_in remains number switched_on
    nearest size_in rounded fitted size_side side_in
    table slots setting_at at_reset wide_range narrow lowest highest within conflict examined accepted stored answer_of
    rises falls events_after condition_is event_read possible_group
    without_bit6 stored_in register_in set_bits summary status_byte possible_registers possible_trouble possible_status
    raised_in cleared_in events_in oldest_read_in reported_in register_set at_start
all_hold = tt
