-- 01's "Lines to try" that are marked P, and lines of 02: exam mode (#107), suffixes (#101), the lock and warning registers (#104),
-- the lock (#105), saved setups (#108), strings (#109) and two channels (#111). One table: each line is run from power-up, after other events where its row says so, and compared with what it
-- must leave.
use Rattle.std.specs.Prelude.{◌≡◌, Bool, true, false, ◌&&◌, List, [], ◌∷◌, ◌++◌, map, ℕ, ◌+◌, set, ℤ, pos}
use Prim.Native.String.{String}
use Rattle.std.specs.Int.Signed.{le_z}
use Rattle.registers.specs.Text.{Text, if◌then◌otherwise◌, bytes, empty}
use Rattle.registers.specs.Settings.{output, voltage, range, exam, output2, voltage2, range2, at_reset, minus}
use Rattle.interpreter.specs.Rows.{monitor}
use Rattle.registers.specs.declared.status.RegisterSet.TheVariants.{Operation, Lock, Warning}
use Rattle.interpreter.specs.Box.{Box, power_up, blank}
use Rattle.interpreter.specs.Events.{Event, started, received, condition, look, altered, mislent, happens, after}

pub record Example : Type 0 where
  pub before : List Event
  pub line : String
  pub answer : String  -- the waiting answer with its newline
  pub errors : List ℕ  -- the error queue; 222 stands for -222
  pub sets : List (ℕ × ℤ)  -- settings by their row, in steps; all others are as at *RST
  pub bits : ℕ  -- of the status byte, those besides bit 4, an answer, and bit 2, an error

abbrev example : String → String → List ℕ → List (ℕ × ℤ) → Example
example l a e s = record { before = []; line = l; answer = a; errors = e; sets = s; bits = 0 }

abbrev following : List Event → String → String → List ℕ → List (ℕ × ℤ) → ℕ → Example
following h l a e s n = record { before = h; line = l; answer = a; errors = e; sets = s; bits = n }

-- a line with its newline, received in one piece
abbrev sent : String → Event
sent l = received (bytes l ++ 10 ∷ [])

-- the key turned
abbrev key_turned : Event
key_turned = condition Lock 4

-- rows of the table of settings, where no rule names them
abbrev power_on : ℕ
power_on = 1

abbrev frequency : ℕ
frequency = 6

abbrev rms : ℕ
rms = 7

abbrev rms_time : ℕ
rms_time = 10

abbrev peak_low : ℕ
peak_low = 13

abbrev key_lock : ℕ
key_lock = 15

abbrev power_on2 : ℕ
power_on2 = 18

abbrev rms2 : ℕ
rms2 = 23

abbrev peak_low2 : ℕ
peak_low2 = 29

unfoldable pub examples : List Example
examples =
    example "VOLT 5;FREQ 60;VOLT?;FREQ?" "5.0;60.0\n" [] ((voltage, pos 50) ∷ (frequency, pos 600) ∷ [])
    ∷ example "VOLTA 5" "" (113 ∷ []) []
    ∷ example "volt:level:imm 7.25" "" [] ((voltage, pos 73) ∷ [])
    ∷ example "VOLT 12.04" "" [] ((voltage, pos 120) ∷ [])
    ∷ example "VOLT 12.05" "" (222 ∷ []) []
    ∷ example "CURR:LIM:PEAK:LOW -0.45" "" [] ((peak_low, minus 5) ∷ [])
    ∷ example "CURR:LIM:PEAK:LOW -0.44" "" (222 ∷ []) []
    ∷ example "CURR:LIM:RMS 1.5;MODE OFF" "" (113 ∷ []) ((rms, pos 15) ∷ [])
    ∷ example "VOLT:RANG R24V;LEV 20;RANG R12V" "" (221 ∷ []) ((voltage, pos 200) ∷ (range, pos 1) ∷ [])
    ∷ example "VOLT 5;;FREQ 60" "" (102 ∷ []) ((voltage, pos 50) ∷ [])
    ∷ example "VOLT?;*STB?" "0.0;16\n" [] []
    -- exam mode: off the step is -222, within the limits or not, below the step or above it
    ∷ example "SYST:EXAM 1\nVOLT 5.05" "" (222 ∷ []) ((exam, pos 1) ∷ [])
    ∷ example "SYST:EXAM 1\nVOLT 5.04" "" (222 ∷ []) ((exam, pos 1) ∷ [])
    ∷ example "SYST:EXAM 1\nVOLT 5.10" "" [] ((voltage, pos 51) ∷ (exam, pos 1) ∷ [])
    ∷ example "SYST:EXAM 1\nVOLT 99.99" "" (222 ∷ []) ((exam, pos 1) ∷ [])
    ∷ example "SYST:EXAM ON;:CURR:LIM:PEAK:LOW -0.45" "" (222 ∷ []) ((exam, pos 1) ∷ [])
    ∷ example "SYST:EXAM ON;:CURR:LIM:RMS:TIME 2.4" "" (222 ∷ []) ((exam, pos 1) ∷ [])
    ∷ example "SYST:EXAM ON;:VOLT MAX;:CURR:LIM:PEAK:LOW -0.5" "" [] ((voltage, pos 120) ∷ (peak_low, minus 5) ∷ (exam, pos 1) ∷ [])
    -- bools and registers round as before, SYSTem:EXAM itself too
    ∷ example "OUTP 1;:SYST:EXAM 1;:OUTP 0.4" "" [] ((exam, pos 1) ∷ [])
    ∷ example "SYST:EXAM 1;*ESE 4.4;*ESE?" "4\n" [] ((exam, pos 1) ∷ [])
    ∷ example "SYST:EXAM 1;EXAM 0.4;EXAM?" "0\n" [] []
    -- it counts from the next unit on, and *RST ends it
    ∷ example "VOLT 5.05;:SYST:EXAM 1;:VOLT 6.05" "" (222 ∷ []) ((voltage, pos 51) ∷ (exam, pos 1) ∷ [])
    ∷ example "SYST:EXAM 1;*RST;:VOLT 5.05;:SYST:EXAM?" "0\n" [] ((voltage, pos 51) ∷ [])
    -- suffixes (02, #101): 01's `VOLT 5V` sets 5.0
    ∷ example "VOLT 5V;FREQ 0.06 KHZ;FREQ?" "60.0\n" [] ((voltage, pos 50) ∷ (frequency, pos 600) ∷ [])
    ∷ example "VOLT 5000 MV;FREQ 6E-5 MHZ" "" [] ((voltage, pos 50) ∷ (frequency, pos 600) ∷ [])
    ∷ example "volt 5e3mv;:curr:lim:rms:time 2 s" "" [] ((voltage, pos 50) ∷ (rms_time, pos 2) ∷ [])
    ∷ example "CURR:LIM:PEAK:LOW -450 MA" "" [] ((peak_low, minus 5) ∷ [])
    ∷ example "VOLT 5A" "" (131 ∷ []) []
    ∷ example "CURR:LIM:RMS:TIME 1500 MS" "" (131 ∷ []) []
    ∷ example "DISP:BRIG 5S" "" (138 ∷ []) []
    ∷ example "OUTP 5V" "" (138 ∷ []) []
    ∷ example "*ESE 5V" "" (138 ∷ []) []
    ∷ example "VOLT 5_V" "" (121 ∷ []) []
    ∷ example "VOLT 1E10MV" "" (123 ∷ []) []
    ∷ example "VOLT MAX V" "" (141 ∷ []) []
    ∷ example "VOLT? 5V" "" (104 ∷ []) []
    -- the scaled value is what exam mode holds to the step
    ∷ example "SYST:EXAM 1\nVOLT 5050 MV" "" (222 ∷ []) ((exam, pos 1) ∷ [])
    ∷ example "SYST:EXAM 1\nVOLT 5100 MV;:FREQ 0.0601 KHZ" "" [] ((voltage, pos 51) ∷ (frequency, pos 601) ∷ (exam, pos 1) ∷ [])
    -- the lock and warning registers: each set has the five commands of STATus:OPERation and its own condition event
    ∷ example "STAT:LOCK:COND?;ENAB?;NTR?;PTR?;:STAT:WARN:ENAB?;NTR?;PTR?" "0;0;0;32767;0;0;32767\n" [] []
    ∷ example "STAT:LOC?" "" (113 ∷ []) []
    ∷ following (condition Lock 4 ∷ condition Warning 3 ∷ []) "STAT:LOCK:COND?;EVEN?;:STAT:WARN:COND?;EVEN?;:STAT:OPER?" "4;4;3;3;0\n" [] [] 0
    ∷ following (condition Warning 4 ∷ []) "STAT:WARN?;WARN?;WARN:COND?" "4;0;4\n" [] [] 0
    ∷ following (sent "STAT:LOCK:NTR 4;PTR 0" ∷ condition Lock 4 ∷ condition Lock 0 ∷ []) "STAT:LOCK:COND?;EVEN?" "0;4\n" [] [] 0
    ∷ following (condition Lock 32768 ∷ []) "STAT:LOCK:COND?;EVEN?" "0;0\n" [] [] 0
    ∷ following (condition Operation 1 ∷ condition Lock 2 ∷ condition Warning 4 ∷ []) "*CLS;:STAT:OPER?;LOCK?;WARN?;WARN:COND?" "0;0;0;4\n" [] [] 0
    ∷ following (condition Operation 1 ∷ condition Lock 2 ∷ condition Lock 0 ∷ condition Warning 4 ∷ []) "*RST;:STAT:OPER?;LOCK?;WARN?" "1;2;4\n" [] [] 0
    -- their summaries: WARNing in bit 1, LOCK in bit 0, where the event is enabled
    ∷ following (sent "STAT:WARN:ENAB 5" ∷ condition Warning 4 ∷ []) "*STB?" "2\n" [] [] 2
    ∷ following (sent "STAT:LOCK:ENAB 5" ∷ condition Lock 4 ∷ []) "*STB?" "1\n" [] [] 1
    ∷ following (condition Lock 4 ∷ condition Warning 4 ∷ []) "*STB?" "0\n" [] [] 0
    ∷ following (sent "STAT:LOCK:ENAB 1;*SRE 1" ∷ condition Lock 1 ∷ []) "" "" [] [] 65
    -- the lock: after the value's checks and before check 8, whatever the value is; *RST after -108
    ∷ following (key_turned ∷ []) "VOLT 99" "" (222 ∷ []) [] 0
    ∷ following (sent "SYST:EXAM 1" ∷ key_turned ∷ []) "VOLT 5.05" "" (222 ∷ []) ((exam, pos 1) ∷ []) 0
    ∷ following (key_turned ∷ []) "VOLT 5" "" (221 ∷ []) [] 0
    ∷ following (key_turned ∷ []) "VOLT 0" "" (221 ∷ []) [] 0
    ∷ following (sent "VOLT:RANG R24V;LEV 20" ∷ key_turned ∷ []) "VOLT:RANG R12V" "" (221 ∷ []) ((voltage, pos 200) ∷ (range, pos 1) ∷ []) 0
    ∷ following (sent "VOLT 5" ∷ key_turned ∷ []) "*RST" "" (221 ∷ []) ((voltage, pos 50) ∷ []) 0
    ∷ following (key_turned ∷ []) "*RST 1" "" (108 ∷ []) [] 0
    -- "switching off is never blocked", in any spelling; no other bool can be switched off, and the rest of a refused line is dropped
    ∷ following (sent "OUTP 1" ∷ key_turned ∷ []) "OUTP:STAT OFF" "" [] [] 0
    ∷ following (sent "OUTP 1" ∷ key_turned ∷ []) "OUTP 0.4" "" [] [] 0
    ∷ following (sent "OUTP 1" ∷ key_turned ∷ []) "OUTP 1;OUTP 0" "" (221 ∷ []) ((output, pos 1) ∷ []) 0
    ∷ following (sent "OUTP:PON 1" ∷ key_turned ∷ []) "OUTP:PON 0" "" (221 ∷ []) ((power_on, pos 1) ∷ []) 0
    ∷ following (sent "SYST:KLOC 1" ∷ key_turned ∷ []) "SYST:KLOC 0" "" (221 ∷ []) ((key_lock, pos 1) ∷ []) 0
    -- queries, register commands, *CLS, *OPC and *WAI work
    ∷ following (sent "OUTP 2,3" ∷ key_turned ∷ []) "VOLT?;*ESE 4;*OPC;*WAI;*CLS;*ESE?;:STAT:LOCK:PTR 5;PTR?" "0.0;4;5\n" [] [] 0
    -- an event that is left over doesn't lock, and a masked PTR doesn't unlock
    ∷ following (key_turned ∷ condition Lock 0 ∷ []) "VOLT 5;:STAT:LOCK?" "4\n" [] ((voltage, pos 50) ∷ []) 0
    ∷ following (sent "STAT:LOCK:PTR 0" ∷ condition Lock 16384 ∷ []) "STAT:LOCK?;:VOLT 5" "0\n" (221 ∷ []) [] 0
    ∷ following (condition Operation 4 ∷ condition Warning 4 ∷ []) "VOLT 5" "" [] ((voltage, pos 50) ∷ []) 0
    -- saved setups (02, #108): all settings at once, without check 8; the store outlives a power-up
    ∷ example "VOLT 5;*SAV 3;*RST;*RCL 3;:VOLT?" "5.0\n" [] ((voltage, pos 50) ∷ [])
    ∷ example "*SAV 1;VOLT:RANG R24V;LEV 20;:CURR:LIM:PEAK:LOW -0.5;*SAV 0;*RCL 1;*RCL 0" "" [] ((voltage, pos 200) ∷ (range, pos 1) ∷ (peak_low, minus 5) ∷ [])
    ∷ example "*SAV 1;VOLT:RANG R24V;LEV 20;*RCL 1" "" [] []
    ∷ following (sent "OUTP 1;:SYST:EXAM 1;*SAV 9.4" ∷ started ∷ []) "*RCL 9" "" [] ((output, pos 1) ∷ (exam, pos 1) ∷ []) 0
    -- its place rounds like a register, and its parameter is a number
    ∷ example "*SAV 9.5" "" (222 ∷ []) []
    ∷ example "*RCL -1" "" (222 ∷ []) []
    ∷ example "*SAV MAX" "" (141 ∷ []) []
    ∷ example "*SAV?" "" (113 ∷ []) []
    ∷ example "*SAV" "" (109 ∷ []) []
    ∷ example "*RCL 1,2" "" (108 ∷ []) []
    -- -314 for a block that was never saved, and for one of whose bytes one is altered
    ∷ example "VOLT 5;*RCL 0;:VOLT 6" "" (314 ∷ []) ((voltage, pos 50) ∷ [])
    ∷ following (sent "*SAV 3" ∷ altered 1536 7 ∷ []) "*RCL 3" "" (314 ∷ []) [] 0
    ∷ following (sent "*SAV 3" ∷ altered 2047 1 ∷ []) "*RCL 3" "" (314 ∷ []) [] 0
    ∷ following (sent "*SAV 3" ∷ altered 1535 1 ∷ altered 2048 1 ∷ []) "*RCL 3" "" [] [] 0
    -- the order: -222, then the lock's -221, then -314
    ∷ following (key_turned ∷ []) "*SAV 10" "" (222 ∷ []) [] 0
    ∷ following (key_turned ∷ []) "*SAV 1" "" (221 ∷ []) [] 0
    ∷ following (key_turned ∷ []) "*RCL 1" "" (221 ∷ []) [] 0
    -- an event that is lent a store of the wrong length changes nothing, and raises nothing
    ∷ following (sent "VOLT 5" ∷ mislent [] ∷ []) "VOLT?" "5.0\n" [] ((voltage, pos 50) ∷ []) 0
    -- strings (02, #109): a `;` or `,` inside quotes separates nothing, on any row, and an unclosed quote takes the rest of the line
    ∷ example "VOLT 5;FOO \"a;FREQ 60\";FREQ 70" "" (113 ∷ []) ((voltage, pos 50) ∷ [])
    ∷ example "FOO 'a,,b'" "" (113 ∷ []) []
    ∷ example "VOLT \"5;FREQ 60" "" (104 ∷ []) []
    ∷ example "VOLT '5,6'" "" (104 ∷ []) []
    ∷ example "VOLT 5;\"FREQ 60;FREQ 70\"" "" (102 ∷ []) ((voltage, pos 50) ∷ [])
    ∷ example "VO\"LT 5;FREQ 60\"" "" (102 ∷ []) []
    -- but a newline still ends the line
    ∷ example "DISP:TEXT 'a\nVOLT 5" "" (151 ∷ []) ((voltage, pos 50) ∷ [])
    -- DISPlay:TEXT: either quote, doubled inside to mean itself; its query always uses double quotes; empty at *RST
    ∷ example "DISP:TEXT?" "\"\"\n" [] []
    ∷ example "DISP:TEXT \"a;b, c\";TEXT?" "\"a;b, c\"\n" [] []
    ∷ example "display:text 'it''s';TEXT?" "\"it's\"\n" [] []
    ∷ example "DISP:TEXT 'a';TEXT '';TEXT?" "\"\"\n" [] []
    ∷ example "DISP:TEXT 'a';*RST;TEXT?" "\"\"\n" [] []
    ∷ example "DISP:TEXT 'a';TEXT 'b*';TEXT?" "" (150 ∷ []) []
    ∷ example "DISP:TEXT ''''''''''''''''''''''''''''''''''''''''''''''''''''''''''''''''''" "" [] []
    ∷ example "DISP:TEXT '12345678901234567890123456789012'" "" [] []
    -- -151, -150 and -223 in that order, in place of check 5, after -108 and -109
    ∷ example "DISP:TEXT 'a" "" (151 ∷ []) []
    ∷ example "DISP:TEXT 'a' 'b'" "" (151 ∷ []) []
    ∷ example "DISP:TEXT 'a'b" "" (151 ∷ []) []
    ∷ example "DISP:TEXT '*" "" (151 ∷ []) []
    ∷ example "DISP:TEXT \"\"\"\"" "" (150 ∷ []) []
    ∷ example "DISP:TEXT '\"'" "" (150 ∷ []) []
    ∷ example "DISP:TEXT '12345678901234567890123456789012*'" "" (150 ∷ []) []
    ∷ example "DISP:TEXT '123456789012345678901234567890123'" "" (223 ∷ []) []
    ∷ example "DISP:TEXT abc" "" (104 ∷ []) []
    ∷ example "DISP:TEXT 5" "" (104 ∷ []) []
    ∷ example "DISP:TEXT 'a','b'" "" (108 ∷ []) []
    ∷ example "DISP:TEXT? 'a'" "" (108 ∷ []) []
    ∷ example "DISP:TEXT" "" (109 ∷ []) []
    -- *SAV stores the text and *RCL sets it; a block without one has an empty text, and one whose text is outside its limits is lost
    ∷ example "DISP:TEXT 'a;b';*SAV 3;*RST;*RCL 3;:DISP:TEXT?" "\"a;b\"\n" [] []
    ∷ example "*SAV 0;:DISP:TEXT 'a';*RCL 0;:DISP:TEXT?" "\"\"\n" [] []
    ∷ following (sent "*SAV 0" ∷ altered 62 65 ∷ altered 508 74 ∷ altered 509 181 ∷ []) "*RCL 0;:DISP:TEXT?" "\"A\"\n" [] [] 0
    ∷ following (sent "*SAV 0" ∷ altered 62 42 ∷ altered 508 161 ∷ altered 509 175 ∷ []) "*RCL 0" "" (314 ∷ []) [] 0
    -- the lock comes after them
    ∷ following (sent "DISP:TEXT 'a'" ∷ key_turned ∷ []) "DISP:TEXT?;TEXT 'b'" "\"a\"\n" (221 ∷ []) [] 0
    ∷ following (key_turned ∷ []) "DISP:TEXT '123456789012345678901234567890123'" "" (223 ∷ []) [] 0
    -- two channels (#111): a suffix 1 or 2, none meaning 1, on the node that takes one; the path keeps it
    ∷ example "VOLT2 5;:VOLT1 6;:VOLT?;:VOLT2?" "6.0;5.0\n" [] ((voltage, pos 60) ∷ (voltage2, pos 50) ∷ [])
    ∷ example "sour:voltage2:lev 7.25;imm 8" "" [] ((voltage2, pos 80) ∷ [])
    ∷ example "CURR2:LIM:RMS 1.5;PEAK:LOW -3" "" [] ((rms2, pos 15) ∷ (peak_low2, minus 30) ∷ [])
    ∷ example "OUTP2 1;:OUTP1:MON:MODE CURR;:OUTP2:PON 1" "" [] ((monitor, pos 0) ∷ (output2, pos 1) ∷ (power_on2, pos 1) ∷ [])
    -- other suffixes, where the header without them spells a row; otherwise -113
    ∷ example "VOLT0 5" "" (114 ∷ []) []
    ∷ example "VOLT3?" "" (114 ∷ []) []
    ∷ example "VOLT01 5" "" (114 ∷ []) []
    ∷ example "FREQ000000000000000000000001 60" "" (114 ∷ []) []
    ∷ example "OUTP2:PON 1;MON:MODE CURR" "" (114 ∷ []) ((power_on2, pos 1) ∷ [])
    ∷ example "VOLT3:FOO 5" "" (113 ∷ []) []
    ∷ example "SOUR2:VOLT 5" "" (113 ∷ []) []
    ∷ example "VOLT_2 5" "" (113 ∷ []) []
    ∷ example "VOLT2A 5" "" (113 ∷ []) []
    ∷ example "VOLT3 5,,6" "" (102 ∷ []) []
    -- range, MAX and check 8 go by channel
    ∷ example "VOLT2:RANG R24V;LEV MAX;RANG R12V" "" (221 ∷ []) ((voltage2, pos 240) ∷ (range2, pos 1) ∷ [])
    ∷ example "VOLT2:RANG R24V;:VOLT 13" "" (222 ∷ []) ((range2, pos 1) ∷ [])
    ∷ example "VOLT2:RANG R24V;LEV 20;:VOLT:RANG R12V;:VOLT? MAX;:VOLT2? MAX" "12.0;24.0\n" [] ((voltage2, pos 200) ∷ (range2, pos 1) ∷ [])
    -- lock, exam mode and *RST are for both
    ∷ following (sent "OUTP2 1" ∷ key_turned ∷ []) "OUTP2 0;:VOLT2 5" "" (221 ∷ []) [] 0
    ∷ example "SYST:EXAM 1;:VOLT2 5.05" "" (222 ∷ []) ((exam, pos 1) ∷ [])
    ∷ example "VOLT2 5;*RST;:VOLT2?" "0.0\n" [] []
    -- and so are *SAV and *RCL; with the mark altered, and the sum, the block is no block of one channel either
    ∷ example "VOLT2 5;:VOLT 6;*SAV 3;*RST;*RCL 3;:VOLT2?" "5.0\n" [] ((voltage, pos 60) ∷ (voltage2, pos 50) ∷ [])
    ∷ following (sent "*SAV 0" ∷ altered 1 254 ∷ altered 508 73 ∷ []) "*RCL 0" "" (314 ∷ []) [] 0
    ∷ []

-- what is compared: the answer, the queue, every setting, and the status byte that look then sees
pub record Outcome : Type 0 where
  pub answer : Text
  pub queue : List ℕ
  pub values : Bool  -- they are those that the row says
  pub byte : ℕ

-- the values of settings, one by one
unfoldable pub same_values : List ℤ → List ℤ → Bool
same_values [] [] = true
same_values [] (w ∷ ws) = false
same_values (v ∷ vs) [] = false
same_values (v ∷ vs) (w ∷ ws) = le_z v w && (le_z w v && same_values vs ws)

unfoldable pub outcome : List ℤ → Box → Outcome
outcome vs b = record { answer = b.core.answer; queue = b.trouble.queue; values = same_values b.core.settings.values vs; byte = (happens b look).result.value }

unfoldable pub all_set : List (ℕ × ℤ) → List ℤ → List ℤ
all_set [] vs = vs
all_set (p ∷ ps) vs = all_set ps (set vs p.0 p.1)

unfoldable pub ran : Example → Outcome
ran e = outcome (all_set e.sets at_reset.values) (after (power_up blank) (e.before ++ sent e.line ∷ []))

unfoldable pub expected : Example → Outcome
expected e =
    record {
      answer = bytes e.answer;
      queue = e.errors;
      values = true;
      byte = e.bits + (if empty (bytes e.answer) then 0 otherwise 16) + (if empty e.errors then 0 otherwise 4);
    }

-- every line of the table leaves what 01 and 02 say
abbrev pub AllHold : Type 0
AllHold = map ran examples ≡ map expected examples
