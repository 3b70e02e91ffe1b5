-- Lines that the writer writes, computed from the definitions: up to range R24V, back to R12V, and refusals 6 and 7.
use mathlib.Core.Path.{◌≡◌, refl}
use mathlib.Core.List.{[], ◌∷◌}
use lib.IntN.{pos}
use Rattle.registers.specs.Text.{Text, if◌then◌otherwise◌, bytes, same, small}
use Rattle.registers.specs.Words.{short_form}
use Rattle.registers.specs.Answer.{in_places, decimal, tenths}
use Rattle.registers.specs.Settings.{output, voltage, range, exam, voltage2, range2, value_at, with_value, with_text, table, slots, setting_at, at_reset, wide_range, narrow, lowest, highest, within, possible_values, possible_settings, answer_of, minus}
use Rattle.registers.specs.Label.{may_stand, padded, possible_text}
use Rattle.registers.specs.declared.settings.Settings.{Settings}
use Rattle.interpreter.specs.Header.{numbered}
use Rattle.interpreter.specs.Rows.{second_of}
use Rattle.interpreter.specs.Events.{result_of}
use Rattle.writer.specs.Lines.{short_names, joined_names, header_for, line_for, label_for, slot_of, row_at, lines_to, lines_for, writable, written, aimed_to, aimed}

-- 20.0 V in range R24V, the output on, a peak limit of -0.5 A, the monitor at CURRent
abbrev high : Settings
high = with_value output (pos 1) (with_value voltage (pos 200) (with_value range (pos 1) (with_value 13 (minus 5) (with_value 3 (pos 0) at_reset))))

abbrev upward : Text
upward = bytes "OUTP 1\nOUTP:MON:MODE CURR\nVOLT:RANG R24V\nVOLT 20.0\nCURR:LIM:PEAK:LOW -0.5\n"

abbrev downward : Text
downward = bytes "OUTP 0\nOUTP:MON:MODE VOLT\nVOLT 0.0\nVOLT:RANG R12V\nCURR:LIM:PEAK:LOW -4.0\n"

-- channel 2 at 20.0 V in range R24V; brightness 60; and channel 1's output on
abbrev high2 : Settings
high2 = with_value output (pos 1) (with_value voltage2 (pos 200) (with_value range2 (pos 1) (with_value 29 (minus 5) (with_value 14 (pos 60) at_reset))))

abbrev upward2 : Text
upward2 = bytes "VOLT2:RANG R24V\nVOLT2 20.0\nCURR2:LIM:PEAK:LOW -0.5\nDISP:BRIG 60\n"

abbrev downward2 : Text
downward2 = bytes "VOLT2 0.0\nVOLT2:RANG R12V\nCURR2:LIM:PEAK:LOW -4.0\nDISP:BRIG 50\n"

pub record MetLines : Type 0 where
  pub up : lines_for at_reset high 1 ≡ upward
  pub down : lines_for high at_reset 1 ≡ downward
  pub same : written high high 1 [] ≡ result_of 0 0 []
  pub short : written at_reset (with_value output (pos 1) at_reset) 1 (0 ∷ 0 ∷ []) ≡ result_of 7 7 (0 ∷ 0 ∷ [])
  -- channel 2: its own settings and the single ones, but not channel 1's
  pub up2 : lines_for at_reset high2 2 ≡ upward2
  pub down2 : lines_for high2 at_reset 2 ≡ downward2
  pub aim2 : value_at (aimed at_reset high2 2) output ≡ pos 0
  -- the display's text, on either channel, and one that breaks its limits
  pub label : lines_for (with_text (bytes "x") at_reset) (with_text (bytes "a;b") at_reset) 2 ≡ bytes "DISP:TEXT \"a;b\"\n"
  pub no_label : lines_for (with_text (bytes "x") at_reset) at_reset 1 ≡ bytes "DISP:TEXT \"\"\n"
  pub bad_label : written at_reset (with_text (bytes "a*") at_reset) 1 [] ≡ result_of 6 0 []
  pub channel : written at_reset at_reset 3 (0 ∷ []) ≡ result_of 6 0 (0 ∷ [])
  pub exam_modes : written at_reset (with_value exam (pos 1) at_reset) 1 [] ≡ result_of 6 0 []
  pub above_range : written at_reset (with_value voltage (pos 200) at_reset) 1 [] ≡ result_of 6 0 []

pub met-lines : MetLines
unfolding if◌then◌otherwise◌ bytes same small short_form in_places decimal tenths table slots setting_at at_reset wide_range narrow lowest highest within possible_values possible_settings padded possible_text answer_of
    numbered second_of short_names joined_names header_for line_for label_for may_stand slot_of row_at lines_to writable written aimed_to
met-lines = record { up = refl; down = refl; same = refl; short = refl; up2 = refl; down2 = refl; aim2 = refl; label = refl; no_label = refl; bad_label = refl; channel = refl; exam_modes = refl; above_range = refl }
