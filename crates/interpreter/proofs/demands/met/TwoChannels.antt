-- Isolation holds of something: two histories that differ in what is given to channel 2, and in the number of its bytes, with a take that is
-- refused and a condition in the midst of a line. Computed from the definitions.
use mathlib.Core.Path.{◌≡◌, refl}
use mathlib.Core.List.{List, [], ◌∷◌, ◌++◌}
use lib.IntN.{pos}
use Rattle.registers.specs.Text.{if◌then◌otherwise◌, bytes, same, white, printable, digit, letter, word_byte, small, capital}
use Rattle.registers.specs.Check.{◌>>=◌, ◌>>◌, check}
use Rattle.registers.specs.Words.{short_form, long_form, matches}
use Rattle.registers.specs.Number.{after_sign, fraction_of, after_fraction, exponent_of, after_exponent, lowering, written, numeral_from, decimal_of, value_of, scaled, number}
use Rattle.registers.specs.Suffix.{suffixes, no_suffix, power_in, remains}
use Rattle.registers.specs.Rounding.{switched_on, nearest, size_in, rounded, size_side, side_in}
use Rattle.registers.specs.Label.{may_stand, closes, undoubled, padded}
use Rattle.registers.specs.Answer.{in_places, decimal, tenths}
use Rattle.registers.specs.Error.{event_bit}
use Rattle.registers.specs.Settings.{voltage2, value_at, table, setting_at, at_reset, wide_range, lowest, highest, within, conflict, examined, accepted, answer_of, slots, narrow}
use Rattle.registers.specs.Group.{rises, falls, events_after, condition_is}
use Rattle.registers.specs.Status.{raised, at_start}
use Rattle.registers.specs.declared.status.RegisterSet.TheVariants.{Warning}
use Rattle.interpreter.specs.Cuts.{cut_at, quote_next, cut_open, trim_end, trim}
use Rattle.interpreter.specs.Header.{name, placed, header, spells, body_of, by_first, numbered, node_matches, suffix_in}
use Rattle.interpreter.specs.Rows.{setting_rows, other_rows, rows, fits_row, find_row, second_of, on_channel, find_role}
use Rattle.interpreter.specs.Parameter.{label_deed, parameters, least, greatest, find_word, parameter, value_given, setting_deed, limit_deed, deed_of, read_figure, read_word}
use Rattle.interpreter.specs.Unit.{read_unit}
use Rattle.interpreter.specs.Box.{power_up, blank}
use Rattle.interpreter.specs.Perform.{permitted, changed, perform}
use Rattle.interpreter.specs.Reply.{reply_to, inquiry_text, joined, fits_answer, reply}
use Rattle.interpreter.specs.Line.{attempt, refuse, run_units, interrupted, finished, units_of, run_line, end_line, held, byte, piece}
use Rattle.interpreter.specs.Events.{Event, take, condition, look, taken, reported, happens, after}
use Rattle.interpreter.proofs.demands.met.RefusedLines.{text}
use Rattle.interpreter.specs.Histories.{newline, sent}
use Rattle.interpreter.specs.Demand3.{in_line}
use Rattle.interpreter.specs.Steps.{unit_steps, line_steps, end_steps, byte_steps, piece_steps, event_steps, steps}
use Rattle.interpreter.specs.Isolation.{sets_second, same as same_unit, other_value, UnitsAlike, besides, Alike, unended, ended, calm, Calm, given, answers}

-- channel 2's voltage and range are set, then channel 1 is asked, and channel 2 too
abbrev first : List Event
first = text "VOLT2:RANG R24V;LEV 5;:VOLT 6;:VOLT2?" ∷ take [] ∷ text ";:VOLT?;:VOLT2? MAX" ∷ condition Warning 1 ∷ []

abbrev other : List Event
other = text "VOLT2:RANG R12V  ;LEV 11500 " ∷ take [] ∷ condition Warning 1 ∷ text "MV;:VOLT 6;:VOLT2?;:VOLT?;:VOLT2? MAX" ∷ []

abbrev one : List Event
one = first ++ newline ∷ (look ∷ [])

abbrev two : List Event
two = other ++ newline ∷ (look ∷ [])

pub record MetIsolation : Type 0 where
  pub alike : Alike one two
  pub calm_one : Calm (steps (power_up blank) one)
  pub calm_two : Calm (steps (power_up blank) two)
  -- they do differ, on channel 2
  pub second_one : value_at (after (power_up blank) one).core.settings voltage2 ≡ pos 50
  pub second_two : value_at (after (power_up blank) two).core.settings voltage2 ≡ pos 115
  -- and tell the same of channel 1
  pub told : answers (steps (power_up blank) one) ≡ bytes "6.0" ∷ []
  pub told_too : answers (steps (power_up blank) two) ≡ bytes "6.0" ∷ []

pub met-isolation : MetIsolation
unfolding if◌then◌otherwise◌ bytes same white printable digit letter word_byte small capital ◌>>=◌ ◌>>◌ check short_form long_form matches
    after_sign fraction_of after_fraction exponent_of after_exponent lowering written numeral_from decimal_of value_of scaled suffixes no_suffix power_in remains number switched_on
    nearest size_in rounded size_side side_in in_places decimal tenths event_bit
    slots table setting_at at_reset wide_range lowest highest narrow within conflict examined accepted answer_of raised rises falls events_after condition_is at_start
    may_stand closes undoubled padded label_deed cut_at quote_next cut_open trim_end trim name placed body_of by_first header numbered node_matches suffix_in spells setting_rows other_rows rows fits_row find_row second_of on_channel find_role
    parameters least greatest find_word parameter read_word read_figure value_given setting_deed limit_deed deed_of read_unit power_up
    permitted changed reply_to inquiry_text joined fits_answer reply perform
    attempt refuse run_units interrupted finished units_of run_line end_line held byte piece taken reported happens after
    in_line sent sets_second UnitsAlike besides unit_steps line_steps end_steps byte_steps piece_steps event_steps steps calm given answers
met-isolation =
    record {
      alike = ended {d = first} {e = other} {h = look ∷ []} {g = look ∷ []} (record { first = refl; second = refl; others = refl })
          (other_value refl refl, (other_value refl refl, (same_unit refl, (same_unit refl, (same_unit refl, (same_unit refl, tt))))))
          (unended (record { first = refl; second = refl; others = refl }));
      calm_one = refl;
      calm_two = refl;
      second_one = refl;
      second_two = refl;
      told = refl;
      told_too = refl;
    }
