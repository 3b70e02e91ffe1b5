-- Demand 3 of what is written holds of something: a line that is refused at its second unit, after another line, and each outcome of what comes
-- first in the lines after it. Computed from the definitions.
use mathlib.Core.Path.{◌≡◌, refl}
use Prim.Native.String.{String}
use native.Mathlib.Omega.{arith}
use Rattle.registers.specs.Text.{Text, if◌then◌otherwise◌, bytes, same, white, printable, digit, letter, word_byte, small, capital}
use Rattle.registers.specs.Check.{◌>>=◌, ◌>>◌, check}
use Rattle.registers.specs.Words.{short_form, long_form, matches}
use Rattle.registers.specs.Number.{after_sign, fraction_of, after_fraction, exponent_of, after_exponent, lowering, written, numeral_from, decimal_of, value_of, scaled, number}
use Rattle.registers.specs.Suffix.{suffixes, no_suffix, power_in, remains}
use Rattle.registers.specs.Rounding.{switched_on, nearest, size_in, rounded, size_side, side_in}
use Rattle.registers.specs.Answer.{in_places, decimal, tenths}
use Rattle.registers.specs.Error.{event_bit}
use Rattle.registers.specs.Settings.{table, setting_at, at_reset, wide_range, lowest, highest, within, conflict, examined, accepted, answer_of, slots, narrow}
use Rattle.registers.specs.Group.{rises, falls, events_after, condition_is}
use Rattle.registers.specs.Status.{raised, at_start}
use Rattle.registers.specs.Label.{may_stand, closes, undoubled, padded}
use Rattle.interpreter.specs.Cuts.{cut_at, quote_next, cut_open, trim_end, trim}
use Rattle.interpreter.specs.Header.{name, placed, header, spells, body_of, by_first, numbered, node_matches, suffix_in}
use Rattle.interpreter.specs.Rows.{setting_rows, other_rows, rows, fits_row, find_row, second_of, on_channel, find_role}
use Rattle.interpreter.specs.Parameter.{label_deed, parameters, least, greatest, find_word, parameter, value_given, setting_deed, deed_of, read_figure, read_word}
use Rattle.interpreter.specs.Unit.{read_unit}
use Rattle.interpreter.specs.Box.{power_up, blank}
use Rattle.interpreter.specs.Perform.{permitted, changed, perform}
use Rattle.interpreter.specs.Reply.{reply_to, inquiry_text, joined, fits_answer, reply}
use Rattle.interpreter.specs.Line.{attempt, refuse, run_units, interrupted, finished, units_of, run_line, end_line, held, byte, piece}
use Rattle.interpreter.specs.Events.{happens}
use Rattle.interpreter.specs.Server.{lines_of, heard, answers_to}
use Rattle.interpreter.specs.Demand3.{obeyed, refusal, join_units, cut_line, line_refusal, in_line, Watch, neither, asked, cleared, watch_units, watch_line, watch_byte, watch_piece, watch_event}
use Rattle.interpreter.specs.Written.{SentLine, cut_text, input, after_line, watch_heard}

abbrev before : Text
before = bytes "FREQ?\n"

abbrev line : Text
line = bytes "VOLT 5;VOLTA 6"

-- what comes first in these lines after it
abbrev first-in : String → Watch
first-in s = watch_heard (after_line blank before line) (lines_of (bytes s))

pub record MetWritten : Type 0 where
  pub sent : SentLine blank before line
  pub cut_to : cut_text blank before line ≡ bytes "VOLT 5"
  pub neither : first-in "VOLT?\n" ≡ neither
  pub asked : first-in "VOLT?\nSYST:ERR?\n*CLS\n" ≡ asked
  pub cleared : first-in "VOLT?\n*CLS\nSYST:ERR?\n" ≡ cleared
  pub answers : answers_to (power_up blank) (lines_of (input before line (bytes "VOLT?\n*CLS\nFREQ?\n"))) ≡ bytes "50.0\n5.0\n50.0\n"

pub met-written : MetWritten
unfolding if◌then◌otherwise◌ bytes same white printable digit letter word_byte small capital ◌>>=◌ ◌>>◌ check short_form long_form matches
    after_sign fraction_of after_fraction exponent_of after_exponent lowering written numeral_from decimal_of value_of scaled suffixes no_suffix power_in remains number switched_on
    nearest size_in rounded size_side side_in in_places decimal tenths event_bit
    slots table setting_at at_reset wide_range lowest highest narrow within conflict examined accepted answer_of raised rises falls events_after condition_is at_start
    may_stand closes undoubled padded label_deed cut_at quote_next cut_open trim_end trim name placed body_of by_first header numbered node_matches suffix_in spells setting_rows other_rows rows fits_row find_row second_of on_channel find_role
    parameters least greatest find_word parameter read_word read_figure value_given setting_deed deed_of read_unit power_up
    permitted changed reply_to inquiry_text joined fits_answer reply perform
    attempt refuse run_units interrupted finished units_of run_line end_line held byte piece happens
    obeyed refusal join_units cut_line line_refusal in_line watch_units watch_line watch_byte watch_piece watch_event watch_heard lines_of heard answers_to
met-written =
    record {
      sent = record { begins = (refl, refl); alone = refl; other = λ e. omega (arith, e) };
      cut_to = refl;
      neither = refl;
      asked = refl;
      cleared = refl;
      answers = refl;
    }
