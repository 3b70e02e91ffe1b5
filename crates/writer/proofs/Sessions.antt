-- Sessions that the marker reads, computed from the definitions: how each of READINGS' cases comes out.
use mathlib.Core.Path.{◌≡◌, refl}
use mathlib.Core.List.{List, [], ◌∷◌, map}
use Prim.Native.String.{String}
use Rattle.registers.specs.Text.{if◌then◌otherwise◌, bytes, same, white, printable, digit, letter, word_byte, small, capital}
use Rattle.registers.specs.Check.{◌>>=◌, ◌>>◌, check}
use Rattle.registers.specs.Words.{short_form, long_form, matches}
use Rattle.registers.specs.Number.{after_sign, fraction_of, after_fraction, exponent_of, after_exponent, lowering, written, numeral_from, decimal_of, value_of, scaled, number}
use Rattle.registers.specs.Suffix.{suffixes, no_suffix, power_in, remains}
use Rattle.registers.specs.Rounding.{switched_on, nearest, size_in, rounded, size_side, side_in}
use Rattle.registers.specs.Label.{may_stand, closes, undoubled, padded}
use Rattle.registers.specs.Answer.{in_places, decimal, tenths}
use Rattle.registers.specs.Error.{event_bit, message_in, error_text}
use Rattle.registers.specs.Settings.{table, slots, setting_at, at_reset, wide_range, narrow, lowest, highest, within, conflict, examined, accepted, answer_of}
use Rattle.registers.specs.Status.{raised, oldest_read, at_start}
use Rattle.interpreter.specs.Cuts.{cut_at, quote_next, cut_open, trim_end, trim}
use Rattle.interpreter.specs.Header.{name, placed, header, spells, body_of, by_first, numbered, node_matches, suffix_in}
use Rattle.interpreter.specs.Rows.{setting_rows, other_rows, rows, fits_row, find_row, second_of, on_channel, find_role}
use Rattle.interpreter.specs.Parameter.{label_deed, parameters, least, greatest, find_word, parameter, value_given, setting_deed, deed_of, read_figure, read_word}
use Rattle.interpreter.specs.Unit.{read_unit}
use Rattle.interpreter.specs.Box.{power_up}
use Rattle.interpreter.specs.Perform.{permitted, changed, perform}
use Rattle.interpreter.specs.Reply.{reply_to, inquiry_text, joined, fits_answer, reply}
use Rattle.interpreter.specs.Line.{attempt, refuse, run_units, interrupted, finished, units_of, run_line, end_line, held, byte, piece}
use Rattle.interpreter.specs.Events.{happens}
use Rattle.interpreter.specs.Server.{lines_of}
use Rattle.writer.specs.Session.{Verdict, agree, differs, broken, line_read, marked, verdict_on}

abbrev verdicts : List (String × Verdict)
verdicts =
    ("", agree 0)
    ∷ (">VOLT 5\n>VOLT?\n<5.0\n>\n>SYST:ERR?\n<0,\"No error\"", agree 6)
    ∷ (">VOLT2 5\n>VOLT?;VOLT2?\n<0.0;5.0\n", agree 3)
    ∷ (">VOLT 5\n>VOLT?\n<5.1\n>*RST\n", differs 2 3 (bytes "5.0\n"))
    ∷ (">VOLT?\n>FREQ?\n<50.0\n", differs 1 2 (bytes "0.0\n"))
    ∷ (">VOLT?", differs 1 2 (bytes "0.0\n"))
    ∷ (">VOLT 5\n<5.0\n", differs 1 2 [])
    ∷ (">VOLT?\n<0.0\n<0.0\n", differs 1 3 [])
    ∷ ("<0.0\n", differs 1 1 [])
    ∷ (">VOLT?\n\n", broken 2)
    ∷ ("VOLT?\n", broken 1)
    ∷ (">VOLT?\n<0.0 \n", differs 1 2 (bytes "0.0\n"))
    ∷ []

pub all-marked : map (λ (v : String × Verdict). verdict_on (bytes v.0)) verdicts ≡ map (λ (v : String × Verdict). v.1) verdicts
unfolding if◌then◌otherwise◌ bytes same white printable digit letter word_byte small capital ◌>>=◌ ◌>>◌ check short_form long_form matches
    after_sign fraction_of after_fraction exponent_of after_exponent lowering written numeral_from decimal_of value_of scaled suffixes no_suffix power_in remains number switched_on
    nearest size_in rounded size_side side_in in_places decimal tenths event_bit message_in error_text
    table slots setting_at at_reset wide_range narrow lowest highest within conflict examined accepted answer_of raised oldest_read at_start
    may_stand closes undoubled padded label_deed cut_at quote_next cut_open trim_end trim name placed body_of by_first header numbered node_matches suffix_in spells setting_rows other_rows rows fits_row find_row second_of on_channel find_role
    parameters least greatest find_word parameter read_word read_figure value_given setting_deed deed_of read_unit power_up
    permitted changed reply_to inquiry_text joined fits_answer reply perform
    attempt refuse run_units interrupted finished units_of run_line end_line held byte piece happens lines_of line_read marked
all-marked = refl
