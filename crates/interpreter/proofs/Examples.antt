-- The worked lines of 01 and 02, computed from the definitions.
use mathlib.Core.Path.{refl}
use Rattle.registers.specs.Text.{if◌then◌otherwise◌, bytes, same, white, printable, digit, letter, word_byte, small, capital}
use Rattle.registers.specs.Check.{◌>>=◌, ◌>>◌, check}
use Rattle.registers.specs.Words.{short_form, long_form, matches}
use Rattle.registers.specs.Number.{after_sign, fraction_of, after_fraction, exponent_of, after_exponent, lowering, written, numeral_from, decimal_of, value_of, scaled, number}
use Rattle.registers.specs.Suffix.{suffixes, no_suffix, power_in, remains}
use Rattle.registers.specs.Rounding.{switched_on, nearest, size_in, rounded, size_side, side_in}
use Rattle.registers.specs.Answer.{in_places, decimal, tenths}
use Rattle.registers.specs.Error.{event_bit}
use Rattle.registers.specs.Settings.{table, slots, narrow, setting_at, at_reset, wide_range, lowest, highest, within, conflict, examined, accepted, answer_of}
use Rattle.registers.specs.Group.{rises, falls, events_after, condition_is, event_read}
use Rattle.registers.specs.Status.{raised, completed, without_bit6, set_bits, summary, status_byte, stored_in, register_in, at_start}
use Rattle.registers.specs.Label.{may_stand, closes, undoubled, padded, possible_text}
use Rattle.interpreter.specs.Cuts.{cut_at, quote_next, cut_open, trim_end, trim}
use Rattle.interpreter.specs.Header.{name, placed, header, spells, body_of, by_first, numbered, node_matches, suffix_in}
use Rattle.interpreter.specs.Rows.{setting_rows, other_rows, rows, fits_row, find_row, second_of, on_channel, find_role}
use Rattle.interpreter.specs.Parameter.{label_deed, parameters, least, greatest, find_word, parameter, value_given, setting_deed, limit_deed, register_deed, deed_of, store_given, place_given, saving_deed, read_figure, read_word}
use Rattle.interpreter.specs.Unit.{read_unit}
use Rattle.registers.specs.Settings as limits
use Rattle.registers.specs.Setup.{weighted, low_first, in_bytes, checks, shifted, unshifted, value_in, values_in, saved_text, read_in, marked, settings_in, bytes_of, body, contents, block_of, recallable, block_at, saved_at}
use Rattle.interpreter.specs.Box.{power_up, blank}
use Rattle.interpreter.specs.Perform.{permitted, changed, set_up, perform}
use Rattle.interpreter.specs.Reply.{reply_to, inquiry_text, joined, fits_answer, reply}
use Rattle.interpreter.specs.Line.{attempt, refuse, run_units, interrupted, finished, units_of, run_line, end_line, held, byte, piece}
use Rattle.interpreter.specs.Events.{reported, happens, after}
use Rattle.interpreter.specs.Examples.{examples, same_values, outcome, ran, all_set, expected, AllHold}

pub all_hold : AllHold
unfolding if◌then◌otherwise◌ bytes same white printable digit letter word_byte small capital ◌>>=◌ ◌>>◌ check short_form long_form matches
    after_sign fraction_of after_fraction exponent_of after_exponent lowering written numeral_from decimal_of value_of scaled suffixes no_suffix power_in remains number
    switched_on nearest size_in rounded size_side side_in in_places decimal tenths event_bit
    slots table setting_at at_reset wide_range lowest highest narrow within conflict examined accepted answer_of raised completed without_bit6 rises falls events_after condition_is event_read set_bits summary status_byte stored_in register_in at_start
    may_stand closes undoubled padded label_deed cut_at quote_next cut_open trim_end trim name placed body_of by_first header numbered node_matches suffix_in spells setting_rows other_rows rows fits_row find_row second_of on_channel find_role
    parameters least greatest find_word parameter read_word read_figure value_given setting_deed limit_deed register_deed store_given place_given saving_deed deed_of read_unit power_up blank
    permitted changed set_up weighted low_first in_bytes checks shifted unshifted value_in values_in saved_text read_in marked settings_in bytes_of body contents block_of recallable block_at saved_at limits.possible_settings limits.possible_values possible_text reply_to inquiry_text joined fits_answer reply perform
    attempt refuse run_units interrupted finished units_of run_line end_line held byte piece reported happens after
    examples same_values outcome ran all_set expected
all_hold = refl
