-- Demand 3 holds of something: lines that meet its premises, each outcome of what comes first afterwards, and both histories in pieces of
-- their own. All computed from the definitions, but for the overlong line, which has too many bytes for that and is by the law of
-- bytes that are held.
use mathlib.Core.Path.{◌≡◌, refl, sym, ◌∙◌}
use mathlib.Core.List.{List, [], ◌∷◌, ◌++◌, map}
use Prim.Native.Nat.{ℕ, ◌+◌}
use Prim.Native.String.{String}
use native.Mathlib.Omega.{arith}
use Rattle.registers.specs.Text.{Text, if◌then◌otherwise◌, bytes, same, white, printable, digit, letter, word_byte, small, capital}
use Rattle.registers.specs.Check.{◌>>=◌, ◌>>◌, check}
use Rattle.registers.specs.Words.{short_form, long_form, matches}
use Rattle.registers.specs.Number.{after_sign, fraction_of, after_fraction, exponent_of, after_exponent, lowering, written, numeral_from, decimal_of, value_of, scaled, number}
use Rattle.registers.specs.Suffix.{suffixes, no_suffix, power_in, remains}
use Rattle.registers.specs.Rounding.{switched_on, nearest, size_in, rounded, size_side, side_in}
use Rattle.registers.specs.Answer.{in_places, decimal, tenths}
use Rattle.registers.specs.Error.{event_bit}
use Rattle.registers.specs.Settings.{table, setting_at, at_reset, wide_range, lowest, highest, within, conflict, examined, accepted, answer_of, slots, narrow}
use Rattle.registers.specs.Group.{rises, falls, events_after, condition_is}
use Rattle.registers.specs.Status.{raised, at_start}
use Rattle.registers.specs.Label.{may_stand, closes, undoubled, padded}
use Rattle.interpreter.specs.Cuts.{cut_at, quote_next, cut_open, trim_end, trim}
use Rattle.interpreter.specs.Header.{name, placed, header, spells, body_of, by_first, numbered, node_matches, suffix_in}
use Rattle.interpreter.specs.Rows.{setting_rows, other_rows, rows, fits_row, find_row, second_of, on_channel, find_role}
use Rattle.interpreter.specs.Parameter.{label_deed, parameters, least, greatest, find_word, parameter, value_given, setting_deed, deed_of, read_figure, read_word}
use Rattle.interpreter.specs.Unit.{read_unit}
use Rattle.interpreter.specs.Box.{most_line, power_up, blank}
use Rattle.interpreter.specs.Perform.{permitted, changed, perform}
use Rattle.interpreter.specs.Reply.{reply_to, inquiry_text, joined, fits_answer, reply}
use Rattle.interpreter.specs.Line.{attempt, refuse, run_units, interrupted, finished, units_of, run_line, end_line, held, byte, piece}
use Rattle.interpreter.specs.Events.{Event, received, take, taken, reported, happens, after}
use Rattle.interpreter.specs.Histories.{moments, Recut, results_of}
use Rattle.interpreter.specs.Demand3.{obeyed, refusal, join_units, cut_line, line_refusal, keep, in_line, at_end, as_sent, as_cut, ALine, Watch, neither, asked, cleared, watch_units, watch_line, watch_byte, watch_piece, watch_event, watch}
use Rattle.interpreter.specs.Edges.{line_of}
use Rattle.interpreter.proofs.Edges.{under-way, overlong-is}

abbrev pub text : String → Event
text s = received (bytes s)

-- a line refused by n, and what is left of it
pub record Cut (before during : List Event) (n : ℕ) (left : Text) : Type 0 where
  pub line : ALine blank before during
  pub refused_by : line_refusal (at_end blank before during) ≡ n
  pub cut_to : cut_line (at_end blank before during) ≡ left

-- in two pieces with a take between them, refused at its second unit
abbrev during : List Event
during = text "VOLT 5;VO" ∷ take [] ∷ text "LTA 6" ∷ []

-- after another line, refused at the third of its four units, with an answer made before
abbrev earlier : List Event
earlier = text "FREQ 70\n" ∷ []

abbrev at_third : List Event
at_third = text "VOLT 5;VOLT?;FREQ 1;FREQ 60" ∷ []

-- overlong by one byte, so that nothing of it is kept
abbrev too_long : List Event
too_long = line_of (most_line + 1)

abbrev later : List Event
later = text "*CLS\nVOLT?\n" ∷ take [] ∷ []

-- what comes first afterwards
unfoldable pub watched : String → Watch
watched s = watch (after (power_up blank) (as_sent [] during)) (text s ∷ [])

pub record Met3 : Type 0 where
  pub second : Cut [] during 113 (bytes "VOLT 5")
  pub third : Cut earlier at_third 222 (bytes "VOLT 5;VOLT?")
  pub third_answers : (after (power_up blank) (as_sent earlier at_third)).core.answer ≡ bytes "5.0\n"
  pub overlong : Cut [] too_long 363 []
  pub comes_first : map watched ("VOLT?\n" ∷ "VOLT 1;*CLS;*ESR?\n" ∷ "SYST:ERR?;*CLS\n" ∷ []) ≡ neither ∷ cleared ∷ asked ∷ []
  -- the history, and the one with the line cut, each in pieces of its own that go on past the line's end
  pub in_pieces : Recut (text "VOLT 5;VO" ∷ take [] ∷ text "LTA 6\n*C" ∷ text "LS\nVOLT?\n" ∷ take [] ∷ []) (as_sent [] during ++ later)
  pub cut_in_pieces : Recut (text "VOL" ∷ text "T 5" ∷ take [] ∷ text "\n*CLS\nVOLT?\n" ∷ take [] ∷ []) (as_cut blank [] during ++ later)

too-long : Cut [] too_long 363 []
unfolding line_refusal cut_line power_up after if◌then◌otherwise◌
too-long =
    let long = overlong-is (most_line + 1) in
    let refused : line_refusal (at_end blank [] too_long) ≡ 363 = rw long in
    record {
      line = record { begins = (refl, refl); under_way = under-way (most_line + 1); other = λ e. absurd (omega (arith, sym refused ∙ e)) };
      refused_by = refused;
      cut_to = rw long;
    }

pub met3 : Met3
unfolding if◌then◌otherwise◌ bytes same white printable digit letter word_byte small capital ◌>>=◌ ◌>>◌ check short_form long_form matches
    after_sign fraction_of after_fraction exponent_of after_exponent lowering written numeral_from decimal_of value_of scaled suffixes no_suffix power_in remains number switched_on
    nearest size_in rounded size_side side_in in_places decimal tenths event_bit
    slots table setting_at at_reset wide_range lowest highest narrow within conflict examined accepted answer_of raised rises falls events_after condition_is at_start
    may_stand closes undoubled padded label_deed cut_at quote_next cut_open trim_end trim name placed body_of by_first header numbered node_matches suffix_in spells setting_rows other_rows rows fits_row find_row second_of on_channel find_role
    parameters least greatest find_word parameter read_word read_figure value_given setting_deed deed_of read_unit power_up
    permitted changed reply_to inquiry_text joined fits_answer reply perform
    attempt refuse run_units interrupted finished units_of run_line end_line held byte piece taken reported happens after results_of moments
    in_line obeyed refusal join_units cut_line line_refusal keep watch_units watch_line watch_byte watch_piece watch_event watch watched
met3 =
    let two : line_refusal (at_end blank [] during) ≡ 113 = refl in
    let three : line_refusal (at_end blank earlier at_third) ≡ 222 = refl in
    record {
      second = record {
        line = record { begins = (refl, refl); under_way = refl; other = λ e. absurd (omega (arith, sym two ∙ e)) };
        refused_by = two;
        cut_to = refl;
      };
      third = record {
        line = record { begins = (refl, refl); under_way = refl; other = λ e. absurd (omega (arith, sym three ∙ e)) };
        refused_by = three;
        cut_to = refl;
      };
      third_answers = refl;
      overlong = too-long;
      comes_first = refl;
      in_pieces = refl;
      cut_in_pieces = refl;
    }
