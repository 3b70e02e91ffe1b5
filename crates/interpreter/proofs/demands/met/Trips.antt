-- Further round trips that meet the premises of demand 2: with white space and other spellings, in exam mode, from a hand-made state; and
-- one that lacks the lock's premise alone and is refused for it. All computed from the definitions.
use mathlib.Core.Path.{◌≡◌, refl}
use mathlib.Core.Bool.{true, false}
use mathlib.Core.List.{List, [], ◌∷◌, ◌++◌}
use Prim.Native.Nat.{ℕ, ◌<◌}
use Rattle.registers.specs.Text.{Text, if◌then◌otherwise◌, bytes, same, white, printable, digit, letter, word_byte, small, capital}
use Rattle.registers.specs.Check.{◌>>=◌, ◌>>◌, check}
use Rattle.registers.specs.Words.{short_form, long_form, matches}
use Rattle.registers.specs.Number.{after_sign, fraction_of, after_fraction, exponent_of, after_exponent, lowering, written, numeral_from, decimal_of, value_of, scaled, number}
use Rattle.registers.specs.Suffix.{suffixes, no_suffix, power_in, remains}
use Rattle.registers.specs.Rounding.{switched_on, nearest, size_in, rounded, size_side, side_in}
use Rattle.registers.specs.Answer.{in_places, decimal, tenths}
use Rattle.registers.specs.Error.{event_bit}
use Rattle.registers.specs.Queue.{may_be_queued, queueable}
use Rattle.registers.specs.Settings.{count, voltage, table, setting_at, at_reset, wide_range, lowest, highest, within, conflict, examined, accepted, answer_of, slots, narrow}
use Rattle.registers.specs.Group.{rises, falls, events_after, condition_is, possible_group}
use Rattle.registers.specs.Status.{raised, locked, at_start, registers_of, possible_registers, possible_trouble}
use Rattle.registers.specs.declared.status.RegisterSet.TheVariants.{Lock}
use Rattle.registers.proofs.settings.Possible.{reset-possible}
use Rattle.registers.specs.Label.{may_stand, closes, undoubled, padded}
use Rattle.interpreter.specs.Cuts.{cut_at, quote_next, cut_open, trim_end, trim}
use Rattle.interpreter.specs.Header.{name, placed, header, spells, body_of, by_first, numbered, node_matches, suffix_in}
use Rattle.interpreter.specs.Rows.{setting_rows, other_rows, rows, fits_row, find_row, second_of, on_channel, find_role}
use Rattle.interpreter.specs.Parameter.{label_deed, parameters, least, greatest, find_word, parameter, value_given, setting_deed, deed_of, read_figure, read_word}
use Rattle.interpreter.specs.Unit.{read_unit}
use Rattle.interpreter.specs.Box.{Box, box, power_up, blank}
use Rattle.interpreter.specs.Perform.{permitted, changed, perform}
use Rattle.interpreter.specs.Reply.{reply_to, inquiry_text, joined, fits_answer, reply}
use Rattle.interpreter.specs.Line.{attempt, refuse, run_units, interrupted, finished, units_of, run_line, end_line, held, byte, piece}
use Rattle.interpreter.specs.Events.{Event, take, condition, taken, reported, happens, possible_core, possible, Own, after}
use Rattle.interpreter.specs.Demand3.{refusal, line_refusal, in_line}
use Rattle.interpreter.specs.Demand2.{tabled, display, Spelling, Sends, Trip, Premises, sent_back, taken_from}
use Rattle.interpreter.proofs.Possible.{power-up-own}
use Rattle.interpreter.proofs.demands.met.RefusedLines.{text}
use Rattle.interpreter.proofs.demands.met.EveryRow.{trips, buffer, trip_at, PremisesAt, every-row}

-- the premises of one, with white space, other spellings, a take into no buffer, and the next line's bytes before the take
abbrev before : List Event
before = text " sour:VOLT? " ∷ []

abbrev early : List Event
early = take [] ∷ text "\t:SOURce:volt:AMPL" ∷ []

abbrev late : List Event
late = text "  0.0 " ∷ []

-- and of one in exam mode
abbrev in_exam : List Event
in_exam = text "SYST:EXAM 1\nVOLT 5.1\nVOLT?" ∷ []

abbrev sent_in_exam : List Event
sent_in_exam = text "VOLT 5.1" ∷ []

-- and of one from a hand-made state: half a line, an answer without its newline, every event bit, and -350 twice
abbrev other : Box
other = box (record { settings = at_reset; registers = registers_of at_start; line = bytes "VO"; overlong = false; answer = bytes "X"; memory = blank }) (record { events = 255; queue = 350 ∷ 350 ∷ [] })

abbrev rest_of_line : List Event
rest_of_line = text "LT?" ∷ []

abbrev sent_other : List Event
sent_other = text "VOLT 0.0" ∷ []

other-own : Own other
unfolding possible possible_core possible_registers possible_trouble possible_group may_be_queued queueable power_up at_start bytes
other-own = record { could = rw reset-possible; values = (power-up-own blank).values }

-- of the display's text, which has a separator and a blank in it
abbrev showing : List Event
showing = text "DISP:TEXT 'a; b'\n:DISP:TEXT?" ∷ []

abbrev sent_text : List Event
sent_text = text "DISP:TEXT \"a; b\"" ∷ []

-- and of one that lacks the lock's premise alone, and is refused for it
abbrev unlocked : List Event
unlocked = text "VOLT?" ∷ []

abbrev sent_locked : List Event
sent_locked = condition Lock 1 ∷ text "VOLT 0.0" ∷ []

pub record LockMatters : Type 0 where
  pub trip : Trip (power_up blank) (tabled voltage) (bytes "0.0") buffer (taken_from (power_up blank) unlocked [] buffer) unlocked [] sent_locked
  pub locks : locked (after (power_up blank) (sent_back unlocked [] buffer sent_locked)).core.registers ≡ true
  pub refused_by : line_refusal (after (power_up blank) (sent_back unlocked [] buffer sent_locked)) ≡ 221

pub record Met2 : Type 0 where
  pub every_row : (i : ℕ) → i < count → PremisesAt i (trip_at trips i)
  pub one_more : Premises (power_up blank) (tabled voltage) (bytes "0.0") buffer (taken_from (power_up blank) before early buffer) before early late
  pub exam_on : examined (after (power_up blank) in_exam).core.settings ≡ true
  pub exam_trip : Premises (power_up blank) (tabled voltage) (bytes "5.1") buffer (taken_from (power_up blank) in_exam [] buffer) in_exam [] sent_in_exam
  pub other_trip : Premises other (tabled voltage) (bytes "0.0") buffer (taken_from other rest_of_line [] buffer) rest_of_line [] sent_other
  pub text_trip : Premises (power_up blank) display (bytes "\"a; b\"") buffer (taken_from (power_up blank) showing [] buffer) showing [] sent_text
  pub lock_matters : LockMatters

pub met2 : Met2
unfolding if◌then◌otherwise◌ bytes same white printable digit letter word_byte small capital ◌>>=◌ ◌>>◌ check short_form long_form matches
    after_sign fraction_of after_fraction exponent_of after_exponent lowering written numeral_from decimal_of value_of scaled suffixes no_suffix power_in remains number switched_on
    nearest size_in rounded size_side side_in in_places decimal tenths event_bit
    slots table setting_at at_reset wide_range lowest highest narrow within conflict examined accepted answer_of raised rises falls events_after condition_is at_start
    may_stand closes undoubled padded label_deed cut_at quote_next cut_open trim_end trim name placed body_of by_first header numbered node_matches suffix_in spells setting_rows other_rows rows fits_row find_row second_of on_channel find_role
    parameters least greatest find_word parameter read_word read_figure value_given setting_deed deed_of read_unit power_up
    permitted changed reply_to inquiry_text joined fits_answer reply perform
    attempt refuse run_units interrupted finished units_of run_line end_line held byte piece taken reported happens after
    in_line refusal line_refusal
met2 =
    let spelled : Spelling (tabled voltage) (bytes "VOLT") = record { read = _; reads = refl; sets = refl; row = refl } in
    let sent : (b : Box) (a : Text) → b.core.overlong ≡ false → b.core.line ≡ bytes "VOLT" ++ (bytes " " ++ (a ++ [])) → Sends (tabled voltage) a b =
    λ b a w l. record {
      whole = w;
      left = [];
      header = bytes "VOLT";
      gap = bytes " ";
      right = [];
      line = l;
      spelling = spelled;
      left_white = refl;
      gap_white = refl;
      gap_there = refl;
      right_white = refl;
    } in
    record {
      every_row = every-row;
      one_more = record {
        trip = record {
          own = (power-up-own blank);
          first = refl;
          second = refl;
          asks = record { whole = refl; alone = refl; path = _; text = _; asks = refl };
          took = record { number = refl; bytes = refl };
          sends = record {
            whole = refl;
            left = bytes "\t";
            header = bytes ":SOURce:volt:AMPL";
            gap = bytes "  ";
            right = bytes " ";
            line = refl;
            spelling = record { read = _; reads = refl; sets = refl; row = refl };
            left_white = refl;
            gap_white = refl;
            gap_there = refl;
            right_white = refl;
          };
        };
        free = refl;
      };
      exam_on = refl;
      exam_trip = record {
        trip = record {
          own = (power-up-own blank);
          first = refl;
          second = refl;
          asks = record { whole = refl; alone = refl; path = _; text = _; asks = refl };
          took = record { number = refl; bytes = refl };
          sends = sent _ (bytes "5.1") refl refl;
        };
        free = refl;
      };
      other_trip = record {
        trip = record {
          own = other-own;
          first = refl;
          second = refl;
          asks = record { whole = refl; alone = refl; path = _; text = _; asks = refl };
          took = record { number = refl; bytes = refl };
          sends = sent _ (bytes "0.0") refl refl;
        };
        free = refl;
      };
      text_trip = record {
        trip = record {
          own = (power-up-own blank);
          first = refl;
          second = refl;
          asks = record { whole = refl; alone = refl; path = _; text = _; asks = refl };
          took = record { number = refl; bytes = refl };
          sends = record {
            whole = refl;
            left = [];
            header = bytes "DISP:TEXT";
            gap = bytes " ";
            right = [];
            line = refl;
            spelling = record { read = _; reads = refl; sets = refl; row = refl };
            left_white = refl;
            gap_white = refl;
            gap_there = refl;
            right_white = refl;
          };
        };
        free = refl;
      };
      lock_matters = record {
        trip = record {
          own = (power-up-own blank);
          first = refl;
          second = refl;
          asks = record { whole = refl; alone = refl; path = _; text = _; asks = refl };
          took = record { number = refl; bytes = refl };
          sends = sent _ (bytes "0.0") refl refl;
        };
        locks = refl;
        refused_by = refl;
      };
    }
