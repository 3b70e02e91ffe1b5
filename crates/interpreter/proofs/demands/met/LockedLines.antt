-- The lock's law holds of something: lines that try to change the settings of a locked box whose output is on, and one that switches it
-- off. Computed from the definitions.
use mathlib.Core.Path.{◌≡◌, refl}
use mathlib.Core.Bool.{true}
use mathlib.Core.List.{List, [], ◌∷◌, ◌++◌}
use Prim.Native.Nat.{ℕ}
use lib.IntN.{ℤ, pos}
use Rattle.registers.specs.Text.{if◌then◌otherwise◌, bytes, same, white, printable, digit, letter, word_byte, small, capital, every}
use Rattle.registers.specs.Check.{◌>>=◌, ◌>>◌, check}
use Rattle.registers.specs.Words.{short_form, long_form, matches}
use Rattle.registers.specs.Number.{after_sign, fraction_of, after_fraction, exponent_of, after_exponent, lowering, written, numeral_from, decimal_of, value_of, scaled, number}
use Rattle.registers.specs.Suffix.{suffixes, no_suffix, power_in, remains}
use Rattle.registers.specs.Rounding.{switched_on, nearest, size_in, rounded, size_side, side_in}
use Rattle.registers.specs.Answer.{in_places, decimal, tenths}
use Rattle.registers.specs.Error.{event_bit}
use Rattle.registers.specs.Settings.{output, voltage, value_at, table, setting_at, at_reset, wide_range, lowest, highest, within, conflict, examined, accepted, answer_of, slots, narrow}
use Rattle.registers.specs.Group.{rises, falls, events_after, condition_is}
use Rattle.registers.specs.Status.{raised, locked, at_start}
use Rattle.registers.specs.declared.status.RegisterSet.TheVariants.{Lock, Warning}
use Rattle.registers.specs.Label.{may_stand, closes, undoubled, padded}
use Rattle.interpreter.specs.Cuts.{cut_at, quote_next, cut_open, trim_end, trim}
use Rattle.interpreter.specs.Header.{name, placed, header, spells, body_of, by_first, numbered, node_matches, suffix_in}
use Rattle.interpreter.specs.Rows.{setting_rows, other_rows, rows, fits_row, find_row, second_of, on_channel, find_role}
use Rattle.interpreter.specs.Parameter.{label_deed, parameters, least, greatest, find_word, parameter, value_given, setting_deed, deed_of, read_figure, read_word}
use Rattle.interpreter.specs.Unit.{read_unit}
use Rattle.interpreter.specs.Box.{power_up, blank}
use Rattle.interpreter.specs.Perform.{permitted, changed, perform}
use Rattle.interpreter.specs.Reply.{reply_to, inquiry_text, joined, fits_answer, reply}
use Rattle.interpreter.specs.Line.{attempt, refuse, run_units, interrupted, finished, units_of, run_line, end_line, held, byte, piece}
use Rattle.interpreter.specs.Events.{Event, take, condition, look, taken, reported, happens, after}
use Rattle.interpreter.specs.Lock.{leaves_key}
use Rattle.interpreter.proofs.demands.met.RefusedLines.{text}

abbrev locking : List Event
locking = text "OUTP 1;:VOLT 5\n" ∷ condition Lock 4 ∷ []

abbrev tried : List Event
tried = text "VOLT 6\n*RST\nOUTP 1;OUTP 0\n" ∷ condition Warning 1 ∷ look ∷ []

abbrev switched : List Event
switched = text "OUTP 0.4\nOUTP:PON 0\n" ∷ take [] ∷ []

-- a setting after these events
abbrev setting_after : ℕ → List Event → ℤ
setting_after i es = value_at (after (power_up blank) es).core.settings i

pub record MetLock : Type 0 where
  pub locks : locked (after (power_up blank) locking).core.registers ≡ true
  pub leaves : every leaves_key (tried ++ switched) ≡ true
  pub on : setting_after output (locking ++ tried) ≡ pos 1
  pub off : setting_after output (locking ++ tried ++ switched) ≡ pos 0
  pub stays : setting_after voltage (locking ++ tried ++ switched) ≡ pos 50
  pub errors : (after (power_up blank) (locking ++ tried ++ switched)).trouble.queue ≡ 221 ∷ 221 ∷ 221 ∷ 221 ∷ 420 ∷ []

pub met-lock : MetLock
unfolding if◌then◌otherwise◌ bytes same white printable digit letter word_byte small capital ◌>>=◌ ◌>>◌ check short_form long_form matches
    after_sign fraction_of after_fraction exponent_of after_exponent lowering written numeral_from decimal_of value_of scaled suffixes no_suffix power_in remains number switched_on
    nearest size_in rounded size_side side_in in_places decimal tenths event_bit
    slots table setting_at at_reset wide_range lowest highest narrow within conflict examined accepted answer_of raised rises falls events_after condition_is at_start
    may_stand closes undoubled padded label_deed cut_at quote_next cut_open trim_end trim name placed body_of by_first header numbered node_matches suffix_in spells setting_rows other_rows rows fits_row find_row second_of on_channel find_role
    parameters least greatest find_word parameter read_word read_figure value_given setting_deed deed_of read_unit power_up
    permitted changed reply_to inquiry_text joined fits_answer reply perform
    attempt refuse run_units interrupted finished units_of run_line end_line held byte piece taken reported happens after
met-lock = record { locks = refl; leaves = refl; on = refl; off = refl; stays = refl; errors = refl }
