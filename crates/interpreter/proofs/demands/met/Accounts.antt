-- 02, #112 holds of something: a queue that runs over twice, with reads between, a *CLS, and an answer that is never taken. Computed from the
-- definitions.
use mathlib.Core.Path.{◌≡◌, refl}
use mathlib.Core.List.{List, [], ◌∷◌, ◌++◌}
use Prim.Native.Nat.{ℕ}
use lib.ListN.{take, drop, replicate}
use Rattle.registers.specs.Text.{if◌then◌otherwise◌, bytes, same, white, printable, digit, letter, word_byte, small, capital}
use Rattle.registers.specs.Check.{◌>>=◌, ◌>>◌, check}
use Rattle.registers.specs.Words.{short_form, long_form, matches}
use Rattle.registers.specs.Number.{after_sign, fraction_of, after_fraction, exponent_of, after_exponent, lowering, written, numeral_from, decimal_of, value_of, scaled, number}
use Rattle.registers.specs.Suffix.{suffixes, no_suffix, power_in, remains}
use Rattle.registers.specs.Rounding.{switched_on, nearest, size_in, rounded, size_side, side_in}
use Rattle.registers.specs.Label.{may_stand, closes, undoubled, padded}
use Rattle.registers.specs.Answer.{in_places, decimal, tenths}
use Rattle.registers.specs.Error.{event_bit, message_in, error_text}
use Rattle.registers.specs.Settings.{table, slots, setting_at, at_reset, wide_range, narrow, lowest, highest, within, conflict, examined, accepted, answer_of}
use Rattle.registers.specs.Status.{raised, oldest_read, at_start}
use Rattle.interpreter.specs.Cuts.{cut_at, quote_next, cut_open, trim_end, trim}
use Rattle.interpreter.specs.Header.{name, placed, header, spells, body_of, by_first, numbered, node_matches, suffix_in}
use Rattle.interpreter.specs.Rows.{setting_rows, other_rows, rows, fits_row, find_row, second_of, on_channel, find_role}
use Rattle.interpreter.specs.Parameter.{label_deed, parameters, least, greatest, find_word, parameter, value_given, setting_deed, deed_of, read_figure, read_word}
use Rattle.interpreter.specs.Unit.{read_unit}
use Rattle.interpreter.specs.Box.{Box, power_up, answer_is, blank}
use Rattle.interpreter.specs.Perform.{permitted, changed, perform}
use Rattle.interpreter.specs.Reply.{reply_to, inquiry_text, joined, fits_answer, reply}
use Rattle.interpreter.specs.Line.{attempt, refuse, run_units, interrupted, finished, units_of, run_line, end_line, held, byte, piece}
use Rattle.interpreter.specs.Events.{Event, take as takes, taken, happens, after}
use Rattle.interpreter.specs.Steps.{Step, tries, unit_steps, line_steps, end_steps, byte_steps, piece_steps, event_steps, steps}
use Rattle.interpreter.specs.Account.{raises, act_of, kept, full_at_next, unlost, read_in, queue}
use Rattle.interpreter.proofs.demands.met.RefusedLines.{text}

-- an error before a *CLS; then fifteen -102, a -109 that is the sixteenth, a -113 that finds the queue full, and one more
abbrev full : List Event
full = text "VOLT\n*CLS\n;\n;\n;\n;\n;\n;\n;\n;\n;\n;\n;\n;\n;\n;\n;\nVOLT\nVOLTA\nVOLTA\n" ∷ []

-- two are read in one line; its answer isn't taken, so the next line's newline raises -410 and its unit -222; a take in vain finds the queue full again
abbrev again : List Event
again = full ++ text "SYST:ERR?;:SYST:ERR?\nVOLT 30\n" ∷ takes [] ∷ []

-- a *CLS after a refused unit of its line
abbrev cut : List Event
cut = text "VOLT\nVOLTA;*CLS\n" ∷ []

-- an error waits, and so do answers of the line so far that leave no room for one more
abbrev crammed : Box
crammed = answer_is (replicate 4090 65) (after (power_up blank) (text "VOLT\n" ∷ []))

abbrev asked : Step
asked = tries [] crammed (bytes "SYST:ERR?")

-- what an account says of a history's steps, and what waits
abbrev kept_of : List Event → List ℕ
kept_of es = kept [] (steps (power_up blank) es)

abbrev read_of : List Event → List ℕ
read_of es = read_in [] (steps (power_up blank) es)

abbrev waiting_of : List Event → List ℕ
waiting_of es = queue (after (power_up blank) es)

pub record MetAccount : Type 0 where
  -- the -109 was the sixteenth when the first -113 came: lost, and so are both -113
  pub kept_full : kept_of full ≡ replicate 15 102
  pub waiting_full : waiting_of full ≡ replicate 15 102 ++ 350 ∷ []
  -- the -410 waits after the -350; the -222 was the sixteenth when the -420 came
  pub kept_again : kept_of again ≡ replicate 15 102 ++ 410 ∷ []
  pub read_again : read_of again ≡ 102 ∷ 102 ∷ []
  pub waiting_again : waiting_of again ≡ replicate 13 102 ++ 350 ∷ 410 ∷ 350 ∷ []
  -- the same by what comes after each error, since the *CLS
  pub unlost_again : unlost (drop 2 (steps (power_up blank) again)) ≡ replicate 15 102 ++ 410 ∷ []
  -- in the middle of the line: one of its two units has read
  pub read_midway : read_in [] (take 21 (steps (power_up blank) again)) ≡ 102 ∷ []
  -- a *CLS that isn't obeyed starts nothing
  pub kept_cut : kept_of cut ≡ 109 ∷ 113 ∷ []
  -- a SYSTem:ERRor? that check 9 refuses reads nothing
  pub deadlocked : act_of asked ≡ raises 430
  pub read_none : read_in [] (asked ∷ []) ≡ []

pub met-account : MetAccount
unfolding if◌then◌otherwise◌ bytes same white printable digit letter word_byte small capital ◌>>=◌ ◌>>◌ check short_form long_form matches
    after_sign fraction_of after_fraction exponent_of after_exponent lowering written numeral_from decimal_of value_of scaled suffixes no_suffix power_in remains number switched_on
    nearest size_in rounded size_side side_in in_places decimal tenths event_bit message_in error_text
    slots table setting_at at_reset wide_range narrow lowest highest within conflict examined accepted answer_of raised oldest_read at_start
    may_stand closes undoubled padded label_deed cut_at quote_next cut_open trim_end trim name placed body_of by_first header numbered node_matches suffix_in spells setting_rows other_rows rows fits_row find_row second_of on_channel find_role
    parameters least greatest find_word parameter read_word read_figure value_given setting_deed deed_of read_unit power_up
    permitted changed reply_to inquiry_text joined fits_answer reply perform
    attempt refuse run_units interrupted finished units_of run_line end_line held byte piece taken happens after
    unit_steps line_steps end_steps byte_steps piece_steps event_steps steps act_of kept full_at_next unlost read_in
met-account = record { kept_full = refl; waiting_full = refl; kept_again = refl; read_again = refl; waiting_again = refl; unlost_again = refl; read_midway = refl; kept_cut = refl; deadlocked = refl; read_none = refl }
