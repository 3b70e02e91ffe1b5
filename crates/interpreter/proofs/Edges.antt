-- So many bytes are more than the check computes one at a time: what is held of a line is by its law here.
use mathlib.Core.Path.{◌≡◌, refl, sym, ◌∙◌, ap, ap₂, subst}
use mathlib.Core.Bool.{Bool, true, false}
use mathlib.Core.List.{List, [], ◌∷◌, ◌++◌}
use Prim.Native.Nat.{ℕ, zero, suc, ◌+◌, ◌≤◌, ◌<◌, zero-le}
use Prim.Native.Char.{code}
use native.Mathlib.Omega.{arith}
use lib.Dec.{ltb}
use lib.ListN.{length, take, length-replicate, length-append}
use lib.Seq.{take_all}
use borrow.Author.Tests.{lt-ltb, le-ltb}
use Rattle.registers.specs.Text.{Text, if◌then◌otherwise◌, bytes, same, white, printable, digit, letter, word_byte, small, capital, every, after as after_all}
use Rattle.registers.specs.Check.{◌>>=◌, ◌>>◌, check}
use Rattle.registers.specs.Words.{short_form, long_form, matches}
use Rattle.registers.specs.Number.{after_sign, fraction_of, after_fraction, exponent_of, after_exponent, lowering, written, numeral_from, decimal_of, value_of, scaled, number}
use Rattle.registers.specs.Suffix.{suffixes, no_suffix, power_in, remains}
use Rattle.registers.specs.Rounding.{nearest, size_in, rounded, size_side, side_in}
use Rattle.registers.specs.Settings.{table, setting_at, at_reset, wide_range, lowest, highest, within, conflict, examined, accepted, slots, narrow}
use Rattle.registers.specs.Status.{raised, at_start}
use Rattle.registers.specs.Label.{may_stand, closes, undoubled, padded}
use Rattle.interpreter.specs.Cuts.{cut_at, quote_next, cut_open, trim_end, trim}
use Rattle.interpreter.specs.Header.{name, placed, header, spells, body_of, by_first, numbered, node_matches, suffix_in}
use Rattle.interpreter.specs.Rows.{setting_rows, other_rows, rows, fits_row, find_row, second_of, on_channel, find_role}
use Rattle.interpreter.specs.Parameter.{label_deed, parameters, least, greatest, find_word, parameter, value_given, setting_deed, deed_of, read_figure, read_word}
use Rattle.interpreter.specs.Unit.{allowed, read_unit}
use Rattle.interpreter.specs.Box.{Box, power_up, blank, most_line, most_answer}
use Rattle.interpreter.specs.Perform.{permitted, changed, perform}
use Rattle.interpreter.specs.Reply.{joined, fits_answer}
use Rattle.interpreter.specs.Line.{attempt, run_units, interrupted, finished, units_of, run_line, end_line, newlines}
use Rattle.interpreter.specs.Events.{received, happens, after}
use Rattle.interpreter.specs.Demand3.{in_line}
use Rattle.interpreter.specs.Edges.{letters, line_of, spaces, spaced, Runs, Overruns, Edges}
use Rattle.interpreter.proofs.flow.Laws.{piece-held}
use Rattle.interpreter.proofs.demands.histories.Pieces.{newline-after}

no-newline : (n : ℕ) → newlines (letters n) ≡ 0
unfolding newlines if◌then◌otherwise◌
no-newline zero = refl
no-newline (suc n) = no-newline n

pub under-way : (n : ℕ) → every in_line (line_of n) ≡ true
unfolding in_line
under-way zero = refl
under-way (suc n) = under-way n

pub overlong-is : (n : ℕ) → (after (power_up blank) (line_of n)).core.overlong ≡ ltb most_line n
unfolding power_up happens after
overlong-is n = rw (piece-held (letters n) (power_up blank) (no-newline n) zero-le, length-replicate n (code "X"))

fits-is : (n : ℕ) → fits_answer [] (letters n) ≡ ltb n most_answer
unfolding joined fits_answer if◌then◌otherwise◌
fits-is n = rw (length-replicate n (code "X"))

-- ---- blanks before a unit change nothing

module _ (u : Text) where
  spaced-newlines : (n : ℕ) → newlines (spaces n ++ u) ≡ newlines u
  unfolding newlines if◌then◌otherwise◌
  spaced-newlines zero = refl
  spaced-newlines (suc n) = spaced-newlines n

  spaced-white : (n : ℕ) → every white (spaces n ++ u) ≡ every white u
  unfolding white
  spaced-white zero = refl
  spaced-white (suc n) = spaced-white n

  spaced-allowed : (n : ℕ) → every allowed (spaces n ++ u) ≡ every allowed u
  unfolding white
  spaced-allowed zero = refl
  spaced-allowed (suc n) = spaced-allowed n

  spaced-after : (n : ℕ) → after_all white (spaces n ++ u) ≡ after_all white u
  unfolding white if◌then◌otherwise◌
  spaced-after zero = refl
  spaced-after (suc n) = spaced-after n

  spaced-cut : (n : ℕ) → cut_open (code ";") 0 u ≡ u ∷ [] → cut_open (code ";") 0 (spaces n ++ u) ≡ (spaces n ++ u) ∷ []
  unfolding cut_open quote_next if◌then◌otherwise◌
  spaced-cut zero e = e
  spaced-cut (suc n) e = rw (spaced-cut n e)

  spaced-unit : (n : ℕ) (path : List Text) (b : Box) → attempt path b (spaces n ++ u) ≡ attempt path b u
  unfolding attempt read_unit
  spaced-unit n path b = rw (spaced-allowed n, spaced-after n)

  spaced-line : (n : ℕ) (b : Box) → cut_open (code ";") 0 u ≡ u ∷ [] → run_line (spaces n ++ u) false b ≡ run_line u false b
  unfolding run_line units_of run_units if◌then◌otherwise◌
  spaced-line n b e = rw (spaced-white n, spaced-cut n e, e) (go (every white u))
    where
      go : (t : Bool) → finished (run_units (if t then [] otherwise (spaces n ++ u) ∷ []) [] b) ≡ finished (run_units (if t then [] otherwise u ∷ []) [] b)
      go true = refl
      go false = rw (spaced-unit n [] b)

-- ---- the two lines

abbrev unit : Text
unit = bytes "VOLT 5"

size : (n : ℕ) → length (spaces n ++ unit) ≡ n + 6
unfolding bytes
size n = length-append (spaces n) unit ∙ ap (λ (k : ℕ). k + 6) (length-replicate n (code " "))

line-ends : (n : ℕ) → after (power_up blank) (spaced n)
    ≡ run_line (take most_line (spaces n ++ unit)) (ltb most_line (length (spaces n ++ unit))) (power_up blank)
unfolding power_up happens after end_line interrupted newlines bytes if◌then◌otherwise◌
line-ends n =
    newline-after (power_up blank) (received (spaces n ++ unit) ∷ [])
    ∙ ap end_line (piece-held (spaces n ++ unit) (power_up blank) (spaced-newlines unit n) zero-le)

unit_runs : Runs (run_line unit false (power_up blank))
unfolding if◌then◌otherwise◌ bytes same white printable digit letter word_byte small capital ◌>>=◌ ◌>>◌ check short_form long_form matches
    after_sign fraction_of after_fraction exponent_of after_exponent lowering written numeral_from decimal_of value_of scaled suffixes no_suffix power_in remains number
    nearest size_in rounded size_side side_in slots table setting_at at_reset wide_range lowest highest narrow within conflict examined accepted at_start
    may_stand closes undoubled padded label_deed cut_at quote_next cut_open trim_end trim name placed body_of by_first header numbered node_matches suffix_in spells setting_rows other_rows rows fits_row find_row second_of on_channel find_role
    parameters least greatest find_word parameter read_word read_figure value_given setting_deed deed_of read_unit power_up
    permitted changed perform attempt run_units finished units_of run_line
unit_runs = record { set = refl; queue = refl }

cut-whole : cut_open (code ";") 0 unit ≡ unit ∷ []
unfolding cut_open quote_next bytes if◌then◌otherwise◌
cut-whole = refl

runs-at : (n : ℕ) → n + 6 ≤ most_line → Runs (after (power_up blank) (spaced n))
runs-at n h =
    let k = size n in
    let whole = take_all most_line (spaces n ++ unit) (omega arith) in
    let few = le-ltb most_line (length (spaces n ++ unit)) (omega arith) in
    subst Runs (sym (line-ends n ∙ ap₂ (λ (l : Text) (o : Bool). run_line l o (power_up blank)) whole few ∙ spaced-line unit n (power_up blank) cut-whole)) unit_runs

overruns-at : (n : ℕ) → most_line < n + 6 → Overruns (after (power_up blank) (spaced n))
unfolding run_line power_up raised at_start if◌then◌otherwise◌
overruns-at n h =
    let k = size n in
    let many = lt-ltb most_line (length (spaces n ++ unit)) (omega arith) in
    subst Overruns (sym (line-ends n ∙ ap (λ (o : Bool). run_line (take most_line (spaces n ++ unit)) o (power_up blank)) many)) (record { settings = refl; queue = refl })

pub edges : Edges
edges =
    record {
      longest_line = overlong-is 4096;
      longer_line = overlong-is 4097;
      runs = runs-at 4090 (omega arith);
      overruns = overruns-at 4091 (omega arith);
      longest_answer = fits-is 4095;
      longer_answer = fits-is 4096;
    }
