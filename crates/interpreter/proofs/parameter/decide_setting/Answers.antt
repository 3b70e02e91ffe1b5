-- Without a parameter the value is asked for. With one, checks 5 and 6 read it (`read-is`) and the rest decides on the value that it
-- gives (`deed-is`): a word's value is within the limits (`word-put`), a number's is rounded and may be outside.
use mathlib.Core.Path.{◌≡◌, sym, ap, ◌∙◌}
use mathlib.Core.Bool.{Bool, not, ◌&&◌}
use Prim.Native.Nat.{ℕ, ◌<◌, ◌≤◌}
use native.Mathlib.Omega.{arith}
use lib.IntN.{ℤ}
use lib.ListN.{length}
use borrow.Author.Rules.{rules}
use borrow.Author.Tests.{eqb-true, eqb-false}
use Rattle.std.specs.Prelude.{Some}
use Rattle.registers.specs.Text.{Text, if◌then◌otherwise◌}
use Rattle.registers.specs.Check.{Checked, passed, refused, ◌>>=◌}
use Rattle.registers.specs.Settings.{count, kind_of, quantity_of}
use Rattle.registers.specs.declared.rounding.Side.TheVariants.{On}
use Rattle.interpreter.specs.Parameter.{Given, Word, parameter, words_of, takes_numbers, value_given, side_given, deed_of, greatest}
use Rattle.interpreter.specs.ParameterParts.{parameter_where, given_by, fit_in, put_fit, parts_of, TakesOf}
use Rattle.registers.specs.declared.settings.Settings.{Settings}
use Rattle.interpreter.specs.declared.deed.Deed.{Deed}
use Rattle.interpreter.specs.declared.deed.Role.TheVariants.{Setting}
use Rattle.interpreter.specs.declared.parameter.Takes.{Takes}
use Rattle.interpreter.specs.WordsParts.{words_in}
use Rattle.interpreter.proofs.Lists.{no_bytes, some_bytes}
use Rattle.interpreter.proofs.parameter.Decisions.{back, fit-within, value-asked, setting-is}
use Rattle.interpreter.proofs.parameter.Limits.{word-within}
use Rattle.interpreter.proofs.parameter.ByKind.{word_on, words-few}
use Rattle.interpreter.proofs.parameter.Words.{word-placed, where-is}
use Rattle.interpreter.proofs.parameter.decide_setting.Goals as goal
use Rattle.interpreter.proofs.parameter.decide_setting.Goals.{in-Word, in-Figure}

-- what the parameter gives, and what the definition makes of that
abbrev given : ℕ → Bool → Text → Checked Given
given row asked t = parameter (words_of (kind_of row)) (takes_numbers (kind_of row) && not asked) (quantity_of row) t

abbrev put : Settings → ℕ → Bool → Given → Checked Deed
put s row asked g = put_fit s row asked (fit_in s row (value_given s row (kind_of row) g)) (side_given (kind_of row) g)

module _ (s : Settings) (row : ℕ) (asked : Bool) (t : Text) (within : row < count) (some : length t ≡ 0 → ⊥)
    (most : length (parts_of t) ≤ greatest (Setting row) asked) (k : Takes)
    (takes : TakesOf (words_of (kind_of row)) (takes_numbers (kind_of row) && not asked) (quantity_of row) k) where
  deed-is : deed_of s (Setting row) asked (parts_of t) ≡ (given row asked t >>= put s row asked)
  unfolding if◌then◌otherwise◌
  deed-is =
      let one = some_bytes t some in
      let few = rw one at most in
      rw one (setting-is s row within asked t (omega arith))

  read-is : parameter_where (words_in k.words) k.numbers t ≡ given row asked t
  read-is = rw (takes.words, takes.numbers) (where-is (words_of (kind_of row)) (takes_numbers (kind_of row) && not asked) (quantity_of row) t)

  carried : (g : Given) → passed g ≡ parameter_where (words_in k.words) k.numbers t → put s row asked g ≡ deed_of s (Setting row) asked (parts_of t)
  unfolding ◌>>=◌
  carried g e = sym (deed-is ∙ rw (sym (e ∙ read-is)))

  barred : {n : ℕ} → refused n ≡ parameter_where (words_in k.words) k.numbers t → refused n ≡ deed_of s (Setting row) asked (parts_of t)
  unfolding ◌>>=◌
  barred e = sym (deed-is ∙ rw (sym (e ∙ read-is)))

  placed : (n : ℕ) → passed (Word n) ≡ parameter_where (words_in k.words) k.numbers t → n < length (words_of (kind_of row))
  placed n e = word-placed _ _ _ t n (sym (e ∙ read-is))

  word-put : (n : ℕ) (z : ℤ) → passed (Word n) ≡ parameter_where (words_in k.words) k.numbers t → z ≡ value_given s row (kind_of row) (Word n)
      → put_fit s row asked (Some z) On ≡ put s row asked (Word n)
  word-put n z e is =
      ap (λ (v : ℤ). put_fit s row asked (Some v) On) is
      ∙ ap (λ f. put_fit s row asked f On) (fit-within s row _ (word-within s row within n (placed n e)))
      ∙ ap (put_fit s row asked _) (word_on (kind_of row) n)

pub returns-then-is_empty : goal.returns-then-is_empty
unfolding if◌then◌otherwise◌
returns-then-is_empty c =
    let a = c.args in
    let none = no_bytes a.text.now (eqb-true _ 0 (sym c.if-is_empty.ensures)) in
    let least = c.requires.asked_in_bounds.0 in
    rw none (value-asked a.settings a.row a.asked (rw none at least))

pub returns-in_err-word : goal.returns-in_err-word
returns-in_err-word c =
    let a = c.args in
    let says =
    barred a.settings a.row a.asked a.text.now c.requires.row_lt_count (eqb-false _ 0 (sym c.if-is_empty.ensures)) c.requires.asked_in_bounds.1 _
    c.setting_takes-takes.ensures c.in_err-word.ensures in
    search rules

pub word_value-requires : goal.word_value-requires
word_value-requires c =
    let a = c.args in
    let few = words-few a.row c.requires.row_lt_count in
    let there =
    placed a.settings a.row a.asked a.text.now c.requires.row_lt_count (eqb-false _ 0 (sym c.if-is_empty.ensures)) c.requires.asked_in_bounds.1 _
    c.setting_takes-takes.ensures c.in-Word.word (rw c.in-Word.is at c.in_ok-word.ensures) in
    omega arith

pub returns : goal.returns
returns c =
    let a = c.args in
    let some = eqb-false _ 0 (sym c.if-is_empty.ensures) in
    let takes = c.setting_takes-takes.ensures in
    let r = c.match-branch-2.rounded in
    let is : put_fit a.settings a.row a.asked r.fit r.side ≡ put a.settings a.row a.asked (given_by c.in_ok-word.field-0) =
    elim c.match-branch-2.branch [
      | in-Word w ↦
          rw (w.rounded-is, w.in-Word.is)
          (word-put a.settings a.row a.asked a.text.now c.requires.row_lt_count some c.requires.asked_in_bounds.1 _ takes w.in-Word.word _
          (rw w.in-Word.is at c.in_ok-word.ensures) (back w.word_value.result w.word_value.type_inv ∙ w.word_value.ensures))
      | in-Figure w ↦ rw (w.rounded-is, w.in-Figure.is, w.figure_value-rounded.ensures)
    ] in
    c.decide_value.ensures
    ∙ is
    ∙ carried a.settings a.row a.asked a.text.now c.requires.row_lt_count some c.requires.asked_in_bounds.1 _ takes _ c.in_ok-word.ensures
