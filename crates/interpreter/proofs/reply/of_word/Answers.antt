-- A value is a place in the setting's list of words if it is not negative; where the list has that place, its word stands in the table.
use mathlib.Core.Path.{◌≡◌, refl, sym, ◌∙◌}
use mathlib.Core.List.{List, []}
use Prim.Native.Nat.{ℕ, ◌+◌, ◌≤◌, ◌<◌}
use Prim.Native.String.{String}
use native.Mathlib.Omega.{arith}
use lib.IntN.{ℤ, pos, negsuc, nat_abs}
use lib.ListN.{drop, length-take, get_or-eq_default}
use lib.Seq.{get_or-drop, get_or-take}
use mir.Syntax.{w32}
use mir.Val.{SFits}
use mir.Facts.{to_z-of_z}
use Rattle.std.specs.Prelude.{Option, Some, None, Result, Ok, Err}
use Rattle.std.specs.Result.{OkIff, result_ok}
use Rattle.std.specs.Int.{FitsUnsignedBits}
use Rattle.registers.specs.Words.{short_form}
use Rattle.registers.specs.Settings.{kind_of, word_text}
use Rattle.interpreter.specs.Parameter.{words_of}
use Rattle.interpreter.specs.WordsParts.{word_list, word_at, words_in}
use Rattle.interpreter.specs.ReplyParts.{word_said}
use Rattle.interpreter.specs.declared.words.Words.{Words}
use Rattle.interpreter.proofs.words.Taken.{no_word}
use Rattle.interpreter.proofs.reply.of_word.Goals as goal

-- a value that is turned into a place, or is none
module _ {E : Type 0} {o : Option ℕ} (r : Result ℕ E) (z : ℤ) (turned : OkIff r (FitsUnsignedBits 64 z) (nat_abs z)) (is : o ≡ result_ok r) where
  some-place : {n : ℕ} → o ≡ Some n → z ≡ pos n
  some-place e = go r z turned (sym is ∙ e)
    where
      go : {n : ℕ} (r : Result ℕ E) (z : ℤ) → OkIff r (FitsUnsignedBits 64 z) (nat_abs z) → result_ok r ≡ Some n → z ≡ pos n
      go (Ok x) (pos m) h e = let k = h.1 in cc
      go (Ok x) (negsuc m) h e = absurd h.0
      go (Err x) z h e = cc

  no-place : SFits w32 z → o ≡ None → (ws : List String) → word_text ws z ≡ []
  no-place small e ws = go r z turned small (sym is ∙ e)
    where
      go : (r : Result ℕ E) (z : ℤ) → OkIff r (FitsUnsignedBits 64 z) (nat_abs z) → SFits w32 z → result_ok r ≡ None → word_text ws z ≡ []
      go (Ok x) z h s e = cc
      go (Err x) (pos m) h s e = let k = s.sfits in absurd (h (omega arith))
      go (Err x) (negsuc m) h s e = refl

-- the words that a setting takes stand together in the table
module _ (s : Words) (ws : List String) (is : words_in s ≡ ws) (n : ℕ) where
  past-words : s.count ≤ n → word_text ws (pos n) ≡ []
  past-words h =
      let l = length-take s.count (drop s.first word_list) in
      let none = get_or-eq_default (words_in s) "" {n = n} (omega arith) in
      rw (← is, none) no_word

  in-words : n < s.count → word_text ws (pos n) ≡ short_form (word_at (s.first + n))
  unfolding word_at
  in-words h = rw (← is, get_or-take s.count (drop s.first word_list) n "" h, get_or-drop s.first word_list n "")

pub returns-in_err-place : goal.returns-in_err-place
unfolding word_said
returns-in_err-place c =
    let a = c.args in
    let back = to_z-of_z {w = w32} c.ranges.value in
    let turned = rw back at c.try_from.ensures in
    rw c.from_residual.ensures (sym (no-place c.try_from.result a.value turned c.ok.ensures.value c.ranges.value (c.in_err-place.was) (words_of (kind_of a.row))))

pub returns-then-words-place : goal.returns-then-words-place
unfolding word_said
returns-then-words-place c =
    let a = c.args in
    let back = to_z-of_z {w = w32} c.ranges.value in
    let turned = rw back at c.try_from.ensures in
    let w = c.of_setting-words in
    rw (some-place c.try_from.result a.value turned c.ok.ensures.value (c.in_ok-place.was))
    (sym (past-words w.result (words_of (kind_of a.row)) w.ensures.words c.in_ok-place.place c.if-words-place.true))

pub returns : goal.returns
unfolding word_said
returns c =
    let a = c.args in
    let back = to_z-of_z {w = w32} c.ranges.value in
    let turned = rw back at c.try_from.ensures in
    let w = c.of_setting-words in
    rw (some-place c.try_from.result a.value turned c.ok.ensures.value (c.in_ok-place.was))
    (sym (in-words w.result (words_of (kind_of a.row)) w.ensures.words c.in_ok-place.place c.if-words-place.false))
