-- What a word's cells in the table say: the lengths of its two forms and its letters. A cell is read off the word's row (`cell`); that short forms
-- start the long ones is one computed test over all words (`short-starts`).
use mathlib.Core.Path.{◌≡◌, refl, sym, ◌∙◌, ap}
use mathlib.Core.Bool.{Bool, true}
use mathlib.Core.List.{◌++◌}
use Prim.Native.Nat.{ℕ, suc, ◌+◌, ◌-◌, ◌≤◌, ◌<◌}
use Prim.Native.String.{String}
use native.Mathlib.Omega.{arith}
use lib.Dec.{ltb}
use lib.ListN.{length, get_or, take, drop, length-append, length-take, length-replicate, replicate, get_or-append}
use borrow.Author.Tests.{eqb-true, ltb-true}
use Rattle.registers.specs.Text.{Text, if◌then◌otherwise◌, bytes, small, capital, same, every}
use Rattle.registers.specs.Words.{short_form, long_form}
use Rattle.interpreter.specs.WordsParts.{word_count, word_list, word_at, word_row, word_table_of, word_table, word_cell, word_size}
use Rattle.interpreter.proofs.Lists.{same-eq, every-at, cell_at}
use Rattle.interpreter.proofs.table.Lengths.{word_wide, words-wide, words-many}

-- the tests over all words: the long form starts with the short one, which is not empty
abbrev starts : String → Bool
starts w = same (short_form w) (take (length (short_form w)) (long_form w))

abbrev some : String → Bool
some w = ltb 0 (length (short_form w))

short-starts : every starts word_list ≡ true
unfolding word_list short_form long_form bytes small capital if◌then◌otherwise◌ same
short-starts = refl

short-not-empty : every some word_list ≡ true
unfolding word_list short_form bytes small if◌then◌otherwise◌
short-not-empty = refl

module _ (w : ℕ) (h : w < word_count) where
  abbrev short : Text
  short = short_form (word_at w)

  abbrev long : Text
  long = long_form (word_at w)

  within : w < length word_list
  within = let n = words-many in omega arith

  cell : (i : ℕ) → word_cell w i ≡ get_or (word_row (word_at w) ++ word_table_of (drop (suc w) word_list)) i 0
  unfolding word_table word_table_of word_at word_cell
  cell i = cell_at word_row word_size word_table_of refl (λ x xs. refl) word_list words-wide w "" within i

  pub short-cell : word_cell w 0 ≡ length short
  unfolding word_row
  short-cell = cell 0

  pub long-cell : word_cell w 1 ≡ length long
  unfolding word_row
  long-cell = cell 1

  -- a letter of the long form
  pub long-at : (i : ℕ) → i < length long → get_or long i 0 ≡ word_cell w (i + 2)
  unfolding word_row
  long-at i l =
      let zeros : Text = replicate (word_size - 2 - length long) 0 in
      let k : i < length (long ++ zeros) = omega (arith, length-append long zeros) in
      let e : i + 2 ≡ suc (suc i) = omega arith in
      sym (cell (i + 2) ∙ rw (e, get_or-append (long ++ zeros) (word_table_of (drop (suc w) word_list)) 0 i k, get_or-append long zeros 0 i l))

  long-small : length long ≤ word_size - 2
  unfolding word_row word_at
  long-small =
      let e : length (word_row (word_at w)) ≡ word_size = eqb-true (length (word_row (word_at w))) word_size (every-at word_wide word_list w "" words-wide within) in
      let a = length-append long (replicate (word_size - 2 - length long) 0) in
      let z = length-replicate {A = ℕ} (word_size - 2 - length long) 0 in
      omega arith

  pub short-is : short ≡ take (length short) long
  unfolding word_at
  short-is = same-eq short (take (length short) long) (every-at starts word_list w "" short-starts within)

  short-some : 0 < length short
  unfolding word_at
  short-some = ltb-true 0 (length short) (every-at some word_list w "" short-not-empty within)

  pub short-small : length short ≤ length long
  short-small = let e = ap length short-is ∙ length-take (length short) long in omega arith

  pub forms : (0 < word_cell w 0) × (word_cell w 0 ≤ word_cell w 1) × (word_cell w 1 ≤ word_size - 2)
  forms =
      let a = short-cell in
      let b = long-cell in
      let k = short-some in
      let s = short-small in
      let l = long-small in
      (omega arith, omega arith, omega arith)
