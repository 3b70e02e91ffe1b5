-- The words that a setting takes, and the word of a setting by its place in the setting's list: what the code's arrays say of every row
-- is one computed test, and a place that the list doesn't have has no word.
use mathlib.Core.Path.{◌≡◌, refl, sym, ◌∙◌}
use mathlib.Core.Bool.{Bool, true, false, ◌||◌, false≢true}
use mathlib.Core.List.{List, []}
use Prim.Native.Nat.{ℕ, ◌+◌, ◌≤◌, ◌<◌}
use Prim.Native.String.{String}
use native.Mathlib.Omega.{arith}
use lib.Dec.{leb}
use lib.IntN.{ℤ, pos, negsuc, nat_abs}
use lib.Signed.{lt_z, le_z}
use lib.ListN.{get_or, drop, length-take, get_or-eq_default}
use lib.Seq.{get_or-drop, get_or-take}
use borrow.Author.Tests.{le-ltb, leb-true, leb-false}
use Rattle.registers.specs.Text.{if◌then◌otherwise◌, bytes, same}
use Rattle.registers.specs.Words.{short_form}
use Rattle.registers.specs.Settings.{count, table, setting_at, kind_of, word_text, slots}
use Rattle.interpreter.specs.Parameter.{words_of}
use Rattle.interpreter.specs.WordsParts.{word_count, word_list, word_at, place_in, words_taken, words_in, TakenOf}
use Rattle.interpreter.specs.declared.words.Words.{Words}
use Rattle.interpreter.proofs.Lists.{listed, agree}

-- ---- where each setting's words begin, and how many there are

abbrev at_row : ℕ → Words
at_row i = get_or words_taken i (record { first = 0; count = 0 })

pub taken_of : (i : ℕ) → i < count → TakenOf (words_of (kind_of i)) (at_row i)
unfolding listed words_taken place_in word_list setting_at slots table same bytes if◌then◌otherwise◌
taken_of i h =
    record {
      words = agree count (λ k. words_in (at_row k)) (λ k. words_of (kind_of k)) refl i h;
      room = leb-true ((at_row i).first + (at_row i).count) word_count
          (agree count (λ k. leb ((at_row k).first + (at_row k).count) word_count) (λ _. true) refl i h);
    }

-- ---- a word by its place

pub no_word : short_form "" ≡ []
unfolding short_form bytes
no_word = refl

pub past_words : (n : ℕ) → word_count ≤ n → [] ≡ short_form (word_at n)
unfolding word_at word_list
past_words n h = rw (get_or-eq_default word_list "" {n = n} h) (sym no_word)

-- the words that a setting takes stand together in the table
module _ (s : Words) (ws : List String) (is : words_in s ≡ ws) where
  -- whether a place has no word
  abbrev absent : ℤ → Bool
  absent z = lt_z z (pos 0) || le_z (pos s.count) z

  absent-at : (n : ℕ) → absent (pos n) ≡ leb s.count n
  absent-at n = rw (le-ltb n 0 (omega arith))

  pub place_none : (z : ℤ) → absent z ≡ true → word_text ws z ≡ []
  place_none (pos n) e =
      let h = leb-true s.count n (sym (absent-at n) ∙ e) in
      let l = length-take s.count (drop s.first word_list) in
      let none = get_or-eq_default (words_in s) "" {n = n} (omega arith) in
      rw (← is, none) no_word
  place_none (negsuc n) e = refl

  pub place-word : (z : ℤ) → absent z ≡ false → (nat_abs z < s.count) × (word_text ws z ≡ short_form (word_at (s.first + nat_abs z)))
  unfolding word_at
  place-word (pos n) e =
      let h = leb-false s.count n (sym (absent-at n) ∙ e) in
      let l = drop s.first word_list in
      (h, rw (← is, get_or-take s.count l n "" h, get_or-drop s.first word_list n ""))
  place-word (negsuc n) e = absurd (false≢true (sym e))

pub not-minus : (z : ℤ) (b : Bool) → (lt_z z (pos 0) || b) ≡ false → lt_z z (pos 0) ≡ false
not-minus (pos n) b e = le-ltb n 0 (omega arith)
not-minus (negsuc n) b e = absurd (false≢true (sym e))
