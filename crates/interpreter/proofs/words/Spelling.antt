-- Laws of a whole text that is compared with a word.
use mathlib.Core.Path.{◌≡◌, refl, sym, ◌∙◌}
use mathlib.Core.Bool.{Bool, true, false, ◌&&◌}
use Prim.Native.Nat.{ℕ, ◌≤◌, ◌<◌}
use native.Mathlib.Omega.{arith}
use lib.Dec.{eqb, leb}
use lib.ListN.{length}
use borrow.Author.Tests.{eqb-true, eqb-false, le-leb, lt-leb}
use Rattle.registers.specs.Text.{Text}
use Rattle.registers.specs.Words.{long_form, matches}
use Rattle.registers.proofs.text.Laws.{empty-at}
use Rattle.interpreter.specs.WordsParts.{word_count, word_at, agreed, form_length}
use Rattle.interpreter.proofs.words.Letters.{agreed-most, word-is}

module _ (t : Text) (w n : ℕ) (h : w < word_count) (is : n ≡ agreed t (long_form (word_at w))) where
  whole_is : matches (word_at w) t ≡ (form_length w n && leb (length t) n)
  whole_is = word-is t w h ∙ rw (sym is, empty-at t n)

  -- the code's test: all bytes are letters of the word, and one of its forms has that many letters
  pub whole_word : (eqb n (length t) && form_length w n) ≡ matches (word_at w) t
  whole_word =
      let m = (agreed-most t (long_form (word_at w))).0 in
      sym (whole_is ∙ rw (all-or-less n (length t) (omega arith)) (and-turned (form_length w n) (eqb n (length t))))
    where
      all-or-less : (n k : ℕ) → n ≤ k → leb k n ≡ eqb n k
      all-or-less n k l = go (eqb n k) refl
        where
          go : (b : Bool) → eqb n k ≡ b → leb k n ≡ b
          go true q = let e = eqb-true n k q in le-leb k n (omega arith)
          go false q = let e = eqb-false n k q in lt-leb k n (omega arith)

      and-turned : (a b : Bool) → (a && b) ≡ (b && a)
      and-turned true true = refl
      and-turned true false = refl
      and-turned false true = refl
      and-turned false false = refl
