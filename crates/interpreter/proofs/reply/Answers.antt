-- Where a reply stands in the buffer: in the tail that was lent, after the answers so far and a separator, over which the first answer is
-- written (`stands`). Check 9 is then a comparison of its length with the tail's (`given-over`, `given-whole`).
use mathlib.Core.Path.{◌≡◌, refl, sym, ap, ◌∙◌}
use mathlib.Core.Bool.{not}
use mathlib.Core.List.{[], ◌∷◌, ◌++◌}
use Prim.Native.Char.{code}
use Prim.Native.Nat.{ℕ, zero, suc, ◌+◌, ◌-◌, ◌≤◌, ◌<◌}
use native.Mathlib.Nat.{zero-add}
use native.Mathlib.Numerals.{add-one}
use native.Mathlib.Omega.{arith}
use lib.Dec.{eqb}
use lib.ListN.{length, take, drop, set, length-append, length-take, length-drop, length-set}
use lib.Seq.{take-append-add, take-append-le, take-suc-set, append_snoc}
use mir.Val.{bool_byte}
use borrow.Author.Tests.{ne_eqb}
use borrow.Rule.Slice.PartMut.{mid_of, put_mid}
use Rattle.std.specs.Prelude.{Some, None, Ok, Err}
use Rattle.registers.specs.Text.{Text, if◌then◌otherwise◌}
use Rattle.registers.specs.Answer.{Laid}
use Rattle.registers.proofs.answer.Laws.{over-start, over-length}
use Rattle.interpreter.specs.Box.{most_answer}
use Rattle.interpreter.specs.Reply.{joined}
use Rattle.interpreter.specs.ReplyParts.{text_of, answered_with, GivenTo}
use Rattle.interpreter.specs.declared.reply.Reply.{Reply}
use Rattle.registers.specs.declared.error.Error.TheVariants.{QueryDeadlocked}

-- ---- texts that are joined

-- where the next answer starts: after a separator, if there is one already
abbrev pub start : ℕ → ℕ
start n = n + bool_byte (not (eqb n 0))

start-more : (n : ℕ) → start (suc n) ≡ suc n + 1
start-more n = rw (ne_eqb (suc n) 0 (λ e. omega arith))

pub start-room : (n : ℕ) → n < most_answer → start n ≤ most_answer
start-room zero h = omega arith
start-room (suc n) h = rw (start-more n) (omega arith)

joined_length : (a t : Text) → length (joined a t) ≡ start (length a) + length t
unfolding joined if◌then◌otherwise◌
joined_length [] t = sym (zero-add (length t))
joined_length (x ∷ a) t = rw (start-more (length a)) (simp length-append (omega arith))

joined-more : (a t : Text) → 0 < length a → joined a t ≡ a ++ code ";" ∷ t
unfolding joined if◌then◌otherwise◌
joined-more [] t h = absurd (omega arith)
joined-more (x ∷ a) t h = refl

-- ---- a text that was written into the tail that was lent, seen from the whole buffer

module _ (out tail t : Text) (k : ℕ) (bytes : take (length t) tail ≡ t) (long : length t ≤ length tail) where
  after_front : (p l : Text) (m : ℕ) → length p ≡ m → take (m + length t) (p ++ (tail ++ l)) ≡ p ++ t
  after_front p l m e =
      rw (← e)
      (take-append-add p (tail ++ l) (length t)
      ∙ ap (λ (y : Text). p ++ y) (take-append-le (length t) tail l long ∙ bytes))

  -- the separator is written first: the text of the first answer stands over it
  stands : (n : ℕ) → n < length out → take (start n + length t) (put_mid (start n) k (set out n (code ";")) tail) ≡ joined (take n out) t
  unfolding joined if◌then◌otherwise◌
  stands zero h = after_front [] (drop k (set out 0 (code ";"))) 0 refl
  stands (suc n) h =
      let p : Text = take (suc n) out ++ code ";" ∷ [] in
      let some : 0 < length (take (suc n) out) = rw length-take (omega arith) in
      let size : length p ≡ suc n + 1 = simp (length-append, length-take) (omega arith) in
      let front : take (suc n + 1) (set out (suc n) (code ";")) ≡ p = rw (add-one (suc n)) (take-suc-set out (suc n) (code ";") h) in
      rw (start-more n, front, after_front p (drop k (drop (suc n + 1) (set out (suc n) (code ";")))) (suc n + 1) size, joined-more (take (suc n) out) t some)
      (append_snoc (take (suc n) out) (code ";") t)

-- ---- check 9

module _ (label out : Text) {answered : ℕ} (room : answered < most_answer) (size : length out ≡ most_answer) where
  abbrev so_far : Text
  so_far = take answered out

  pub given-none : GivenTo label None answered out (Ok answered) out
  unfolding GivenTo answered_with
  given-none =
      let l : length so_far < most_answer = rw length-take (omega arith) in
      (room, l, refl)

  -- the reply is written from s on
  module _ (reply : Reply) {tail : Text} {n s : ℕ} (from : s ≡ start answered)
      (laid : Laid (text_of label reply) (mid_of (s) (length (set out answered (code ";")) - s) (set out answered (code ";"))) n tail) where
    abbrev left : Text
    left = put_mid (s) (length (set out answered (code ";")) - s) (set out answered (code ";")) tail

    long : length (answered_with label (Some reply) so_far) ≡ s + n
    unfolding answered_with
    long =
        let taken : length so_far ≡ answered = rw length-take (omega arith) in
        rw (joined_length, taken, laid.long, from)

    -- the code has it from the length m of the buffer, which is kept
    module _ {m : ℕ} (kept : m ≡ length (set out answered (code ";"))) where
      whole : m ≡ most_answer
      whole = kept ∙ length-set out answered (code ";") ∙ size

      pub given-over : m - s ≤ n → GivenTo label (Some reply) answered out (Err QueryDeadlocked) left
      unfolding GivenTo
      given-over h =
          let e = whole in
          let k = start-room answered room in
          (refl, rw long (omega (arith, from)))

      pub end-room : n < m - s → s + n < most_answer
      end-room h = let e = whole in omega arith

      pub given-whole : n < m - s → GivenTo label (Some reply) answered out (Ok (s + n)) left
      unfolding GivenTo answered_with
      given-whole h =
          let e = whole in
          let fits = end-room h in
          let lent = mid_of (s) (length (set out answered (code ";")) - s) (set out answered (code ";")) in
          let l : length lent ≡ most_answer - s = simp (length-take, length-drop, length-set) (omega arith) in
          let k : length (text_of label reply) ≤ length lent = let e = laid.long in omega arith in
          let bytes : take (length (text_of label reply)) tail ≡ text_of label reply = rw laid.bytes (over-start (text_of label reply) lent k) in
          let t : length (text_of label reply) ≤ length tail = rw (laid.bytes, over-length (text_of label reply) lent) k in
          let is = stands out tail (text_of label reply) (length (set out answered (code ";")) - s) bytes t answered (omega arith) in
          (fits, rw long fits, rw laid.long (rw (← from) at is))
