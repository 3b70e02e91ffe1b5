-- What SYSTem:ERRor? answers, as it is written: a negative number, a comma and the number's text in quotes.
use mathlib.Core.Path.{◌≡◌, refl, sym}
use mathlib.Core.List.{List, [], ◌∷◌, ◌++◌, append_assoc}
use Prim.Native.Nat.{ℕ, zero, suc}
use Prim.Native.Char.{code}
use Prim.Native.String.{String}
use native.Mathlib.Omega.{arith}
use lib.IntN.{pos, neg_ℤ}
use borrow.Author.Tests.{ne_eqb}
use Rattle.registers.specs.Text.{if◌then◌otherwise◌, bytes}
use Rattle.registers.specs.Answer.{decimal, signed_text}
use Rattle.registers.specs.Error.{messages, message_in, error_text}
use Rattle.registers.specs.Label.{quoted_text}

pub error-text : (n : ℕ) → error_text n ≡ signed_text decimal (neg_ℤ (pos n)) ++ (code "," ∷ quoted_text (bytes (message_in messages n)))
unfolding error_text if◌then◌otherwise◌
error-text zero = append_assoc (decimal 0) (code "," ∷ code "\"" ∷ bytes (message_in messages 0)) (code "\"" ∷ [])
error-text (suc n) =
    rw (ne_eqb (suc n) 0 (λ (e : suc n ≡ 0). omega arith))
    (append_assoc (code "-" ∷ decimal (suc n)) (code "," ∷ code "\"" ∷ bytes (message_in messages (suc n))) (code "\"" ∷ []))

-- ---- a number that no message has

-- it is unlike each of some messages' numbers, as a `match` on them says it, one after the other
abbrev pub Unlike : ℕ → Type 0 → List (ℕ × String) → Type 0
Unlike n R [] = R
Unlike n R (m ∷ ms) = Unlike n (R × (n ≡ m.0 → ⊥)) ms

none_in : (n : ℕ) (R : Type 0) (ms : List (ℕ × String)) → Unlike n R ms → (message_in ms n ≡ "") × R
unfolding message_in if◌then◌otherwise◌
none_in n R [] u = (refl, u)
none_in n R (m ∷ ms) u = let k = none_in n (R × (n ≡ m.0 → ⊥)) ms u in (rw (ne_eqb m.0 n (λ e. k.1.1 (sym e)), k.0), k.1.0)

pub message_none : (n : ℕ) → Unlike n (Unit {0}) messages → message_in messages n ≡ ""
message_none n u = (none_in n (Unit {0}) messages u).0
