-- What the writers' own functions say. Nothing of 01 is defined here: see Answer.antt.
use Rattle.std.specs.Prelude.{◌≡◌, [], ◌∷◌, ℕ, zero, suc, ◌+◌, length, ℤ, pos, negsuc}
use Prim.Native.Char.{code}
use Rattle.registers.specs.Text.{Text}
use Rattle.registers.specs.Answer.{over}

-- how far into a tail a text is laid at most, so that no place wraps
abbrev pub farthest : ℕ
farthest = 100

-- the text over a tail, starting at a place, as far as the tail reaches
unfoldable pub over_at : ℕ → Text → Text → Text
over_at zero text tail = over text tail
over_at (suc at) text [] = []
over_at (suc at) text (x ∷ tail) = x ∷ over_at at text tail

-- a text was written at a place, and r is where it ends
pub record LaidAt (at : ℕ) (text before : Text) (r : ℕ) (tail : Text) : Type 0 where
  pub end : r ≡ at + length text
  pub bytes : tail ≡ over_at at text before

-- the sign of a number's text
abbrev pub sign_text : ℤ → Text
sign_text (pos n) = []
sign_text (negsuc n) = code "-" ∷ []
