-- Bytes and pieces: a byte that is no newline joins the line that comes in; a piece is its parts one after the other, and ends as many
-- lines as they do.
use mathlib.Core.Path.{◌≡◌, refl}
use mathlib.Core.Bool.{Bool, true, false, not}
use mathlib.Core.List.{[], ◌∷◌, ◌++◌}
use Prim.Native.Nat.{ℕ, suc, ◌+◌}
use native.Mathlib.Omega.{arith}
use lib.Dec.{eqb}
use borrow.Author.Tests.{not-true}
use Rattle.registers.specs.Text.{Text, if◌then◌otherwise◌}
use Rattle.interpreter.specs.Box.{Box, box}
use Rattle.interpreter.specs.Line.{held, byte, piece, newlines}

-- ---- one byte

abbrev pub plain : ℕ → Bool
plain x = not (eqb x 10)

-- a byte that is no newline joins the line, or finds it full
pub byte-plain : (b : Box) (x : ℕ) → plain x ≡ true → byte b x ≡ box (held x b.core) b.trouble
unfolding byte if◌then◌otherwise◌
byte-plain b x t = rw (not-true (eqb x 10) t)

-- ---- pieces

pub piece-append : (b : Box) (xs ys : Text) → piece b (xs ++ ys) ≡ piece (piece b xs) ys
unfolding piece
piece-append b [] ys = refl
piece-append b (x ∷ xs) ys = piece-append (byte b x) xs ys

pub newlines-append : (xs ys : Text) → newlines (xs ++ ys) ≡ newlines xs + newlines ys
unfolding newlines if◌then◌otherwise◌
newlines-append [] ys = omega arith
newlines-append (x ∷ xs) ys = go (eqb x 10) (newlines-append xs ys)
  where
    go : (t : Bool) → newlines (xs ++ ys) ≡ newlines xs + newlines ys
        → (if t then suc (newlines (xs ++ ys)) otherwise newlines (xs ++ ys)) ≡ (if t then suc (newlines xs) otherwise newlines xs) + newlines ys
    go true ih = omega arith
    go false ih = ih
