-- What the search for a separator outside quotes says. Nothing of 01 is defined here: see Cuts.antt.
use Rattle.std.specs.Prelude.{◌≡◌, [], ◌∷◌, ℕ, suc, ◌+◌, ◌≤◌, length, drop, Option, Some, None}
use Prim.Native.Char.{code}
use Rattle.registers.specs.Text.{Text, if◌then◌otherwise◌}
use Rattle.interpreter.specs.Cuts.{quote_next, separates}
use Rattle.interpreter.specs.declared.cuts.Quote.{Quote}
use Rattle.interpreter.specs.declared.cuts.Quote.TheVariants.{Double, Single}

-- the quote that is open, as Cuts writes it: by its byte, 0 where none is
abbrev pub byte_of : Quote → ℕ
byte_of Double = code "\""
byte_of Single = code "'"

abbrev pub open_mark : Option Quote → ℕ
open_mark None = 0
open_mark (Some q) = byte_of q

-- the place of the first separator outside quotes, the length where there is none
unfoldable pub place_open : ℕ → ℕ → Text → ℕ
place_open s mark [] = 0
place_open s mark (b ∷ bs) = let more = place_open s (quote_next mark b) bs in if separates s mark b then 0 otherwise suc more

-- i is on the way from a place to the separator, with this quote open
pub record OnWay (s : ℕ) (l : Text) (at i mark : ℕ) : Type 0 where
  pub within : i ≤ length l
  pub is : i + place_open s mark (drop i l) ≡ at + place_open s 0 (drop at l)
