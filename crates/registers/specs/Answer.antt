-- "The sixteen settings", its last paragraph: plain integers and one decimal for step 0.1. "Registers and queue": "Register
-- answers are decimal". And how a text stands in a lent tail.
use Rattle.std.specs.Prelude.{◌≡◌, [], ◌∷◌, ◌++◌, ℕ, zero, suc, ◌+◌, ◌/◌, ◌%◌, ltb, length, ℤ, pos, negsuc}
use Prim.Native.Char.{code}
use Rattle.registers.specs.Text.{Text, if◌then◌otherwise◌}

-- ---- numbers in decimal

-- n in decimal, in at most this many places
unfoldable pub in_places : ℕ → ℕ → Text
in_places zero n = []
in_places (suc p) n =
    let more = in_places p (n / 10) ++ (code "0" + n % 10) ∷ [] in
    if ltb n 10 then (code "0" + n) ∷ [] otherwise more

-- twenty places hold every number of 64 bits
abbrev pub most_places : ℕ
most_places = 20

unfoldable pub decimal : ℕ → Text
decimal n = in_places most_places n

-- "one decimal for step 0.1"
unfoldable pub tenths : ℕ → Text
tenths n = decimal (n / 10) ++ code "." ∷ decimal (n % 10)

-- a text with its sign: "`-0.5`, `0.0`, never `-0.0`", since only a number below zero has a minus
abbrev pub signed_text : (ℕ → Text) → ℤ → Text
signed_text f (pos n) = f n
signed_text f (negsuc n) = code "-" ∷ f (suc n)

-- ---- a text in a lent tail

-- the text over the start of a tail, as far as the tail reaches; what stands after the text is left as it was
unfoldable pub over : Text → Text → Text
over [] tail = tail
over (b ∷ text) [] = []
over (b ∷ text) (x ∷ tail) = b ∷ over text tail

-- what every writer says: its result r is the length of its text, whether or not all of it had room, and its text stands over
-- the tail that it was lent
pub record Laid (text before : Text) (r : ℕ) (tail : Text) : Type 0 where
  pub long : r ≡ length text
  pub bytes : tail ≡ over text before
