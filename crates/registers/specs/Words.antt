-- "Lines and units": how the words of a header or a parameter match. A word is written as 01 writes it, `VOLTage`: "its short
-- form (the capitals and digits below) or long form".
use Rattle.std.specs.Prelude.{Bool, not, ◌||◌, map}
use Prim.Native.String.{String}
use Rattle.registers.specs.Text.{Text, bytes, small, capital, only, same}

unfoldable pub short_form : String → Text
short_form w = only (λ b. not (small b)) (bytes w)

unfoldable pub long_form : String → Text
long_form w = map capital (bytes w)

-- "A node matches in any letter case, in its short form .. or long form, and nothing between. Parameter words match likewise"
unfoldable pub matches : String → Text → Bool
matches w t = same (map capital t) (short_form w) || same (map capital t) (long_form w)

-- a header's node: "Nodes in brackets may be left out"
pub data Node : Type 0 where
  must : String → Node
  may : String → Node
