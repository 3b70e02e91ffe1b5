-- "Lines and units", its headers, and check 2 on a header: how one is written, the names that it stands for, the path that it
-- leaves, and when a row spells it.
use Rattle.std.specs.Prelude.{Bool, true, false, not, ◌&&◌, ◌||◌, List, [], ◌∷◌, ◌++◌, ℕ, eqb}
use Prim.Native.Char.{code}
use Prim.Native.String.{String}
use Rattle.registers.specs.Text.{Text, if◌then◌otherwise◌, bytes, letter, digit, word_byte, every, empty, same, first, rest, start, after}
use Rattle.registers.specs.Check.{Checked, passed, ◌>>◌, check}
use Rattle.registers.specs.Words.{Node, must, may, matches}
use Rattle.interpreter.specs.Cuts.{last, front, cut_at}

-- "A header starts with `*`, with `:`, or with neither"
pub data Place : Type 0 where
  common : Place
  root : Place
  here : Place  -- it is read after the path

pub record Header : Type 0 where
  pub place : Place
  pub names : List Text
  pub query : Bool

-- "with an optional `?` at the end", and what stands before it
abbrev pub asks : Text → Bool
asks t = eqb (last t) (code "?")

unfoldable pub body_of : Text → Text
body_of t = if asks t then front t otherwise t

-- "a letter and then letters, digits or underscores"
unfoldable pub name : Text → Bool
name t = letter (first t) && every word_byte t

unfoldable pub placed : Place → List Text → Bool → Checked Header
placed p names q = check 102 (every name names) >> passed (record { place = p; names = names; query = q })

-- check 2 on the header: "`*` and one name, or names joined by single colons (one more may lead)". The header of an empty unit is
-- empty, so that it is refused here too
unfoldable pub by_first : Text → Bool → Checked Header
by_first body q =
    if eqb (first body) (code "*") then placed common (rest body ∷ []) q
    otherwise (if eqb (first body) (code ":") then placed root (cut_at (code ":") (rest body)) q otherwise placed here (cut_at (code ":") body) q)

unfoldable pub header : Text → Checked Header
header t = by_first (body_of t) (asks t)

-- ---- the path: "the nodes before the last colon of the previous non-common header in this line, that header's own path
-- included. Common commands keep the path"

abbrev pub full_names : Place → List Text → List Text → List Text
full_names common path names = names
full_names root path names = names
full_names here path names = path ++ names

abbrev pub path_after : Place → List Text → List Text → List Text
path_after common path names = path
path_after root path names = front names
path_after here path names = front (path ++ names)

abbrev pub is_common : Place → Bool
is_common common = true
is_common root = false
is_common here = false

-- ---- 02, #111: "OUTPut, VOLTage, FREQuency and CURRent take a numeric suffix 1 or 2 on that node, none meaning 1"

abbrev pub is_word : String → String → Bool
is_word v w = same (bytes v) (bytes w)

unfoldable pub numbered : String → Bool
numbered w = is_word "OUTPut" w || (is_word "VOLTage" w || (is_word "FREQuency" w || is_word "CURRent" w))

-- a name up to its first digit, and its suffix from there on
abbrev pub not_digit : ℕ → Bool
not_digit b = not (digit b)

abbrev pub stem : Text → Text
stem n = start not_digit n

abbrev pub suffix : Text → Text
suffix n = after not_digit n

-- a node with a numeric suffix of any digits, or with none; which of them are good is asked once the row is found
unfoldable pub node_matches : String → Text → Bool
node_matches w n = if numbered w then matches w (stem n) && every digit (suffix n) otherwise matches w n

-- the suffix of a header: that of the first name that has one. In a row no more than one node takes one
unfoldable pub suffix_in : List Text → Text
suffix_in [] = []
suffix_in (n ∷ names) = if empty (suffix n) then suffix_in names otherwise suffix n

-- ---- when a row spells names: "Nodes in brackets may be left out", "kept or left out in any way"

unfoldable pub spells : List Node → List Text → Bool
spells [] names = empty names
spells (must w ∷ nodes) [] = false
spells (must w ∷ nodes) (n ∷ names) = node_matches w n && spells nodes names
spells (may w ∷ nodes) [] = spells nodes []
spells (may w ∷ nodes) (n ∷ names) = spells nodes (n ∷ names) || (node_matches w n && spells nodes names)
