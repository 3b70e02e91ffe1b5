-- What the row search's own functions say. Nothing of 01 is defined here: see Rows.antt, and TableParts.antt for the table that is searched.
use Rattle.std.specs.Prelude.{◌≡◌, Bool, true, false, not, ◌&&◌, ◌||◌, List, [], ◌∷◌, ℕ, ◌+◌, ◌*◌, ◌/◌, ◌%◌, ◌≤◌, ◌<◌, ltb, eqb, length, get_or, drop, Option, Some, None}
use Prim.Native.String.{String}
use Rattle.std.specs.Int.Bits.{bit_and}
use Rattle.registers.specs.Text.{Text, if◌then◌otherwise◌, empty, same_bool}
use Rattle.registers.specs.Words.{Node, must, may, short_form, long_form}
use Rattle.interpreter.specs.Header.{numbered}
use Rattle.interpreter.specs.NameParts.{word_key, suffix_place, no_number}
use Rattle.interpreter.specs.DeedParts.{row_count}
use Rattle.interpreter.specs.TableParts.{row_size, optional, mark_count, node_at, row_table, first_fit, mark_of}
use Rattle.interpreter.specs.Rows.{Row, rows, has_form, fits_row}

-- ---- the row that a search finds

-- the first row that spells the names in the form asked for, counted from 0; their number where none does
unfoldable pub row_of : Bool → List Text → Bool → ℕ
row_of star names asked = first_fit (fits_row star names asked) rows

-- ---- names as numbers: whether one is that of a word's short or long form

-- what is compared of a name's number: all of it, or without a numeric suffix where the word takes one
unfoldable pub shown_key : Bool → ℕ → ℕ
shown_key takes k = if takes && ltb k no_number then k % suffix_place otherwise k

unfoldable pub key_matches : String → ℕ → Bool
key_matches w k = eqb (shown_key (numbered w) k) (word_key (short_form w)) || eqb (shown_key (numbered w) k) (word_key (long_form w))

-- the suffix of the first name that has one
unfoldable pub class_in : List ℕ → ℕ
class_in [] = 0
class_in (k ∷ keys) = if eqb (k / suffix_place) 0 then class_in keys otherwise k / suffix_place

-- ---- the greedy walk over a row's nodes: a node that matches is taken, an optional one that doesn't is left out

unfoldable pub greedy : List Node → List ℕ → Bool
greedy [] keys = empty keys
greedy (must w ∷ nodes) [] = false
greedy (must w ∷ nodes) (k ∷ keys) = if key_matches w k then greedy nodes keys otherwise false
greedy (may w ∷ nodes) [] = greedy nodes []
greedy (may w ∷ nodes) (k ∷ keys) = if key_matches w k then greedy nodes keys otherwise greedy nodes (k ∷ keys)

unfoldable pub fits_keys : Bool → List ℕ → Bool → Row → Bool
fits_keys star keys asked r = same_bool star r.star && (has_form asked r.role && greedy r.nodes keys)

-- the first row that the names' numbers spell in the form asked for; the number of rows where none does
unfoldable pub row_of_keys : Bool → List ℕ → Bool → ℕ
row_of_keys star keys asked = first_fit (fits_keys star keys asked) rows

-- the row that a search comes to, if it is one
unfoldable pub found : ℕ → Option ℕ
found r = if ltb r row_count then Some r otherwise None

-- ---- cells of the tables

unfoldable pub row_cell : ℕ → ℕ → ℕ
row_cell r i = get_or row_table (r * row_size + i) 0

-- the number of a word's short form, or its long one
unfoldable pub key_cell : ℕ → ℕ → ℕ
key_cell w i = word_key (if eqb i 0 then short_form (node_at w) otherwise long_form (node_at w))

-- a node's byte: its word, and whether the node may be left out
unfoldable pub word_in : ℕ → ℕ
word_in x = x % optional

unfoldable pub node_of : ℕ → Node
node_of x = if ltb x optional then must (node_at (word_in x)) otherwise may (node_at (word_in x))

-- one node is taken at a place of the names' numbers, or left out, or it is missed
abbrev pub Walked : Node → List ℕ → ℕ → Option ℕ → Type 0
Walked x keys at (Some n) = ((nodes : List Node) → greedy (x ∷ nodes) (drop at keys) ≡ greedy nodes (drop n keys)) × (n ≤ length keys)
Walked x keys at None = (nodes : List Node) → greedy (x ∷ nodes) (drop at keys) ≡ false

pub record Marked (star : Bool) (keys : List ℕ) (r : ℕ) : Type 0 where
  pub is : r ≡ mark_of star keys
  pub small : r < mark_count

-- a node that no name spells
unfoldable pub left_out : ℕ → ℕ → Option ℕ
left_out node at = if ltb node optional then None otherwise Some at

-- a header's form as a bit, and whether a row has it
unfoldable pub form_bit : Bool → Bool → ℕ
form_bit false false = 1
form_bit false true = 2
form_bit true false = 4
form_bit true true = 8

unfoldable pub formed : ℕ → ℕ → Bool
formed r bit = not (eqb (bit_and (row_cell r 0) bit) 0)
