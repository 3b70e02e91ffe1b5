-- How the code keeps 01's rows: a table of bytes, part by part. Nothing of 01 is defined here: see Rows.antt.
use Rattle.std.specs.Prelude.{Bool, true, false, ◌||◌, List, [], ◌∷◌, ◌++◌, map, ℕ, zero, suc, ◌+◌, ◌-◌, ◌*◌, ◌/◌, ◌%◌, eqb, length, get_or, replicate}
use Prim.Native.String.{String}
use mir.Val.{bool_byte}
use Rattle.registers.specs.Text.{Text, if◌then◌otherwise◌, bytes, first}
use Rattle.registers.specs.Words.{Node, must, may, short_form, long_form}
use Rattle.interpreter.specs.NameParts.{code_count, code_of, word_key}
use Rattle.interpreter.specs.WordsParts.{word_bytes, word_table, place_in}
use Rattle.interpreter.specs.DeedParts.{row_count}
use Rattle.interpreter.specs.Rows.{Row, rows, has_form}

-- ---- the words of the rows' nodes

unfoldable pub node_list : List String
node_list =
    "OUTPut" ∷ "VOLTage" ∷ "FREQuency" ∷ "CURRent" ∷ "STATe" ∷ "PON" ∷ "RELay" ∷ "MONitor" ∷ "MODE" ∷ "SOURce" ∷ "LEVel" ∷ "IMMediate"
    ∷ "AMPLitude" ∷ "RANGe" ∷ "LIMit" ∷ "RMS" ∷ "PEAK" ∷ "TIME" ∷ "HIGH" ∷ "LOW" ∷ "DISPlay" ∷ "BRIGhtness" ∷ "SYSTem" ∷ "KLOCk"
    ∷ "IDN" ∷ "TST" ∷ "OPC" ∷ "WAI" ∷ "RST" ∷ "CLS" ∷ "ESE" ∷ "SRE" ∷ "ESR" ∷ "STB" ∷ "STATus" ∷ "OPERation" ∷ "CONDition" ∷ "EVENt"
    ∷ "ENABle" ∷ "NTRansition" ∷ "PTRansition" ∷ "ERRor" ∷ "EXAM" ∷ "LOCK" ∷ "WARNing" ∷ "SAV" ∷ "RCL" ∷ "TEXT" ∷ []

-- how many there are, and how many of them, the first, take a suffix
abbrev pub node_count : ℕ
node_count = 48

abbrev pub numbered_count : ℕ
numbered_count = 4

-- how many bytes a row takes in the table, and the two numbers of a node's word
abbrev pub row_size : ℕ
row_size = 8

abbrev pub keys_size : ℕ
keys_size = 16

abbrev pub row_bytes : ℕ
row_bytes = row_count * row_size

abbrev pub key_bytes : ℕ
key_bytes = node_count * keys_size

-- how many bytes there are, each of which has a code, and how many marks
abbrev pub byte_count : ℕ
byte_count = 256

abbrev pub mark_count : ℕ
mark_count = 256

-- where the numbers begin, the codes, and the rows where a search starts; and where the table ends
abbrev pub first_key : ℕ
first_key = word_bytes + row_bytes

abbrev pub first_code : ℕ
first_code = first_key + key_bytes

abbrev pub first_start : ℕ
first_start = first_code + byte_count

abbrev pub table_bytes : ℕ
table_bytes = first_start + mark_count

-- how many nodes a row has at most
abbrev pub most_nodes : ℕ
most_nodes = 5

unfoldable pub node_at : ℕ → String
node_at i = get_or node_list i ""

-- ---- rows

-- a node's word, and so much more if the node may be left out
abbrev pub optional : ℕ
optional = 128

unfoldable pub node_byte : Node → ℕ
node_byte (must w) = place_in node_list w
node_byte (may w) = place_in node_list w + optional

-- a number, or 0
abbrev pub or_zero : Bool → ℕ → ℕ
or_zero true n = n
or_zero false n = 0

-- a row's forms as bits: 1 set and 2 asked, 4 and 8 if it is starred
unfoldable pub form_byte : Row → ℕ
form_byte r =
    if r.star then or_zero (has_form false r.role) 4 + or_zero (has_form true r.role) 8
    otherwise or_zero (has_form false r.role) 1 + or_zero (has_form true r.role) 2

-- a row: its forms, how many nodes, the nodes, and zeros
unfoldable pub row_row : Row → Text
row_row r = form_byte r ∷ length r.nodes ∷ map node_byte r.nodes ++ replicate (row_size - 2 - length r.nodes) 0

unfoldable pub row_table_of : List Row → Text
row_table_of [] = []
row_table_of (r ∷ rs) = row_row r ++ row_table_of rs

unfoldable pub row_table : Text
row_table = row_table_of rows

-- ---- the numbers of the nodes' words, and the codes of all bytes

-- a number in two, four and eight bytes, low byte first
abbrev pub two : ℕ → Text
two n = n % 256 ∷ n / 256 ∷ []

abbrev pub four : ℕ → Text
four n = two (n % 65536) ++ two (n / 65536)

abbrev pub eight : ℕ → Text
eight n = four (n % 4294967296) ++ four (n / 4294967296)

-- the numbers of a word's short and its long form
unfoldable pub key_row : String → Text
key_row w = eight (word_key (short_form w)) ++ eight (word_key (long_form w))

unfoldable pub key_table_of : List String → Text
key_table_of [] = []
key_table_of (w ∷ ws) = key_row w ++ key_table_of ws

unfoldable pub key_table : Text
key_table = key_table_of node_list

-- what a function says of n numbers, of which i is the first
unfoldable pub list_from : ℕ → ℕ → (ℕ → ℕ) → Text
list_from i zero f = []
list_from i (suc n) f = f i ∷ list_from (suc i) n f

unfoldable pub code_table : Text
code_table = list_from 0 byte_count code_of

-- ---- the second lookup, by the names' first letters

-- one letter more in a mark
abbrev pub with_letter : ℕ → ℕ → ℕ
with_letter m c = (m * 24 + c) % mark_count

unfoldable pub mark_from : ℕ → List ℕ → ℕ
mark_from m [] = m
mark_from m (k ∷ keys) = mark_from (with_letter m (k % code_count)) keys

-- the first letters of names, by their numbers
abbrev pub mark_of : Bool → List ℕ → ℕ
mark_of star keys = mark_from (bool_byte star) keys

-- whether names that a row's nodes spell can have a mark: "kept or left out in any way"
unfoldable pub can_mark : ℕ → ℕ → List Node → Bool
can_mark x m [] = eqb m x
can_mark x m (must w ∷ nodes) = can_mark x (with_letter m (code_of (first (bytes w)))) nodes
can_mark x m (may w ∷ nodes) = can_mark x m nodes || can_mark x (with_letter m (code_of (first (bytes w)))) nodes

-- the first of some rows that passes a test; their number where none does
unfoldable pub first_fit : (Row → Bool) → List Row → ℕ
first_fit p [] = 0
first_fit p (r ∷ rs) = if p r then 0 otherwise suc (first_fit p rs)

-- the first row whose names can have it; the number of rows where none's can
unfoldable pub start_of : ℕ → ℕ
start_of x = first_fit (λ r. can_mark x (bool_byte r.star) r.nodes) rows

unfoldable pub start_table : Text
start_table = list_from 0 mark_count start_of

-- the table that is searched: the parameters' words, and after them what finds a header's row
unfoldable pub search_table : Text
search_table = row_table ++ (key_table ++ (code_table ++ start_table))

unfoldable pub command_table : Text
command_table = word_table ++ search_table
