-- How the code keeps the words of the parameters, as a table of bytes, and what the functions that compare, choose and write them say.
-- Nothing of 01 is defined here: see Parameter.antt.
use Rattle.std.specs.Prelude.{◌≡◌, Bool, ◌||◌, List, [], ◌∷◌, ◌++◌, map, ℕ, suc, ◌+◌, ◌-◌, ◌*◌, ◌≤◌, eqb, length, get_or, take, drop, replicate}
use Prim.Native.String.{String}
use Rattle.registers.specs.Text.{Text, if◌then◌otherwise◌, bytes, same, capital}
use Rattle.registers.specs.Words.{short_form, long_form}
use Rattle.registers.specs.Settings.{Setting, slots}
use Rattle.interpreter.specs.Parameter.{words_of}
use Rattle.interpreter.specs.declared.words.Words.{Words}

-- each setting's words stand together
unfoldable pub word_list : List String
word_list = "CURRent" ∷ "SCURrent" ∷ "VOLTage" ∷ "R12V" ∷ "R24V" ∷ "CONTinuous" ∷ "OFF" ∷ "ON" ∷ "MINimum" ∷ "MAXimum" ∷ []

abbrev pub word_count : ℕ
word_count = 10

-- how many bytes a word takes in the table, and all of them
abbrev pub word_size : ℕ
word_size = 16

abbrev pub word_bytes : ℕ
word_bytes = word_count * word_size

unfoldable pub word_at : ℕ → String
word_at i = get_or word_list i ""

-- a word's place in the list
unfoldable pub place_in : List String → String → ℕ
place_in [] w = 0
place_in (v ∷ vs) w = let more = suc (place_in vs w) in if same (bytes v) (bytes w) then 0 otherwise more

-- a word: the lengths of its short and its long form, its letters, and zeros
unfoldable pub word_row : String → Text
word_row w = length (short_form w) ∷ length (long_form w) ∷ long_form w ++ replicate (word_size - 2 - length (long_form w)) 0

unfoldable pub word_table_of : List String → Text
word_table_of [] = []
word_table_of (w ∷ ws) = word_row w ++ word_table_of ws

unfoldable pub word_table : Text
word_table = word_table_of word_list

-- ---- a text and a word

-- how many first bytes of a text, in capitals, are the letters
unfoldable pub agreed : Text → Text → ℕ
agreed [] letters = 0
agreed (b ∷ bs) [] = 0
agreed (b ∷ bs) (x ∷ xs) = let more = suc (agreed bs xs) in if eqb (capital b) x then more otherwise 0

unfoldable pub word_cell : ℕ → ℕ → ℕ
word_cell w i = get_or word_table (w * word_size + i) 0

-- the length of one of a word's forms
unfoldable pub form_length : ℕ → ℕ → Bool
form_length w n = eqb n (word_cell w 0) || eqb n (word_cell w 1)

-- ---- the words that a setting takes

-- where each setting's words begin, and how many there are
unfoldable pub words_taken : List Words
words_taken = map (λ (s : Setting). record { first = place_in word_list (get_or (words_of s.kind) 0 ""); count = length (words_of s.kind) }) slots

abbrev pub words_in : Words → List String
words_in w = take w.count (drop w.first word_list)

pub record TakenOf (ws : List String) (r : Words) : Type 0 where
  pub words : words_in r ≡ ws
  pub room : r.first + r.count ≤ word_count
