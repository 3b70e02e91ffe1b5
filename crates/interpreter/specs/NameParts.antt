-- How the code reads a name: as a number. Nothing of 01 is defined here: see Header.antt.
use Rattle.std.specs.Prelude.{◌≡◌, Bool, true, false, ◌||◌, [], ◌∷◌, ℕ, ◌+◌, ◌-◌, ◌*◌, ◌%◌, ◌^◌, eqb, length, drop, Option, Some, None}
use Prim.Native.Char.{code as code_in}
use Rattle.registers.specs.Text.{Text, if◌then◌otherwise◌, bytes, letter, digit, word_byte, every, empty, same, first, start}
use Rattle.interpreter.specs.Header.{stem, suffix}
use Rattle.interpreter.specs.declared.name.Name.{Name}

-- a byte of a name before its first digit
abbrev pub stem_byte : ℕ → Bool
stem_byte b = letter b || eqb b (code_in "_")

-- such a byte as a number of five bits: a letter by its place in the alphabet, in either case, and the last number for an underscore; 0 for
-- any other byte
abbrev pub code_count : ℕ
code_count = 32

unfoldable pub code_of : ℕ → ℕ
code_of b = if letter b then b % code_count otherwise (if eqb b (code_in "_") then code_count - 1 otherwise 0)

-- a number with one code more, in 60 bits: what doesn't fit is shifted out
unfoldable pub with_code : ℕ → ℕ → ℕ
with_code k c = k % 2 ^ 55 * code_count + c

unfoldable pub key_from : ℕ → Text → ℕ
key_from k [] = k
key_from k (b ∷ bs) = key_from (with_code k (code_of b)) bs

-- a word as a number, its first byte lowest; 0 for none
unfoldable pub word_key : Text → ℕ
word_key [] = 0
word_key (b ∷ bs) = with_code (key_from 0 bs) (code_of b)

-- a suffix as a number: none, 1, 2, other digits, and what is no number at all
unfoldable pub class_of : Text → ℕ
class_of t =
    if empty t then 0
    otherwise (if same t (bytes "1") then 1 otherwise (if same t (bytes "2") then 2 otherwise (if every digit t then 3 otherwise 4)))

-- where a suffix stands in a name's number, and the first number of what is no numeric suffix
abbrev pub suffix_place : ℕ
suffix_place = 2 ^ 60

abbrev pub no_number : ℕ
no_number = 4 * suffix_place

-- a name as a number: its stem, and its suffix above that
unfoldable pub key_of : Text → ℕ
key_of t = word_key (stem t) + class_of (suffix t) * suffix_place

-- the name that a text starts with, empty where it starts with none: "a letter and then letters, digits or underscores"
unfoldable pub name_in : Text → Text
name_in t = if letter (first t) then start word_byte t otherwise []

-- ---- what each function finds

pub record StemRead (t : Text) (r : Name) : Type 0 where
  pub key : r.key ≡ key_from 0 (start stem_byte t)
  pub end : r.end ≡ length (start stem_byte t)

-- a name starts with a letter
pub record NameHere (t : Text) (at : ℕ) (r : Name) : Type 0 where
  pub lettered : letter (first (drop at t)) ≡ true
  pub key : r.key ≡ key_of (name_in (drop at t))
  pub end : r.end ≡ at + length (name_in (drop at t))

abbrev pub NameRead : Text → ℕ → Option Name → Type 0
NameRead t at None = letter (first (drop at t)) ≡ false
NameRead t at (Some r) = NameHere t at r

-- how many names are held
abbrev pub most_names : ℕ
most_names = 7
