-- A text is the list of its bytes. The kinds of bytes that 01 names ("Lines and units", checks 1, 2 and 5), and the parts of a
-- text that its rules speak of.
use Rattle.std.specs.Prelude.{Bool, true, false, not, ◌&&◌, ◌||◌, List, [], ◌∷◌, ℕ, zero, suc, ◌-◌, leb, eqb}
use Prim.Native.Char.{code}
use Prim.Native.String as S
use Prim.Native.String.{String}

infix 10 if◌then◌otherwise◌
unfoldable pub if◌then◌otherwise◌ {ℓ} : {A : Type ℓ} → Bool → A → A → A
if true then x otherwise y = x
if false then x otherwise y = y

abbrev pub Text : Type 0
Text = List ℕ

-- the bytes of a quoted text, whose characters are all below 128
unfoldable pub bytes : String → Text
bytes S.[] = []
bytes (S.◌∷◌ c s) = code c ∷ bytes s

-- ---- kinds of bytes

abbrev pub between : ℕ → ℕ → ℕ → Bool
between low high b = leb low b && leb b high

-- "Bytes 0 to 9 and 11 to 32 are white space"
unfoldable pub white : ℕ → Bool
white b = leb b 32 && not (eqb b 10)

-- any byte that is no white space
abbrev pub visible : ℕ → Bool
visible b = not (white b)

-- check 1: besides white space a unit may hold "33 to 126"
unfoldable pub printable : ℕ → Bool
printable b = between 33 126 b

-- digits, small letters, letters
unfoldable pub digit : ℕ → Bool
digit b = between (code "0") (code "9") b

unfoldable pub small : ℕ → Bool
small b = between (code "a") (code "z") b

unfoldable pub letter : ℕ → Bool
letter b = between (code "A") (code "Z") b || small b

-- check 2: a name is "a letter and then letters, digits or underscores"
unfoldable pub word_byte : ℕ → Bool
word_byte b = letter b || digit b || eqb b (code "_")

-- "in any letter case": a letter in capitals, any other byte as it is
unfoldable pub capital : ℕ → ℕ
capital b = if small b then b - 32 otherwise b

-- ---- texts and lists

-- both hold, or neither
abbrev pub same_bool : Bool → Bool → Bool
same_bool true b = b
same_bool false b = not b

-- the test holds of every member
abbrev pub every {ℓ} : {A : Type ℓ} → (A → Bool) → List A → Bool
every p [] = true
every p (x ∷ xs) = p x && every p xs

-- the test holds of every number below n
abbrev pub below : ℕ → (ℕ → Bool) → Bool
below zero p = true
below (suc n) p = below n p && p n

-- there is none
abbrev pub empty {ℓ} : {A : Type ℓ} → List A → Bool
empty [] = true
empty (x ∷ xs) = false

-- the first number, 0 where there is none
abbrev pub first : List ℕ → ℕ
first [] = 0
first (b ∷ bs) = b

-- all but the first
abbrev pub rest {ℓ} : {A : Type ℓ} → List A → List A
rest [] = []
rest (x ∷ xs) = xs

-- the longest start whose bytes all pass
abbrev pub start : (ℕ → Bool) → Text → Text
start p [] = []
start p (b ∷ bs) = if p b then b ∷ start p bs otherwise []

-- what stands after that start
abbrev pub after : (ℕ → Bool) → Text → Text
after p [] = []
after p (b ∷ bs) = if p b then after p bs otherwise b ∷ bs

-- how many bytes stand before the first of this kind; all of them where there is none
unfoldable pub index_after : Bool → ℕ → ℕ
index_after true n = 0
index_after false n = suc n

unfoldable pub index_of : ℕ → Text → ℕ
index_of b [] = 0
index_of b (x ∷ xs) = index_after (eqb x b) (index_of b xs)

-- the bytes that pass
abbrev pub only : (ℕ → Bool) → Text → Text
only p [] = []
only p (b ∷ bs) = if p b then b ∷ only p bs otherwise only p bs

-- the same bytes
unfoldable pub same : Text → Text → Bool
same [] [] = true
same [] (y ∷ ys) = false
same (x ∷ xs) [] = false
same (x ∷ xs) (y ∷ ys) = eqb x y && same xs ys
