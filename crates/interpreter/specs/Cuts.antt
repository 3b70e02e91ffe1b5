-- "Lines and units" and check 2: how a text is cut at every `;`, `:` or `,`, and at the white space around a part. A `;` or `,` inside quotes
-- separates nothing (02, #109).
use Rattle.std.specs.Prelude.{Bool, ◌&&◌, ◌||◌, List, [], ◌∷◌, ℕ, eqb}
use Prim.Native.Char.{code}
use Rattle.registers.specs.Text.{Text, if◌then◌otherwise◌, white, empty, after}

-- the last byte, 0 where there is none
abbrev pub last : Text → ℕ
last [] = 0
last (b ∷ bs) = if empty bs then b otherwise last bs

-- all but the last
abbrev pub front {ℓ} : {A : Type ℓ} → List A → List A
front [] = []
front (x ∷ xs) = if empty xs then [] otherwise x ∷ front xs

abbrev pub join_first : ℕ → List Text → List Text
join_first b [] = (b ∷ []) ∷ []
join_first b (u ∷ us) = (b ∷ u) ∷ us

-- "names joined by single colons": one part more than there are separators
unfoldable pub cut_at : ℕ → Text → List Text
cut_at s [] = [] ∷ []
cut_at s (b ∷ bs) = if eqb b s then [] ∷ cut_at s bs otherwise join_first b (cut_at s bs)

-- ---- quotes (02, #109): "in double or single quotes"

abbrev pub is_quote : ℕ → Bool
is_quote b = eqb b (code "\"") || eqb b (code "'")

-- the quote that is open after a byte, 0 where none is: a quote outside quotes opens one, and the same byte closes it
unfoldable pub quote_next : ℕ → ℕ → ℕ
quote_next mark b = if eqb mark 0 then (if is_quote b then b otherwise 0) otherwise (if eqb b mark then 0 otherwise mark)

-- a separator, outside quotes
abbrev pub separates : ℕ → ℕ → ℕ → Bool
separates s mark b = eqb mark 0 && eqb b s

-- "the line is cut at every `;`", "commas part the parameters"; "A `;` or `,` inside quotes, on any row, separates nothing". One part more
-- than there are separators outside quotes; `mark` is the quote that is open where the text starts
unfoldable pub cut_open : ℕ → ℕ → Text → List Text
cut_open s mark [] = [] ∷ []
cut_open s mark (b ∷ bs) =
    let fresh = cut_open s 0 bs in
    let more = cut_open s (quote_next mark b) bs in
    if separates s mark b then [] ∷ fresh otherwise join_first b more

-- "White space around a unit or a parameter is skipped"
unfoldable pub trim_end : Text → Text
trim_end [] = []
trim_end (b ∷ bs) = if white b && empty (trim_end bs) then [] otherwise b ∷ trim_end bs

unfoldable pub trim : Text → Text
trim t = trim_end (after white t)
