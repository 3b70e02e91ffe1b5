-- DISPlay:TEXT (02, #109): "one string of up to 32 printable bytes, in double or single quotes, the quote doubled inside to mean itself".
-- What a string means, which bytes are accepted, how a text stands in the settings' record, and how it is answered.
use Rattle.std.specs.Prelude.{◌≡◌, Bool, true, false, not, ◌&&◌, ◌||◌, [], ◌∷◌, ◌++◌, ℕ, zero, suc, eqb}
use Prim.Native.Char.{code}
use Rattle.std.proofs.Math.ListN as L
use Rattle.registers.specs.Text.{Text, if◌then◌otherwise◌, between, every, first, rest, start}
use Rattle.registers.specs.declared.label.Label.{Label}

-- "up to 32"
abbrev pub most_text : ℕ
most_text = 32

-- "The nine characters that source document 004 forbids in strings": `\ / : * ? " < > |`
abbrev pub forbidden : ℕ → Bool
forbidden b =
    eqb b 92 || (eqb b 47 || (eqb b 58 || (eqb b 42 || (eqb b 63 || (eqb b 34 || (eqb b 60 || (eqb b 62 || eqb b 124)))))))

-- "printable bytes", a blank too, and none of the nine: "bytes below 32" give -150 as these do
unfoldable pub may_stand : ℕ → Bool
may_stand b = between 32 126 b && not (forbidden b)

-- ---- a string after its opening quote q; `pending`: the byte before was that quote, which closes unless it is doubled

-- "an unclosed quote, or more after a closing one, is -151"
unfoldable pub closes : ℕ → Bool → Text → Bool
closes q true [] = true
closes q true (b ∷ bs) = eqb b q && closes q false bs
closes q false [] = false
closes q false (b ∷ bs) = closes q (eqb b q) bs

-- "the quote doubled inside to mean itself"
unfoldable pub undoubled : ℕ → Bool → Text → Text
undoubled q true [] = []
undoubled q true (b ∷ bs) = b ∷ undoubled q false bs
undoubled q false [] = []
undoubled q false (b ∷ bs) =
    let quote = undoubled q true bs in
    let other = undoubled q false bs in
    if eqb b q then quote otherwise b ∷ other

-- a text that starts with its opening quote: whether it is one string, and what it means
abbrev pub is_string : Text → Bool
is_string t = closes (first t) false (rest t)

abbrev pub text_in : Text → Text
text_in t = undoubled (first t) false (rest t)

-- ---- in the settings' record: the text, and zeros after it, in as many places as there are

unfoldable pub padded : ℕ → Text → Text
padded zero t = []
padded (suc n) [] = 0 ∷ padded n []
padded (suc n) (b ∷ bs) = b ∷ padded n bs

-- the text ends before the first zero
abbrev pub of_text : ℕ → Bool
of_text b = not (eqb b 0)

abbrev pub held_in : Text → Text
held_in t = start of_text t

-- refusal 4: "its limits .. are the length and the bytes that are accepted", and after the text there are zeros alone
unfoldable pub possible_text : Text → Bool
possible_text [] = true
possible_text (b ∷ bs) =
    let more = possible_text bs in
    if eqb b 0 then every (λ x. eqb x 0) bs otherwise may_stand b && more

-- ---- "its query, which always uses double quotes": none of the text's bytes is one

abbrev pub quoted_text : Text → Text
quoted_text t = code "\"" ∷ t ++ code "\"" ∷ []

-- ---- what reading a string finds

pub record LabelRead (t : Text) (r : Label) : Type 0 where
  pub closed : r.closed ≡ is_string t
  pub allowed : r.allowed ≡ every may_stand (text_in t)
  pub count : r.count ≡ L.length (text_in t)
  pub bytes : r.bytes ≡ padded most_text (text_in t)
