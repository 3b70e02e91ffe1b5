-- 02, #108: "Saved setups". A block of the lent store holds every setting of both channels (#111), the display's text
-- among them (#109), and its own check.
use Rattle.std.specs.Prelude.{Bool, true, false, ◌&&◌, List, [], ◌∷◌, ◌++◌, ℕ, zero, suc, ◌+◌, ◌-◌, ◌*◌, ◌/◌, ◌%◌, eqb, leb, length, take, drop, get_or, replicate, ℤ, pos, negsuc, neg_ℤ, Result, Ok, Err}
use Rattle.registers.specs.Text.{Text, if◌then◌otherwise◌}
use Rattle.registers.specs.Label.{most_text, padded}
use Rattle.registers.specs.Settings.{count, table_count, at_reset, value_at, possible_settings}
use Rattle.registers.specs.declared.settings.Settings.{Settings}
use Rattle.registers.specs.declared.setup.Unfit.{Unfit}

-- "ten blocks of 512 bytes", of which the check is over "the first 508"
abbrev pub places : ℕ
places = 10

abbrev pub block_size : ℕ
block_size = 512

abbrev pub checked_size : ℕ
checked_size = 508

-- ---- the check

-- the sum of the byte times its place, the first at place k
unfoldable pub weighted : ℕ → Text → ℕ
weighted k [] = 0
weighted k (b ∷ bs) = k * b + weighted (suc k) bs

-- bytes as a number, low byte first, and a number in so many bytes
unfoldable pub low_first : Text → ℕ
low_first [] = 0
low_first (b ∷ bs) = b + 256 * low_first bs

unfoldable pub in_bytes : ℕ → ℕ → Text
in_bytes zero n = []
in_bytes (suc k) n = n % 256 ∷ in_bytes k (n / 256)

-- "the last four bytes, low byte first, are the sum over the first 508 bytes of the byte times its place, counted from 1"
unfoldable pub checks : Text → Bool
checks b = eqb (length b) block_size && eqb (weighted 1 (take checked_size b)) (low_first (drop checked_size b))

-- ---- the layout, which 02 leaves open: the settings in the order of their slots, each in two bytes, low byte first, as its value in steps
-- and 256 more. So a value below zero needs no sign, and no setting can have a block's zeros for its value. Behind them stands the text as
-- the settings' record holds it, so that a block that was saved before there was a text has an empty one.
-- A block of both channels has two bytes more before them, its mark. Where its second byte stands, a block that was saved when there was one
-- channel has the second byte of OUTPut's value, which is 1

unfoldable pub shifted : ℤ → ℕ
shifted (pos n) = n + 256
shifted (negsuc n) = 256 - suc n

unfoldable pub unshifted : ℕ → ℤ
unshifted n = if leb 256 n then pos (n - 256) otherwise neg_ℤ (pos (256 - n))

-- what a block says of a row
unfoldable pub value_in : Text → ℕ → ℤ
value_in b i = unshifted (get_or b (2 * i) 0 + 256 * get_or b (2 * i + 1) 0)

unfoldable pub values_in : Text → ℕ → List ℤ
values_in b zero = []
values_in b (suc i) = values_in b i ++ value_in b i ∷ []

-- the text stands behind the values, of which there are n
unfoldable pub saved_text : ℕ → Text → Text
saved_text n b = take most_text (drop (2 * n) b)

-- n values and the text; the slots after the n-th are as at *RST
unfoldable pub read_in : ℕ → Text → Settings
read_in n b = record { values = values_in b n ++ drop n at_reset.values; text = saved_text n b }

-- the mark, and what stands behind it
abbrev pub mark_byte : ℕ
mark_byte = 255

abbrev pub mark_size : ℕ
mark_size = 2

unfoldable pub marked : Text → Bool
marked b = eqb (get_or b 0 0) mark_byte && eqb (get_or b 1 0) mark_byte

-- what a block says: of both channels, or of channel 1 and what is single, with channel 2 as at *RST
unfoldable pub settings_in : Text → Settings
settings_in b = if marked b then read_in count (drop mark_size b) otherwise read_in table_count b

-- the bytes of the first rows
unfoldable pub bytes_of : Settings → ℕ → Text
bytes_of s zero = []
bytes_of s (suc i) = bytes_of s i ++ in_bytes 2 (shifted (value_at s i))

-- "unused bytes are 0"
abbrev pub unused : ℕ
unused = checked_size - (mark_size + (2 * count + most_text))

unfoldable pub body : Settings → Text
body s = bytes_of s count ++ (padded most_text s.text ++ replicate unused 0)

unfoldable pub contents : Settings → Text
contents s = mark_byte ∷ mark_byte ∷ body s

-- what *SAV writes
unfoldable pub block_of : Settings → Text
block_of s = contents s ++ in_bytes 4 (weighted 1 (contents s))

-- what *RCL takes: not "a block whose check fails, that is all zero, or whose settings break a limit or the range". In a block that is all zero
-- every setting breaks its limits
unfoldable pub recallable : Text → Bool
recallable b = checks b && possible_settings (settings_in b)

-- the settings that a block is read as; "a block whose check fails" says nothing, so it is read as what *RST leaves
unfoldable pub said_in : Text → Settings
said_in b = if checks b then settings_in b otherwise at_reset

-- what the reading of a block tells: whether *RCL takes it, and the settings that it is read as, taken or not
abbrev pub takes : Result Settings Unfit → Bool
takes (Ok s) = true
takes (Err u) = false

abbrev pub says : Result Settings Unfit → Settings
says (Ok s) = s
says (Err u) = u.said

-- ---- the store

unfoldable pub block_at : ℕ → Text → Text
block_at p t = take block_size (drop (block_size * p) t)

unfoldable pub saved_at : ℕ → Settings → Text → Text
saved_at p s t = take (block_size * p) t ++ (block_of s ++ drop (block_size * p + block_size) t)
