-- What the writer's private functions say. Nothing of 02 is defined here: see Lines.antt.
use Rattle.std.specs.Prelude.{◌≡◌, true, List, [], ◌∷◌, ◌++◌, ℕ, zero, suc, ◌<◌, eqb, ℤ, Ok, Err, Result}
use Rattle.registers.specs.Text.{Text, if◌then◌otherwise◌}
use Rattle.registers.specs.Settings.{count, kind_of, within, sort_of, some_words}
use Rattle.registers.specs.declared.settings.Settings.{Settings}
use Rattle.writer.specs.Lines.{header_for}
use Rattle.writer.specs.declared.lines.Refusal.{Refusal}
use Rattle.writer.specs.declared.lines.Refusal.TheVariants.{NotWritable}
use Rattle.writer.specs.declared.lines.Channel.{Channel}
use Rattle.writer.specs.declared.lines.Channel.TheVariants.{First, Second}

-- the headers of the first n slots
unfoldable pub headers_to : ℕ → List Text
headers_to zero = []
headers_to (suc n) = headers_to n ++ header_for n ∷ []

-- 02's channels, and those that it has by their number
abbrev pub channel_number : Channel → ℕ
channel_number First = 1
channel_number Second = 2

abbrev pub named : ℕ → Result Channel Refusal
named n = if eqb n 1 then Ok First otherwise (if eqb n 2 then Ok Second otherwise Err NotWritable)

-- the most bytes of a value's text, of a text in its quotes, and of a line
abbrev pub most_value : ℕ
most_value = 30

abbrev pub most_quoted : ℕ
most_quoted = 34

abbrev pub most_one_line : ℕ
most_one_line = 51

-- a value within a row's limits, whatever the range
pub record Value (i : ℕ) (v : ℤ) : Type 0 where
  pub row : i < count
  pub settings : Settings
  pub within : within settings i v ≡ true

-- of a setting whose values are words
pub record Worded (i : ℕ) (v : ℤ) : Type 0 where
  pub value : Value i v
  pub words : sort_of (kind_of i) ≡ some_words
