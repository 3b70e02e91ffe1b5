-- The longest line and the longest answer, and one byte more of each: "The edge cases of 01 move to 4,096 and 4,097" (02, #106).
use Rattle.std.specs.Prelude.{◌≡◌, true, false, List, [], ◌∷◌, ◌++◌, ℕ, pos, replicate}
use Prim.Native.Char.{code}
use Rattle.registers.specs.Text.{Text, bytes}
use Rattle.registers.specs.Settings.{at_reset, voltage, value_at}
use Rattle.interpreter.specs.Box.{Box, power_up, blank}
use Rattle.interpreter.specs.Reply.{fits_answer}
use Rattle.interpreter.specs.Events.{Event, received, after}
use Rattle.interpreter.specs.Histories.{newline}

-- so many times the letter X
abbrev pub letters : ℕ → Text
letters n = replicate n (code "X")

-- so many bytes of a line, before its newline
abbrev pub line_of : ℕ → List Event
line_of n = received (letters n) ∷ []

-- so many blanks and `VOLT 5`, six bytes, and then the newline
abbrev pub spaces : ℕ → Text
spaces n = replicate n (code " ")

abbrev pub spaced : ℕ → List Event
spaced n = received (spaces n ++ bytes "VOLT 5") ∷ newline ∷ []

-- a box in which the line ran, and one in which it gave -363 and no unit ran
pub record Runs (b : Box) : Type 0 where
  pub set : value_at b.core.settings voltage ≡ pos 50
  pub queue : b.trouble.queue ≡ []

pub record Overruns (b : Box) : Type 0 where
  pub settings : b.core.settings ≡ at_reset
  pub queue : b.trouble.queue ≡ 363 ∷ []

pub record Edges : Type 0 where
  pub longest_line : (after (power_up blank) (line_of 4096)).core.overlong ≡ false
  pub longer_line : (after (power_up blank) (line_of 4097)).core.overlong ≡ true
  -- "512 bytes before the newline run, 513 give -363"
  pub runs : Runs (after (power_up blank) (spaced 4090))
  pub overruns : Overruns (after (power_up blank) (spaced 4091))
  -- without its newline, which has to fit too
  pub longest_answer : fits_answer [] (letters 4095) ≡ true
  pub longer_answer : fits_answer [] (letters 4096) ≡ false
