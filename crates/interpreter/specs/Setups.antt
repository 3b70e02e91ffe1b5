-- 02, #108, as laws of what *SAV and *RCL do: what is saved is recalled, "Any single altered byte in a block is noticed", "*SAV touches only its own
-- block", and what a block means that was saved before there was a text or a second channel. The store persists between events, over a
-- power-up too (Events.happens).
use Rattle.std.specs.Prelude.{◌≡◌, true, false, [], ℕ, ◌+◌, ◌*◌, ◌≤◌, ◌<◌, get_or, replicate}
use Rattle.registers.specs.Check.{refused, passed}
use Rattle.registers.specs.Label.{most_text}
use Rattle.registers.specs.Settings.{table_count, displayed, AsLong, possible_settings}
use Rattle.registers.specs.Setup.{places, block_size, checks, saved_text, read_in, marked, settings_in, block_of, block_at}
use Rattle.registers.specs.declared.settings.Settings.{Settings}
use Rattle.interpreter.specs.Box.{right_size, altered_in, Core, with_settings, with_memory}
use Rattle.interpreter.specs.Perform.{set_up}
use Rattle.interpreter.specs.declared.deed.Saving.TheVariants.{Save, Recall}

-- what *SAV saves in a place *RCL recalls from it, whatever has become of the other blocks and of the box meanwhile
abbrev pub SavedIsRecalled : Type 0
SavedIsRecalled =
    (p : ℕ) (c d e : Core) → p < places → right_size c.memory ≡ true
    → possible_settings c.settings ≡ true → AsLong c.settings
    → set_up Save p c ≡ passed d → block_at p e.memory.store ≡ block_at p d.memory.store
    → set_up Recall p e ≡ passed (with_settings c.settings e)

-- "A block saved before": one whose seventeen settings and text were within their limits when there was one channel (02, #111) doesn't carry
-- the mark, and if its check holds it sets channel 1 and what is single as it did, and channel 2 as *RST does
abbrev pub OlderIsRecalled : Type 0
OlderIsRecalled =
    (p : ℕ) (c : Core) → let b = block_at p c.memory.store in
    checks b ≡ true → possible_settings (read_in table_count b) ≡ true
    → (marked b ≡ false) × (set_up Recall p c ≡ passed (with_settings (read_in table_count b) c))

-- while *SAV leaves the mark
abbrev pub SavedIsMarked : Type 0
SavedIsMarked = (s : Settings) → marked (block_of s) ≡ true

-- "*RCL of a block .. that is all zero .. raises -314"
abbrev pub ZerosAreRefused : Type 0
ZerosAreRefused = (p : ℕ) (c : Core) → block_at p c.memory.store ≡ replicate block_size 0 → set_up Recall p c ≡ refused 314

-- the text of a block that was saved before there was one (02, #109), with zeros in its place, is empty
abbrev pub OlderHasNoText : Type 0
OlderHasNoText =
    (p : ℕ) (c : Core) → let b = block_at p c.memory.store in
    marked b ≡ false → saved_text table_count b ≡ replicate most_text 0 → displayed (settings_in b) ≡ []

-- a block whose check holds, with another byte at one place, is not recalled
abbrev pub AlteredIsNoticed : Type 0
AlteredIsNoticed =
    (p i x : ℕ) (c : Core) → i < block_size → (x ≡ get_or (block_at p c.memory.store) i 0 → ⊥)
    → checks (block_at p c.memory.store) ≡ true
    → set_up Recall p (with_memory (altered_in (block_size * p + i) x c.memory) c) ≡ refused 314

-- what *SAV leaves: every byte of the other blocks, and all else of the box
pub record OnlyItsBlock (p : ℕ) (c d : Core) : Type 0 where
  pub size : right_size d.memory ≡ true
  pub before : (j : ℕ) → j < block_size * p → get_or d.memory.store j 0 ≡ get_or c.memory.store j 0
  pub after : (j : ℕ) → block_size * p + block_size ≤ j → get_or d.memory.store j 0 ≡ get_or c.memory.store j 0
  pub rest : d ≡ with_memory d.memory c

abbrev pub SavesOnlyItsBlock : Type 0
SavesOnlyItsBlock = (p : ℕ) (c d : Core) → p < places → right_size c.memory ≡ true → set_up Save p c ≡ passed d → OnlyItsBlock p c d

pub record Setups : Type 0 where
  pub recalled : SavedIsRecalled
  pub marked : SavedIsMarked
  pub older : OlderIsRecalled
  pub textless : OlderHasNoText
  pub zeros : ZerosAreRefused
  pub noticed : AlteredIsNoticed
  pub only : SavesOnlyItsBlock
