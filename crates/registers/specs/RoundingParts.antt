-- What the rounding's own functions say. Nothing of 01 is defined here: see Rounding.antt.
use Rattle.std.specs.Prelude.{ℕ, ℤ, ◌+◌, ◌^◌, min}
use Rattle.registers.specs.Rounding.{nearest, signed, size_in, size_side, side_in}
use Rattle.registers.specs.declared.number.Decimal.{Decimal}
use Rattle.registers.specs.declared.rounding.Stepped.{Stepped}

-- a size that is beyond every limit of 32 bits, on both sides of zero
abbrev pub beyond : ℕ
beyond = 2 ^ 31 + 1

-- num / den rounded, and the exact size's side of it
unfoldable pub sized_over : ℕ → ℕ → Stepped ℕ
sized_over num den = record { count = nearest num den; side = size_side num den (nearest num den) }

-- the same, held
unfoldable pub held_over : ℕ → ℕ → Stepped ℕ
held_over num den = record { count = min beyond (nearest num den); side = size_side num den (nearest num den) }

unfoldable pub held_in : ℕ → Decimal → Stepped ℤ
held_in k d = record { count = signed d.minus (min beyond (size_in k d)); side = side_in k d }
