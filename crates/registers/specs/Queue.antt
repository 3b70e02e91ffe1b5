-- "Registers and queue": how many errors wait at most, and which numbers may stand in the queue. 222 stands for -222.
use Rattle.std.specs.Prelude.{Bool, false, ◌||◌, List, [], ◌∷◌, map, ℕ, ◌-◌, eqb}
use Prim.Native.String.{String}
use Rattle.registers.specs.Text.{rest}
use Rattle.registers.specs.Error.{messages}

-- "The queue holds 16 numbers"
abbrev pub most : ℕ
most = 16

-- the last of its places, "the sixteenth"
abbrev pub last_place : ℕ
last_place = most - 1

-- the numbers that 01 puts into the queue, and those of 02 (#101, #108, #109, #111), each of which has a text: refusal 4 speaks of "a number this paper
-- never puts there"
unfoldable pub queueable : List ℕ
queueable = map (λ (m : ℕ × String). m.0) (rest messages)

-- a number is in a list
abbrev pub among : ℕ → List ℕ → Bool
among n [] = false
among n (x ∷ xs) = eqb x n || among n xs

-- whether a number is one of them
unfoldable pub may_be_queued : ℕ → Bool
may_be_queued n = among n queueable
