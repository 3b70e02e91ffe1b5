-- The first `i` bytes of the text are laid at the place, as far as the tail reaches.
use Prim.Native.Nat.{◌+◌}
use lib.ListN.{take}
use Rattle.registers.specs.AnswerParts.{LaidAt}
use Rattle.registers.proofs.answer.text_at.Given as goal

abbrev pub invariant-loop-i : goal.invariant-loop-i
invariant-loop-i l = LaidAt l.at (take l.i l.text) l.initial.tail (l.at + l.i) l.tail
