-- The digits left at place `i`, read after the held value so far, make the held value of all. Holding at each turn is holding once at
-- the end (`held-before`).
use Rattle.registers.proofs.number.Numerals.{DigitsLeft}
use Rattle.registers.proofs.number.read_digits.Given as goal

abbrev pub invariant-loop-i : goal.invariant-loop-i
invariant-loop-i l = DigitsLeft l.text l.at l.from l.value l.i
