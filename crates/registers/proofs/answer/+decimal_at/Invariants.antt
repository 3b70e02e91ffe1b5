-- `decimal_at` calls itself at a smaller number, so the number is the measure.
use Rattle.registers.proofs.answer.+decimal_at.Given as goal

abbrev pub decreases-decimal_at : goal.decreases-decimal_at
decreases-decimal_at l = l.n
