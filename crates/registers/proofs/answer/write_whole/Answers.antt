use Rattle.registers.specs.Answer.{decimal}
use Rattle.std.proofs.Common.{arith}
use Rattle.registers.proofs.answer.Signs.{sign-short, laid-signed}
use Rattle.registers.proofs.answer.write_whole.Goals as goal

pub decimal_at-requires : goal.decimal_at-requires
decimal_at-requires c = let h = sign-short c.ranges.value c.sign_of-at.ensures in omega arith

pub returns : goal.returns
returns c = laid-signed c.ranges.value c.sign_of-at.ensures decimal c.unsigned_abs.ensures.value c.decimal_at.ensures
