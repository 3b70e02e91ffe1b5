use Rattle.registers.specs.Answer.{tenths}
use Rattle.std.proofs.Common.{arith}
use Rattle.registers.proofs.answer.Signs.{sign-short, laid-signed}
use Rattle.registers.proofs.answer.write_tenths.Goals as goal

pub tenths_at-requires : goal.tenths_at-requires
tenths_at-requires c = let h = sign-short c.ranges.value c.sign_of-at.ensures in omega arith

pub returns : goal.returns
returns c = laid-signed c.ranges.value c.sign_of-at.ensures tenths c.unsigned_abs.ensures.value c.tenths_at.ensures
