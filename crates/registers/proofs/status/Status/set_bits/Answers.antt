use Rattle.registers.specs.Status.{registers_of}
use Rattle.registers.proofs.status.Laws.{bits_are}
use Rattle.registers.proofs.status.Status.set_bits.Goals as goal

pub returns-clause-value : goal.returns-clause-value
returns-clause-value c = let are = bits_are (registers_of c.args.self) in cc
