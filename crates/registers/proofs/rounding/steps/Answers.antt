use Rattle.std.proofs.Common.{arith}
use Rattle.registers.proofs.rounding.Held.{size_fits, minus_fits, held-minus, held-plus}
use Rattle.registers.proofs.rounding.steps.Goals as goal

pub overflow_cast-size : goal.overflow_cast-size
overflow_cast-size c = size_fits c.args.tens c.args.d (omega arith) c.size_of-sized.result c.size_of-sized.ensures

pub overflow_sub-result : goal.overflow_sub-result
overflow_sub-result c = minus_fits c.args.tens c.args.d (omega arith) c.size_of-sized.result c.size_of-sized.ensures

pub returns-then-d : goal.returns-then-d
returns-then-d c =
    held-minus c.args.tens c.args.d (omega arith) c.size_of-sized.result c.size_of-sized.ensures c.if-d.true c.turned.ensures

pub returns : goal.returns
returns c = held-plus c.args.tens c.args.d (omega arith) c.size_of-sized.result c.size_of-sized.ensures c.if-d.false
