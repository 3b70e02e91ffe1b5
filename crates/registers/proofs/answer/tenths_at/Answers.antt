use Rattle.registers.proofs.answer.Laws.{laid_one, laid_then}
use Rattle.registers.proofs.answer.Decimals.{after-fits, after-low}
use Rattle.registers.specs.Answer.{tenths}
use Prim.Native.Nat.{◌/◌}
use native.Mathlib.Omega.{arith}
use Rattle.registers.proofs.answer.tenths_at.Goals as goal

pub overflow_add-end : goal.overflow_add-end
overflow_add-end c = after-fits (c.args.n / 10) c.decimal_at-end.ensures.end (omega arith)

pub decimal_at-requires : goal.decimal_at-requires
decimal_at-requires c = after-low (c.args.n / 10) c.decimal_at-end.ensures.end c.requires

pub returns : goal.returns
unfolding tenths
returns c =
    laid_then c.decimal_at-end.ensures
    (laid_then (laid_one c.put.ensures) c.decimal_at.ensures)
