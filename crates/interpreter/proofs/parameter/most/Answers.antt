-- By what the row is for: what a setting's kind says of its parameters, and what any other row that is set may have (parameter/ByKind).
use Rattle.registers.specs.Settings.{kind_of}
use Rattle.interpreter.specs.Parameter.{greatest}
use Rattle.interpreter.proofs.parameter.ByKind.{setting-most, other-most}
use Rattle.interpreter.proofs.parameter.most.Goals as goal

pub returns-in-Setting : goal.returns-in-Setting
unfolding greatest
returns-in-Setting c = rw (c.in-Setting.is, c.from.ensures, c.is_number.ensures) (setting-most (kind_of c.in-Setting.row) c.args.asked)

pub returns-in-Register : goal.returns-in-Register
returns-in-Register c = rw c.from-in-Register.ensures (other-most c.args.role c.args.asked c.in-Register.is)

pub returns-in-Only : goal.returns-in-Only
unfolding greatest
returns-in-Only c = rw c.in-Only.is
