use Rattle.std.proofs.Common.{◌∙◌}
use Rattle.registers.proofs.text.Laws.{capital-is}
use Rattle.registers.proofs.text.in_capitals.Goals as goal

pub returns : goal.returns
returns c = c.to_ascii_uppercase.ensures.value ∙ capital-is c.args.b
