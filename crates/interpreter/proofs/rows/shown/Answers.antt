use Rattle.registers.specs.Text.{if◌then◌otherwise◌}
use Rattle.interpreter.specs.RowsParts.{shown_key}
use Rattle.interpreter.proofs.rows.Suffixes.{numbered_is}
use Rattle.interpreter.proofs.rows.shown.Goals as goal

pub returns-then-word-key : goal.returns-then-word-key
unfolding shown_key if◌then◌otherwise◌
returns-then-word-key c = rw (numbered_is c.args.word c.requires, c.if-word-key.true)

pub returns : goal.returns
unfolding shown_key if◌then◌otherwise◌
returns c = rw (numbered_is c.args.word c.requires, c.if-word-key.false)
