use Rattle.std.proofs.Common.{sym}
use Rattle.player.proofs.script.number.Goals as goal

pub returns : goal.returns
returns g c = rw (sym c.in_ok-decimal.ensures) (c.try_from.result, c.try_from.ensures, c.ok.ensures.value)
