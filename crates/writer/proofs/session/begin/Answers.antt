-- The first state, at the start of the first line (session/Feeding).
use Rattle.writer.proofs.session.Feeding.{begun-marker}
use Rattle.writer.proofs.session.begin.Goals as goal

pub returns : goal.returns
returns c = begun-marker _ c.power_up.ensures
