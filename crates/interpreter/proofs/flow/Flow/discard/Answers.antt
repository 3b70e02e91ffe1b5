-- What waits is discarded, and where nothing waits nothing is changed (present/Laws).
use mathlib.Core.Path.{◌≡◌, refl}
use Rattle.interpreter.proofs.present.Laws.{none-waits}
use Rattle.interpreter.proofs.flow.Flow.discard.Goals as goal

pub returns-then-self-ne0 : goal.returns-then-self-ne0
returns-then-self-ne0 c = (c.discard-self.ensures, record { filled = refl; overlong = refl; read = refl; count = refl })

pub returns-else-self-ne0 : goal.returns-else-self-ne0
returns-else-self-ne0 c =
    let p = c.args.self.now.present in
    let none = c.if-self-ne0.false in
    (record { queued = λ h. h; gone = none; box = λ out m _. none-waits p out m none }, record { filled = refl; overlong = refl; read = refl; count = refl })
