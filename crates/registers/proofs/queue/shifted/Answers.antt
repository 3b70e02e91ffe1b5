use Rattle.std.proofs.Common.{◌≡◌, length, drop, ap, ◌∷◌, [], ◌++◌, ◌∙◌, rules, arith}
use lib.Seq.{take_all}
use lib.ListN.{length-drop}
use Rattle.registers.specs.Queue.{last_place}
use Rattle.registers.proofs.queue.shifted.Goals as goal

pub returns : goal.returns
returns c =
    let moved = drop 1 c.args.errors in
    let long : length moved ≡ last_place = search (rules, length-drop) in
    ap (λ l. l ++ 0 ∷ []) (c.copy_from_slice.ensures.after ∙ take_all last_place moved (omega arith))
