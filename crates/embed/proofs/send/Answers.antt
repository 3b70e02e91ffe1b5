use mathlib.Core.Path.{refl}
use borrow.Author.Rules.{rules}
use Rattle.interpreter.proofs.state.Takes.{answer-within}
use Rattle.embed.proofs.send.Goals as goal

-- the take gave a length, so the answer lies within the buffer
pub slice_bounds-write_all-end : goal.slice_bounds-write_all-end
slice_bounds-write_all-end g c =
    let is = c.in-Ok-length.is in
    let within = rw is at (answer-within _ _ _ _ _ _ c.take-taken.ensures (rw is refl)) in
    search rules
