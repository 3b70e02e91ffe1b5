-- The names are read onto the path with what leads them, and the row is searched by their numbers. What that means of a header is in
-- header/Grammar; the code's own test of the first byte is the definition's.
use mathlib.Core.Path.{refl, ◌∙◌}
use Rattle.interpreter.specs.HeaderParts.{starred, rooted}
use Rattle.interpreter.proofs.deed.Laws.{meant-there}
use Rattle.interpreter.proofs.header.Grammar.{led, look-bad, first-at, look-found}
use Rattle.interpreter.proofs.header.look_up.Goals as goal

pub returns-in_err-names : goal.returns-in_err-names
returns-in_err-names c = rw c.from_residual.ensures (λ names h. let t = c.args.text.now in look-bad t (led t) c.in_err-names.ensures.read)

pub searched-searched-requires : goal.searched-searched-requires
searched-searched-requires c =
    let t = c.args.text.now in
    let p = c.args.path.now in
    let q = c.read_names.new.path in
    let n = c.in_ok-names.ensures.read in
    let fits = first-at t p.names p.used p.few p.long q.names q.long c.in_ok-names.names (starred t) (rooted t) (led t) n in
    (rw (c.read_names.ensures.kept, c.byte_at-star.ensures) fits, n.few)

pub leave-requires : goal.leave-requires
leave-requires c = let n = c.in_ok-names.ensures.read in (n.some, n.few)

pub invariant_of-heading : goal.invariant_of-heading
invariant_of-heading c = record { is_there = meant-there _ _ c.place_of-place.result c.place_of-place.ensures }

pub returns : goal.returns
returns c =
    let found = c.place_of-place.ensures ∙ rw (c.searched-searched.ensures, c.read_names.ensures.kept, c.byte_at-star.ensures, ← c.leave.ensures.names) in
    let read = rw (← c.leave.ensures.names) at c.in_ok-names.ensures.read in
    let there = meant-there _ _ c.place_of-place.result c.place_of-place.ensures in
    λ names h. look-found c.args.text.now names c.args.path.now c.args.path.now.long h c.leave.new.self c.leave.new.self.long c.in_ok-names.names
    (record { heading = record { place = c.place_of-place.result; asked = c.in_ok-names.names.asked; is_there = there }; end = c.in_ok-names.names.end }) refl refl c.leave.ensures.used read found
