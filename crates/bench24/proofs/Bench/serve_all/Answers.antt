use borrow.Author.Rules.{rules}
use Rattle.bench24.proofs.Hearing.{hear-begun, read-within, shorter, wrote-answers, hear-on, hear-stop}
use Rattle.bench24.proofs.Bench.serve_all.Goals as goal

pub loop-rest-init : goal.loop-rest-init
loop-rest-init g c = hear-begun _ _ c.args.input.now

pub write_answers-wrote-requires : goal.write_answers-wrote-requires
write_answers-wrote-requires g c = wrote-answers c.loop-rest.self _ _ _ _ _ _ _ _ c.serve-served.ensures (search rules)

-- what was read is no more than a length can be
pub slice_bounds-rest-count : goal.slice_bounds-rest-count
slice_bounds-rest-count g c =
    let within = read-within c.loop-rest.self _ _ _ _ _ _ _ _ c.serve-served.ensures (search rules) in
    search rules

pub slice_bounds-rest-start : goal.slice_bounds-rest-start
slice_bounds-rest-start g c =
    let within = read-within c.loop-rest.self _ _ _ _ _ _ _ _ c.serve-served.ensures (search rules) in
    search rules

pub loop-rest-smaller : goal.loop-rest-smaller
loop-rest-smaller g c = shorter c.loop-rest.self _ _ _ _ _ _ _ _ c.serve-served.ensures (search rules) (search rules) (search rules)

pub loop-rest-preserved : goal.loop-rest-preserved
loop-rest-preserved g c = hear-on _ _ _ c.loop-rest.self _ _ _ _ _ _ _ _ c.loop-rest.invariant c.serve-served.ensures (search rules)

pub returns-in_default : goal.returns-in_default
returns-in_default g c =
    hear-stop _ _ _ c.loop-rest.self _ _ _ _ _ _ _ _ c.loop-rest.invariant c.serve-served.ensures (search rules) (search rules) (search rules)
