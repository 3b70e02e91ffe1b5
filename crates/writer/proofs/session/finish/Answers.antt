-- A line that is left open is closed by a newline (session/Feeding).
use mathlib.Core.Path.{ap}
use mathlib.Core.Logic.{inl, inr}
use native.Mathlib.Omega.{arith}
use Rattle.writer.specs.Marking.{left_open}
use Rattle.writer.proofs.session.Feeding.{fit-from, counted, finish-plain, finish-open}
use borrow.Author.Rules.{rules}
use Rattle.writer.proofs.session.finish.Goals as goal

pub feed_all-requires : goal.feed_all-requires
feed_all-requires c = fit-from _ _ _ _ c.possible.ensures c.if-not-possible.false-raw (record { sized = search rules; wide = search rules })

pub report-requires : goal.report-requires
report-requires c =
    let h = counted _ c.possible.ensures c.if-not-possible.false-raw in
    let n = c.feed_all.ensures.number in
    omega arith

pub report-requires-in-Fresh : goal.report-requires-in-Fresh
report-requires-in-Fresh c = let h = counted _ c.possible.ensures c.if-not-possible.false-raw in omega arith

pub returns-in-Sending : goal.returns-in-Sending
returns-in-Sending c =
    finish-open _ _ _ c.possible.ensures c.if-not-possible.false-raw
    (elim c.in-Sending.is [ inl e ↦ ap left_open e | inr e ↦ ap left_open e.1 ]) c.feed_all.ensures c.report.ensures

pub returns-in-Fresh : goal.returns-in-Fresh
returns-in-Fresh c =
    finish-plain _ _ _ c.possible.ensures c.if-not-possible.false-raw
    (elim c.in-Fresh.is [ inl e ↦ ap left_open e | inr r ↦ elim r [ inl e ↦ ap left_open e | inr e ↦ ap left_open e ] ]) c.report-in-Fresh.ensures
