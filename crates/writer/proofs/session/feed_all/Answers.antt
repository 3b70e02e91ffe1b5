-- One way for each stage (session/Feeding).
use mathlib.Core.Path.{ap}
use mathlib.Core.Logic.{inl, inr}
use Rattle.writer.proofs.session.Bytes.{at_rest}
use Rattle.writer.proofs.session.Feeding.{feed-end, feed-stop, feed-fresh, feed-recorded, feed-found, feed-sent, first-less, part-less}
use Rattle.writer.proofs.session.feed_all.Goals as goal

pub loop-rest-preserved-in-Fresh : goal.loop-rest-preserved-in-Fresh
loop-rest-preserved-in-Fresh c = rw c.begin_line-marker.ensures (feed-fresh c.loop-rest.invariant c.in-len1-up.len_at_least c.in-Fresh.is)

pub loop-rest-smaller-in-Sending : goal.loop-rest-smaller-in-Sending
loop-rest-smaller-in-Sending c = rw c.cut_line.ensures.1 (first-less c.loop-rest.invariant c.in-len1-up.len_at_least)

pub loop-rest-preserved-in-Sending : goal.loop-rest-preserved-in-Sending
loop-rest-preserved-in-Sending c =
    rw (c.send_part-marker.ensures, c.cut_line.ensures.1)
    (feed-sent c.loop-rest.invariant c.in-len1-up.len_at_least c.in-Sending.is c.cut_line.ensures.0 c.serve-served.ensures c.serve-served.auto.output c.ends_with-ended.ensures.value)

pub find_part-marker-requires : goal.find_part-marker-requires
find_part-marker-requires c =
    feed-recorded c.loop-rest.invariant c.in-len1-up.len_at_least _ c.clamp.ensures c.split_at.ensures.front c.split_at.ensures.back c.saturating_sub-left.ensures c.in-Finding.is

pub loop-rest-smaller : goal.loop-rest-smaller
loop-rest-smaller c = part-less c.loop-rest.invariant c.in-len1-up.len_at_least _ c.clamp.ensures c.split_at.ensures.front c.split_at.ensures.back

pub loop-rest-preserved : goal.loop-rest-preserved
loop-rest-preserved c =
    feed-found c.loop-rest.invariant c.in-len1-up.len_at_least _ c.clamp.ensures c.split_at.ensures.front c.split_at.ensures.back
    c.find_part-marker.ensures

pub returns-in-Differing : goal.returns-in-Differing
returns-in-Differing c = feed-stop c.loop-rest.invariant (elim c.in-Differing.is [ inl e ↦ ap at_rest e | inr e ↦ ap at_rest e ])

pub returns : goal.returns
returns c = feed-end _ c.loop-rest.invariant c.in_default.len_below
