-- A marker that can't be is handed back; another takes the piece in (session/Feeding).
use Rattle.writer.proofs.session.Feeding.{fit-from, fed-done}
use borrow.Author.Rules.{rules}
use Rattle.writer.proofs.session.feed.Goals as goal

pub feed_all-requires : goal.feed_all-requires
feed_all-requires c = fit-from _ _ _ _ c.possible.ensures c.if-not-possible.false-raw (record { sized = search rules; wide = search rules })

pub returns : goal.returns
returns c = fed-done _ _ _ _ c.possible.ensures c.if-not-possible.false-raw c.feed_all.ensures
