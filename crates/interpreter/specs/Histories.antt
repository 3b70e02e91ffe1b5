-- Histories however their bytes are cut into pieces, and the results that don't depend on the cutting.
use Rattle.std.specs.Prelude.{◌≡◌, Bool, true, false, not, List, [], ◌∷◌, ◌++◌, map, ℕ, suc, ◌+◌, eqb}
use Rattle.std.proofs.Math.ListN as L
use Rattle.registers.specs.Text.{Text, if◌then◌otherwise◌}
use Rattle.interpreter.specs.Box.{Box}
use Rattle.interpreter.specs.Events.{Event, started, received, take, condition, look, altered, mislent, Result, happens}

-- one byte received, and the newline
abbrev pub single : ℕ → Event
single x = received (x ∷ [])

abbrev pub newline : Event
newline = single 10

-- a history with its bytes one at a time
unfoldable pub moments : List Event → List Event
moments [] = []
moments (started ∷ es) = started ∷ moments es
moments (received xs ∷ es) = map single xs ++ moments es
moments (take buffer ∷ es) = take buffer ∷ moments es
moments (condition x n ∷ es) = condition x n ∷ moments es
moments (look ∷ es) = look ∷ moments es
moments (altered i x ∷ es) = altered i x ∷ moments es
moments (mislent buffer ∷ es) = mislent buffer ∷ moments es

-- "however the bytes are cut": h is the history g, its bytes in any other pieces
abbrev pub Recut : List Event → List Event → Type 0
Recut h g = moments h ≡ moments g

abbrev pub is_take : Event → Bool
is_take started = false
is_take (received xs) = false
is_take (take buffer) = true
is_take (condition x n) = false
is_take look = false
is_take (altered i x) = false
is_take (mislent buffer) = false

abbrev pub is_piece : Event → Bool
is_piece started = false
is_piece (received xs) = true
is_piece (take buffer) = false
is_piece (condition x n) = false
is_piece look = false
is_piece (altered i x) = false
is_piece (mislent buffer) = false

abbrev pub no_piece : Event → Bool
no_piece e = not (is_piece e)

-- how many of the events
unfoldable pub how_many : (Event → Bool) → List Event → ℕ
how_many p [] = 0
how_many p (e ∷ es) = let more = how_many p es in if p e then suc more otherwise more

-- the results of some of the events
unfoldable pub results_of : (Event → Bool) → Box → List Event → List Result
results_of p b [] = []
results_of p b (e ∷ es) = let more = results_of p (happens b e).box es in if p e then (happens b e).result ∷ more otherwise more

-- the same of a list that has a result for each event
unfoldable pub chosen : (Event → Bool) → List Event → List Result → List Result
chosen p [] rs = []
chosen p (e ∷ es) [] = []
chosen p (e ∷ es) (r ∷ rs) = let more = chosen p es rs in if p e then r ∷ more otherwise more

-- the answers taken
abbrev pub answers : Box → List Event → List Result
answers = results_of is_take

-- all results but the pieces' own counts of newlines
abbrev pub replies : Box → List Event → List Result
replies = results_of no_piece

-- the sum of the pieces' own counts
unfoldable pub summed : List Result → ℕ
summed [] = 0
summed (r ∷ rs) = r.value + summed rs

abbrev pub counted : Box → List Event → ℕ
counted b es = summed (results_of is_piece b es)

-- ---- the bytes of a history

-- all that its pieces bring
unfoldable pub sent : List Event → Text
sent [] = []
sent (started ∷ es) = sent es
sent (received xs ∷ es) = xs ++ sent es
sent (take buffer ∷ es) = sent es
sent (condition x n ∷ es) = sent es
sent (look ∷ es) = sent es
sent (altered i x ∷ es) = sent es
sent (mislent buffer ∷ es) = sent es

-- all that its takes copied, one answer after the other; a refused take copies nothing
unfoldable pub copied : List Result → Text
copied [] = []
copied (r ∷ rs) = (if eqb r.number 0 then L.take r.value r.buffer otherwise []) ++ copied rs
