-- "The result is the number of newlines in the piece", piece by piece: two histories with the same pieces have the same counts, and where
-- they differ in a line alone, the pieces before it and those after it do.
use Rattle.std.specs.Prelude.{◌≡◌, List, [], ◌∷◌, ◌++◌, map}
use Rattle.std.proofs.Math.ListN as L
use Rattle.registers.specs.Text.{Text}
use Rattle.interpreter.specs.Box.{Memory, Box}
use Rattle.interpreter.specs.Line.{newlines}
use Rattle.interpreter.specs.Events.{Event, started, received, take, condition, look, altered, mislent, Result, result_of}
use Rattle.interpreter.specs.Histories.{is_piece, how_many, results_of, chosen}
use Rattle.interpreter.specs.OfCalls.{Ran}
use Rattle.interpreter.specs.declared.state.State.{State}

-- the pieces of a history
unfoldable pub pieces_of : List Event → List Text
pieces_of [] = []
pieces_of (started ∷ es) = pieces_of es
pieces_of (received xs ∷ es) = xs ∷ pieces_of es
pieces_of (take buffer ∷ es) = pieces_of es
pieces_of (condition x n ∷ es) = pieces_of es
pieces_of (look ∷ es) = pieces_of es
pieces_of (altered i x ∷ es) = pieces_of es
pieces_of (mislent buffer ∷ es) = pieces_of es

-- what a piece tells, on whatever box
abbrev pub own_count : Text → Result
own_count xs = result_of 0 (newlines xs) []

-- the results of the pieces alone
abbrev pub CountsAre : Type 0
CountsAre = (b : Box) (h : List Event) → results_of is_piece b h ≡ map own_count (pieces_of h)

-- in demand 3 a line stands between `before` and `later`, as it was sent in one history and cut in the other: the counts of the pieces outside it agree
-- one by one, whatever stands in its place and however it is cut
pub record Outside (before line line' : List Event) (these those : List Result) : Type 0 where
  pub first : L.take (how_many is_piece before) these ≡ L.take (how_many is_piece before) those
  pub last : L.drop (how_many is_piece (before ++ line)) these ≡ L.drop (how_many is_piece (before ++ line')) those

abbrev pub CountsOutside : Type 0
CountsOutside = (b : Box) (before line line' later : List Event)
    → Outside before line line' (results_of is_piece b (before ++ line ++ later)) (results_of is_piece b (before ++ line' ++ later))

-- the same of calls: the counts that the callers were told
abbrev pub CountsOfCalls : Type 0
CountsOfCalls = (s t : State) (m n : Memory) (es : List Event) (rs : List Result) → Ran s m t n es rs → chosen is_piece es rs ≡ map own_count (pieces_of es)

pub record Counts : Type 0 where
  pub pieces : CountsAre
  pub outside : CountsOutside
  pub of_calls : CountsOfCalls
