-- Counts piece by piece.
use mathlib.Core.Path.{◌≡◌, refl, sym, ◌∙◌, ap}
use mathlib.Core.List.{List, [], ◌∷◌, ◌++◌, append_assoc}
use lib.ListN as L
use lib.Seq.{take_at, drop_at}
use Rattle.registers.specs.Text.{if◌then◌otherwise◌}
use Rattle.interpreter.specs.Box.{Box}
use Rattle.interpreter.specs.Line.{piece}
use Rattle.interpreter.specs.Events.{Event, started, received, take, condition, look, altered, mislent, Result, happens, after}
use Rattle.interpreter.specs.Histories.{is_piece, how_many, results_of}
use Rattle.interpreter.specs.State.{box_of}
use Rattle.interpreter.specs.Counts.{pieces_of, own_count, CountsAre, CountsOutside, Counts}
use Rattle.interpreter.proofs.demands.histories.Pieces.{results-append}
use Rattle.interpreter.proofs.demands.histories.ResultCounts.{results-length}
use Rattle.interpreter.proofs.demands.calls.OfCalls.{chosen_is}

counts-are : CountsAre
unfolding pieces_of results_of happens if◌then◌otherwise◌
counts-are b [] = refl
counts-are b (started ∷ es) = counts-are _ es
counts-are b (received xs ∷ es) = ap (λ (rs : List Result). own_count xs ∷ rs) (counts-are (piece b xs) es)
counts-are b (take buffer ∷ es) = counts-are _ es
counts-are b (condition x n ∷ es) = counts-are _ es
counts-are b (look ∷ es) = counts-are b es
counts-are b (altered i x ∷ es) = counts-are _ es
counts-are b (mislent buffer ∷ es) = counts-are b es

-- so the box doesn't matter
anywhere : (a b : Box) (es : List Event) → results_of is_piece a es ≡ results_of is_piece b es
anywhere a b es = counts-are a es ∙ sym (counts-are b es)

counts-outside : CountsOutside
counts-outside b before line line' later =
    let start : (d : List Event) → L.take (how_many is_piece before) (results_of is_piece b (before ++ d ++ later)) ≡ results_of is_piece b before =
    λ d. ap (λ (es : List Event). L.take (how_many is_piece before) (results_of is_piece b es)) (append_assoc before d later)
    ∙ ap (L.take (how_many is_piece before)) (results-append is_piece b before _)
    ∙ take_at (results_of is_piece b before) _ (how_many is_piece before) (results-length is_piece b before) in
    let end : (d : List Event) → L.drop (how_many is_piece (before ++ d)) (results_of is_piece b (before ++ d ++ later)) ≡ results_of is_piece (after b (before ++ d)) later =
    λ d. ap (L.drop (how_many is_piece (before ++ d))) (results-append is_piece b (before ++ d) later)
    ∙ drop_at (results_of is_piece b (before ++ d)) _ (how_many is_piece (before ++ d)) (results-length is_piece b (before ++ d)) in
    record {
      first = start line ∙ sym (start line');
      last = end line ∙ anywhere (after b (before ++ line)) (after b (before ++ line')) later ∙ sym (end line');
    }

pub counts : Counts
counts = record { pieces = counts-are; outside = counts-outside; of_calls = λ s t m n es rs ran. chosen_is s t m n es rs ran is_piece ∙ counts-are (box_of s m) es }
