-- Demand 2, proved; its parts are in Limits, histories, and trip.
use mathlib.Core.Path.{refl}
use Rattle.interpreter.specs.Perform.{changed, perform}
use Rattle.interpreter.specs.Histories.{no_piece}
use Rattle.interpreter.specs.Demand2.{ResetsOnly, ClearsOnly, Demand2}
use Rattle.interpreter.proofs.line.Pieces.{piece-append, newlines-append}
use Rattle.interpreter.proofs.demands.histories.Pieces.{recut-state, recut-results}
use Rattle.interpreter.proofs.demands.histories.NewlineCounts.{recut-counts}
use Rattle.interpreter.proofs.demands.Limits.{within-limits, text-within, within-range}
use Rattle.interpreter.proofs.demands.trip.RoundTrip.{query-answers, round-trip}

resets-only : ResetsOnly
unfolding perform changed
resets-only t b = refl

clears-only : ClearsOnly
unfolding perform
clears-only t b = refl

pub demand2 : Demand2
demand2 =
    record {
      limits = within-limits;
      text = text-within;
      range = within-range;
      resets = resets-only;
      clears = clears-only;
      parts = λ b xs ys. (piece-append b xs ys, newlines-append xs ys);
      pieces = λ b h g e. (recut-state b h g e, recut-results no_piece (λ xs. refl) b h g e, recut-counts b h g e);
      answered = query-answers;
      round_trip = round-trip;
    }
