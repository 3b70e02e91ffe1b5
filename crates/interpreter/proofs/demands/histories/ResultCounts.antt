-- How many results a history has of a kind of events: as many as it has such events, and so the same where only bytes are cut.
use mathlib.Core.Path.{◌≡◌, refl, ap}
use mathlib.Core.Bool.{Bool, true, false}
use mathlib.Core.List.{List, [], ◌∷◌, ◌++◌}
use Prim.Native.Nat.{ℕ, suc, ◌-◌, ◌+◌}
use native.Mathlib.Omega.{arith}
use lib.ListN.{length}
use Rattle.registers.specs.Text.{if◌then◌otherwise◌}
use Rattle.interpreter.specs.Box.{Box}
use Rattle.interpreter.specs.Events.{Event, started, received, take, condition, look, altered, mislent, Result, happens}
use Rattle.interpreter.specs.Histories.{no_piece, how_many, results_of}
use Rattle.interpreter.specs.Demand3.{keep, others}

pub results-length : (p : Event → Bool) (b : Box) (es : List Event) → length (results_of p b es) ≡ how_many p es
unfolding results_of how_many if◌then◌otherwise◌
results-length p b [] = refl
results-length p b (e ∷ es) = go (p e) (results_of p (happens b e).box es) (results-length p (happens b e).box es)
  where
    go : (t : Bool) (rs : List Result) → length rs ≡ how_many p es
        → length (if t then (happens b e).result ∷ rs otherwise rs) ≡ (if t then suc (how_many p es) otherwise how_many p es)
    go true rs ih = ap suc ih
    go false rs ih = ih

pub others-append : (es fs : List Event) → others (es ++ fs) ≡ others es + others fs
unfolding how_many if◌then◌otherwise◌
others-append [] fs = omega arith
others-append (e ∷ es) fs = go (no_piece e) (others-append es fs)
  where
    go : (t : Bool) → others (es ++ fs) ≡ others es + others fs
        → (if t then suc (others (es ++ fs)) otherwise others (es ++ fs)) ≡ (if t then suc (others es) otherwise others es) + others fs
    go true ih = omega arith
    go false ih = ih

pub others_keep : (k : ℕ) (es : List Event) → others (keep k es) ≡ others es
unfolding how_many keep if◌then◌otherwise◌
others_keep k [] = refl
others_keep k (started ∷ es) = ap suc (others_keep k es)
others_keep k (received xs ∷ es) = others_keep (k - length xs) es
others_keep k (take buffer ∷ es) = ap suc (others_keep k es)
others_keep k (condition x n ∷ es) = ap suc (others_keep k es)
others_keep k (look ∷ es) = ap suc (others_keep k es)
others_keep k (altered i x ∷ es) = ap suc (others_keep k es)
others_keep k (mislent buffer ∷ es) = ap suc (others_keep k es)
