-- The laws of a history's steps: part by part, in other pieces, and over calls.
use mathlib.Core.Path.{◌≡◌, refl, sym, ◌∙◌, ap, ap₂}
use mathlib.Core.List.{List, [], ◌∷◌, ◌++◌, map, append-nil, append_assoc}
use Rattle.registers.specs.Text.{Text, if◌then◌otherwise◌}
use Rattle.interpreter.specs.Box.{Box, power_up}
use Rattle.interpreter.specs.Line.{end_line, byte, piece}
use Rattle.interpreter.specs.Events.{Event, started, received, take, condition, look, altered, mislent, happens, after}
use Rattle.interpreter.specs.Histories.{single, newline, moments}
use Rattle.interpreter.specs.State.{box_of}
use Rattle.interpreter.specs.Steps.{Step, powers_up, end_steps, byte_steps, piece_steps, event_steps, steps, StepsOfParts, StepsRecut, StepLaws}
use Rattle.interpreter.proofs.demands.histories.Pieces.{singles-after}
use Rattle.interpreter.proofs.demands.calls.AsHistory.{calls-are-a-history}

pub steps-append : StepsOfParts
unfolding steps after
steps-append b [] fs = refl
steps-append b (e ∷ es) fs =
    ap (λ (l : List Step). event_steps b e ++ l) (steps-append (happens b e).box es fs)
    ∙ sym (append_assoc (event_steps b e) (steps (happens b e).box es) (steps (after (happens b e).box es) fs))

-- a newline, and a power-up, begin what comes after them
pub newline-steps : (b : Box) (h : List Event) → steps b (newline ∷ h) ≡ end_steps b ++ steps (end_line b) h
unfolding steps event_steps piece_steps byte_steps happens piece byte if◌then◌otherwise◌
newline-steps b h = ap (λ (l : List Step). l ++ steps (end_line b) h) (append-nil (end_steps b))

pub started-steps : (b : Box) (h : List Event) → steps b (started ∷ h) ≡ powers_up b ∷ steps (power_up b.core.memory) h
unfolding steps event_steps happens
started-steps b h = refl

-- ---- in other pieces

singles-steps : (b : Box) (xs : Text) → steps b (map single xs) ≡ piece_steps b xs
unfolding steps event_steps piece_steps happens piece
singles-steps b [] = refl
singles-steps b (x ∷ xs) = rw (append-nil (byte_steps b x)) (ap (λ (l : List Step). byte_steps b x ++ l) (singles-steps (byte b x) xs))

steps-moments : (b : Box) (es : List Event) → steps b (moments es) ≡ steps b es
unfolding steps event_steps moments happens
steps-moments b [] = refl
steps-moments b (started ∷ es) = ap (λ (l : List Step). powers_up b ∷ l) (steps-moments _ es)
steps-moments b (received xs ∷ es) =
    steps-append b (map single xs) (moments es)
    ∙ ap₂ (λ (x y : List Step). x ++ y) (singles-steps b xs) (ap (λ (c : Box). steps c (moments es)) (singles-after b xs) ∙ steps-moments (piece b xs) es)
steps-moments b (take buffer ∷ es) = ap (λ (l : List Step). event_steps b (take buffer) ++ l) (steps-moments _ es)
steps-moments b (condition x n ∷ es) = steps-moments _ es
steps-moments b (look ∷ es) = steps-moments b es
steps-moments b (altered i x ∷ es) = steps-moments _ es
steps-moments b (mislent buffer ∷ es) = steps-moments b es

pub recut-steps : StepsRecut
recut-steps b h g e = sym (steps-moments b h) ∙ ap (steps b) e ∙ steps-moments b g

pub step-laws : StepLaws
step-laws =
    record {
      parts = steps-append;
      recut = recut-steps;
      calls = λ s t m n es fs rs p c.
          steps-append (box_of s m) es fs ∙ ap (λ (b : Box). steps (box_of s m) es ++ steps b fs) (sym (calls-are-a-history s t m n es rs p c).box);
    }
