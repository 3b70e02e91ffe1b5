-- Demands 2 and 3 of calls, proved: calls make a history of the definition, with the same results and a last state that means the same box
-- (calls/AsHistory), and of histories the demands hold.
use mathlib.Core.Path.{◌≡◌, refl, sym, ◌∙◌, ap, subst, subst₂}
use mathlib.Core.Bool.{Bool, true}
use mathlib.Core.List.{List, [], ◌∷◌, ◌++◌, append_assoc, head-eq_of_cons-eq}
use Prim.Native.Nat.{◌≤◌}
use lib.ListN.{length, drop}
use lib.Seq.{drop_at}
use Rattle.registers.specs.Text.{Text, if◌then◌otherwise◌, every}
use Rattle.registers.specs.Label.{most_text, may_stand}
use Rattle.registers.specs.Settings.{value_at, displayed, AsLong, within}
use Rattle.interpreter.specs.Demand2.{InRange}
use Rattle.interpreter.specs.Box.{Memory, Box, power_up}
use Rattle.interpreter.specs.Events.{Event, take, Result, happens, Own, after, results}
use Rattle.interpreter.specs.Histories.{newline, Recut, is_take, is_piece, no_piece, how_many, results_of, chosen, summed}
use Rattle.interpreter.specs.State.{box_of, Started}
use Rattle.interpreter.specs.Calls.{Calls, History}
use Rattle.interpreter.specs.Demand2.{queried, taken_from}
use Rattle.interpreter.specs.Demand3.{as_sent, watch, Agree, AgreeAnswers, others}
use Rattle.interpreter.specs.OfCalls.{Ran, LimitsOfCalls, TextOfCalls, RangeOfCalls, PiecesOfCalls, AnsweredOfCalls, RoundTripOfCalls, Demand2OfCalls, Demand3OfCalls}
use Rattle.interpreter.specs.declared.state.State.{State}
use Rattle.interpreter.proofs.Possible.{power-up-own}
use Rattle.interpreter.proofs.state.Records.{box-from}
use Rattle.interpreter.proofs.demands.histories.Pieces.{results-append, recut-state, recut-results}
use Rattle.interpreter.proofs.demands.histories.ResultCounts.{results-length}
use Rattle.interpreter.proofs.demands.calls.AsHistory.{calls-are-a-history}
use Rattle.interpreter.proofs.demands.Demand2.{demand2}
use Rattle.interpreter.proofs.demands.Demand3.{demand3}

-- ---- what calls tell and leave is the history's

pub started-ran : (s t : State) (m n : Memory) (es : List Event) (rs : List Result) → Started s → Calls t n s m es rs → Ran s m t n es rs
started-ran s t m n es rs h c =
    record { could = h.possible; values = subst (λ (b : Box). AsLong b.core.settings) (sym (h.first m)) (power-up-own m).values; calls = c }

chosen-results : (p : Event → Bool) (b : Box) (es : List Event) → chosen p es (results b es) ≡ results_of p b es
unfolding chosen results results_of
chosen-results p b [] = refl
chosen-results p b (e ∷ es) =
    ap (λ (rs : List Result). if p e then (happens b e).result ∷ rs otherwise rs) (chosen-results p (happens b e).box es)

module _ (s t : State) (m n : Memory) (es : List Event) (rs : List Result) (ran : Ran s m t n es rs) where
  history : History s m t n es rs
  history = calls-are-a-history s t m n es rs ran.could ran.calls

  own : Own (box_of s m)
  own = record { could = box-from s m ran.could; values = ran.values }

  pub chosen_is : (p : Event → Bool) → chosen p es rs ≡ results_of p (box_of s m) es
  chosen_is p = ap (chosen p es) history.results ∙ chosen-results p (box_of s m) es

-- ---- demand 2

limits : LimitsOfCalls
limits s t m n es rs ran i h =
    subst (λ (b : Box). within b.core.settings i (value_at b.core.settings i) ≡ true) (sym (history s t m n es rs ran).box)
    (demand2.limits (box_of s m) (own s t m n es rs ran) es i h)

text : TextOfCalls
text s t m n es rs ran =
    subst (λ (b : Box). (every may_stand (displayed b.core.settings) ≡ true) × (length (displayed b.core.settings) ≤ most_text)) (sym (history s t m n es rs ran).box)
    (demand2.text (box_of s m) (own s t m n es rs ran) es)

range : RangeOfCalls
range s t m n es rs ran =
    subst (λ (b : Box). InRange b.core.settings)
    (sym (history s t m n es rs ran).box) (demand2.range (box_of s m) (own s t m n es rs ran) es)

pieces : PiecesOfCalls
pieces s t t' m n n' h g rs qs ran ran' e =
    let same = demand2.pieces (box_of s m) h g e in (
      (history s t m n h rs ran).box ∙ same.0 ∙ sym (history s t' m n' g qs ran').box,
      chosen_is s t m n h rs ran no_piece ∙ same.1 ∙ sym (chosen_is s t' m n' g qs ran' no_piece),
      ap summed (chosen_is s t m n h rs ran is_piece) ∙ same.2 ∙ sym (ap summed (chosen_is s t' m n' g qs ran' is_piece)),
    )

answered : AnsweredOfCalls
answered s t m n i before h rs ran e asks =
    ap (λ (b : Box). b.core.answer) ((history s t m n h rs ran).box ∙ recut-state (box_of s m) h (queried before) e)
    ∙ demand2.answered (box_of s m) (own s t m n h rs ran) i before asks

-- the take that comes after these events, in a history in any pieces
take_after : (b : Box) (h first late : List Event) (buffer : Text) → Recut h (first ++ take buffer ∷ late)
    → drop (how_many is_take first) (results_of is_take b h) ≡ (happens (after b first) (take buffer)).result ∷ results_of is_take (happens (after b first) (take buffer)).box late
unfolding results_of if◌then◌otherwise◌
take_after b h first late buffer e =
    ap (drop (how_many is_take first)) (recut-results is_take (λ xs. refl) b h (first ++ take buffer ∷ late) e ∙ results-append is_take b first (take buffer ∷ late))
    ∙ drop_at (results_of is_take b first) (results_of is_take (after b first) (take buffer ∷ late)) (how_many is_take first) (results-length is_take b first)

round-trip : RoundTripOfCalls
round-trip s t m n i a buffer before early late h rs more r ran e told p =
    let b = box_of s m in
    let first = queried before ++ early in
    let f : Recut h (first ++ take buffer ∷ (late ++ newline ∷ [])) = rw (append_assoc first (take buffer ∷ late) (newline ∷ [])) at e in
    let is : r ≡ taken_from b before early buffer =
    head-eq_of_cons-eq (sym told ∙ ap (drop (how_many is_take first)) (chosen_is s t m n h rs ran is_take) ∙ take_after b h first (late ++ newline ∷ []) buffer f) in
    rw (history s t m n h rs ran).box (demand2.round_trip b i a buffer before early late h (rw is at p) e)

pub demand2-of-calls : Demand2OfCalls
demand2-of-calls = record { limits = limits; text = text; range = range; pieces = pieces; answered = answered; round_trip = round-trip }

-- ---- demand 3

module _ (s t : State) (m n : Memory) (h : List Event) (rs : List Result) (first : Started s) (calls : Calls t n s m h rs) where
  abbrev run : Ran s m t n h rs
  run = started-ran s t m n h rs first calls

  pub box-is : after (power_up m) h ≡ box_of t n
  box-is = ap (λ (b : Box). after b h) (sym (first.first m)) ∙ sym (history s t m n h rs run).box

  results-are : (p : Event → Bool) → results_of p (power_up m) h ≡ chosen p h rs
  results-are p = ap (λ (b : Box). results_of p b h) (sym (first.first m)) ∙ sym (chosen_is s t m n h rs run p)

pub demand3-of-calls : Demand3OfCalls
demand3-of-calls m before during later h h' line is is' s s' t t' n n' rs rs' first first' calls calls' =
    let d = demand3 m before during later h h' line is is' in
    let w = watch (after (power_up m) (as_sent before during)) later in
    let r = results-are s t m n h rs first calls in
    let r' = results-are s' t' m n' h' rs' first' calls' in
    record {
      first = d.first;
      state = subst₂ (Agree w) (box-is s t m n h rs first calls) (box-is s' t' m n' h' rs' first' calls') d.state;
      taken = subst₂ (AgreeAnswers w) (r is_take) (r' is_take) d.taken;
      results = λ meanwhile o split c.
          let k = others (before ++ during ++ meanwhile) in
          sym (ap (drop k) (r no_piece)) ∙ d.results meanwhile o split c ∙ ap (drop k) (r' no_piece);
      counts = sym (ap summed (r is_piece)) ∙ d.counts ∙ ap summed (r' is_piece);
    }
