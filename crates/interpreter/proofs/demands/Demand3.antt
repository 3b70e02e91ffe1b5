-- Demand 3, proved, for any cutting of both histories. While the line comes in, the box with the cut line is the box with its line cut
-- (refused/Keeping); at the newline both leave the same core (Cutting); and afterwards boxes with one core agree event by event
-- (Agreement).
use mathlib.Core.Path.{◌≡◌, refl, sym, ◌∙◌, ap, ap₂, subst₂}
use mathlib.Core.Bool.{Bool, false}
use mathlib.Core.List.{List, [], ◌∷◌, ◌++◌, append_assoc, append-nil}
use Prim.Native.Nat.{ℕ, ◌-◌, ◌≤◌}
use native.Mathlib.Nat.{sub-zero, le_trans}
use native.Mathlib.Omega.{arith}
use lib.ListN.{length, take, drop}
use lib.Seq.{take-nil, drop_at}
use Rattle.registers.specs.Text.{Text, if◌then◌otherwise◌}
use Rattle.interpreter.specs.Box.{Memory, Box, box, with_line, power_up, most_line}
use Rattle.interpreter.specs.Line.{end_line}
use Rattle.interpreter.specs.Events.{Event, received, Result, after}
use Rattle.interpreter.specs.Histories.{newline, moments, Recut, is_take, no_piece, how_many, results_of, answers, replies}
use Rattle.interpreter.specs.Demand3.{keep, cut_line, at_end, as_sent, as_cut, ALine, Watch, neither, asked, cleared, watch, Agree, AgreeAnswers, others, Statement}
use Rattle.interpreter.proofs.Possible.{history-fit, power-up-fit}
use Rattle.interpreter.proofs.demands.histories.Pieces.{after-append, newline-after, results-append, recut-state, recut-results}
use Rattle.interpreter.proofs.demands.refused.Agreement.{over-cores, AgreeBoth, history-agree}
use Rattle.interpreter.proofs.demands.refused.Watching.{history-watch}
use Rattle.interpreter.proofs.demands.refused.Cutting.{cut, newline-cut}
use Rattle.interpreter.proofs.demands.refused.Keeping.{cut_to, DuringKept, during-kept}
use Rattle.interpreter.proofs.demands.histories.NewlineCounts.{cut-counts}
use Rattle.interpreter.proofs.demands.histories.ResultCounts.{results-length, others-append, others_keep}
use Rattle.interpreter.proofs.demands.refused.CutIsStart.{cut-length, cut-is}

-- a box at the start of a line has nothing to cut
start-cut : (k : ℕ) (b : Box) → b.core.line ≡ [] → b.core.overlong ≡ false → b ≡ cut_to k b
unfolding cut_to
start-cut k b p q = ap₂ (λ (l : Text) (o : Bool). box (with_line l o b.core) b.trouble) (p ∙ sym (ap (take k) p ∙ take-nil k)) q

module _ (m : Memory) (before during : List Event) (line : ALine m before during) where
  abbrev start : Box
  start = after (power_up m) before

  abbrev end : Box
  end = at_end m before during

  abbrev k : ℕ
  k = length (cut_line end)

  short : k ≤ most_line
  short = le_trans (cut-length end) (history-fit (power_up m) (before ++ during) (power-up-fit m)).core.line

  -- as the newline comes, the box with the cut line is the box with its line cut
  kept : DuringKept k short start during
  kept = during-kept k short start during line.under_way

  -- the same from the box as it is at the start
  all_left : k - length start.core.line ≡ k
  all_left = ap (λ (l : Text). k - length l) line.begins.0 ∙ sub-zero k

  whole : start ≡ cut_to k start
  whole = start-cut k start line.begins.0 line.begins.1

  kept-state : after start (keep k during) ≡ cut end
  kept-state =
      ap₂ (λ (y : Box) (j : ℕ). after y (keep j during)) whole (sym all_left) ∙ kept.state
      ∙ ap (cut_to k) (sym (after-append (power_up m) before during)) ∙ cut-is end

  kept-results : (p : Event → Bool) → ((xs : Text) → p (received xs) ≡ false) → results_of p start (keep k during) ≡ results_of p start during
  kept-results p silent =
      ap₂ (λ (y : Box) (j : ℕ). results_of p y (keep j during)) whole (sym all_left) ∙ kept.results p silent

  -- ---- at the newline

  abbrev sent : List Event
  sent = as_sent before during

  abbrev short-sent : List Event
  short-sent = as_cut m before during

  same-core : (after (power_up m) sent).core ≡ (after (power_up m) short-sent).core
  same-core =
      let s = newline-after (power_up m) (before ++ during) in
      let c = newline-after (power_up m) (before ++ keep k during) ∙ ap end_line (after-append (power_up m) before (keep k during) ∙ kept-state) in
      ap (λ (b : Box). b.core) s ∙ newline-cut end line.other ∙ sym (ap (λ (b : Box). b.core) c)

  module _ (p : Event → Bool) (silent : (xs : Text) → p (received xs) ≡ false) where
    -- a newline adds no result
    newline-silent : (es : List Event) → results_of p (power_up m) (es ++ newline ∷ []) ≡ results_of p (power_up m) es
    unfolding results_of if◌then◌otherwise◌
    newline-silent es = results-append p (power_up m) es (newline ∷ []) ∙ rw (silent (10 ∷ [])) (append-nil (results_of p (power_up m) es))

    same-results : results_of p (power_up m) sent ≡ results_of p (power_up m) short-sent
    same-results =
        newline-silent (before ++ during) ∙ results-append p (power_up m) before during
        ∙ sym (newline-silent (before ++ keep k during) ∙ results-append p (power_up m) before (keep k during)
        ∙ ap (λ (rs : List Result). results_of p (power_up m) before ++ rs) (kept-results p silent))

  -- ---- afterwards

  after-agree : (later : List Event)
      → AgreeBoth (watch (after (power_up m) sent) later) later (after (power_up m) sent) (after (power_up m) short-sent)
  after-agree later =
      over-cores (λ (a b : Box). AgreeBoth (watch a later) later a b) (λ c t t'. history-agree later c t t')
      (after (power_up m) sent) (after (power_up m) short-sent) same-core

  watch-alike : (later : List Event) → watch (after (power_up m) sent) later ≡ watch (after (power_up m) short-sent) later
  watch-alike later =
      over-cores (λ (a b : Box). watch a later ≡ watch b later) (λ c t t'. history-watch later c t t')
      (after (power_up m) sent) (after (power_up m) short-sent) same-core

  module _ (later h h' : List Event) (is : Recut h (sent ++ later)) (is' : Recut h' (short-sent ++ later)) where
    state-agree : Agree (watch (after (power_up m) sent) later) (after (power_up m) h) (after (power_up m) h')
    state-agree =
        subst₂ (Agree (watch (after (power_up m) sent) later))
        (sym (recut-state (power_up m) h (sent ++ later) is ∙ after-append (power_up m) sent later))
        (sym (recut-state (power_up m) h' (short-sent ++ later) is' ∙ after-append (power_up m) short-sent later))
        (after-agree later).0

    taken-agree : AgreeAnswers (watch (after (power_up m) sent) later) (answers (power_up m) h) (answers (power_up m) h')
    taken-agree =
        subst₂ (AgreeAnswers (watch (after (power_up m) sent) later))
        (sym (recut-results is_take (λ xs. refl) (power_up m) h (sent ++ later) is ∙ results-append is_take (power_up m) sent later))
        (sym (recut-results is_take (λ xs. refl) (power_up m) h' (short-sent ++ later) is' ∙ results-append is_take (power_up m) short-sent later
        ∙ ap (λ (rs : List Result). rs ++ answers (after (power_up m) short-sent) later) (sym (same-results is_take (λ xs. refl)))))
        (answers-after (watch (after (power_up m) sent) later) (answers (power_up m) sent) _ _ (after-agree later).1)
      where
        answers-after : (w : Watch) (x a b : List Result) → AgreeAnswers w a b → AgreeAnswers w (x ++ a) (x ++ b)
        answers-after neither x a b e = ap (λ (rs : List Result). x ++ rs) e
        answers-after asked x a b e = tt
        answers-after cleared x a b e = ap (λ (rs : List Result). x ++ rs) e

-- the results of a history in any pieces, after those of a first part
after-first-at : (m : Memory) (h first onward : List Event) (n : ℕ) → Recut h (first ++ onward) → others first ≡ n
    → drop n (replies (power_up m) h) ≡ replies (after (power_up m) first) onward
after-first-at m h first onward n e k =
    ap (drop n) (recut-results no_piece (λ xs. refl) (power_up m) h (first ++ onward) e ∙ results-append no_piece (power_up m) first onward)
    ∙ drop_at (replies (power_up m) first) (replies (after (power_up m) first) onward) n (results-length no_piece (power_up m) first ∙ k)

-- the newline, and bytes that are cut, count for nothing
others-line : (before during meanwhile : List Event) (d : List Event) → others d ≡ others during
    → others (before ++ d ++ newline ∷ [] ++ meanwhile) ≡ others (before ++ during ++ meanwhile)
unfolding how_many if◌then◌otherwise◌
others-line before during meanwhile d e =
    simp (others-append, e) (omega arith)

module _ (m : Memory) (before during : List Event) (line : ALine m before during) (h h' meanwhile onward : List Event) where
  results_agree : Recut h (as_sent before during ++ meanwhile ++ onward) → Recut h' (as_cut m before during ++ meanwhile ++ onward)
      → watch (after (power_up m) (as_sent before during)) meanwhile ≡ cleared
      → drop (others (before ++ during ++ meanwhile)) (replies (power_up m) h) ≡ drop (others (before ++ during ++ meanwhile)) (replies (power_up m) h')
  results_agree is is' w =
      let sent = as_sent before during in
      let short = as_cut m before during in
      let k = length (cut_line (at_end m before during)) in
      let n = others (before ++ during ++ meanwhile) in
      let a : Agree cleared (after (after (power_up m) sent) meanwhile) (after (after (power_up m) short) meanwhile) =
      rw w at (after-agree m before during line meanwhile).0 in
      let same : after (power_up m) (sent ++ meanwhile) ≡ after (power_up m) (short ++ meanwhile) =
      after-append (power_up m) sent meanwhile ∙ a ∙ sym (after-append (power_up m) short meanwhile) in
      after-first-at m h (sent ++ meanwhile) onward n is (others-line before during meanwhile during refl)
      ∙ ap (λ (b : Box). replies b onward) same
      ∙ sym (after-first-at m h' (short ++ meanwhile) onward n is' (others-line before during meanwhile (keep k during) (others_keep k during)))

pub demand3 : Statement
demand3 m before during later h h' line is is' =
    let front : (f a o : List Event) → later ≡ a ++ o → f ++ later ≡ f ++ a ++ o =
    λ f a o e. ap (λ (l : List Event). f ++ l) e ∙ sym (append_assoc f a o) in
    record {
      first = watch-alike m before during line later;
      state = state-agree m before during line later h h' is is';
      taken = taken-agree m before during line later h h' is is';
      results = λ a o split w.
          results_agree m before during line h h' a o (is ∙ ap moments (front (as_sent before during) a o split))
          (is' ∙ ap moments (front (as_cut m before during) a o split)) w;
      counts = cut-counts (power_up m) (length (cut_line (at_end m before during))) before during later h h' line.under_way is is';
    }
