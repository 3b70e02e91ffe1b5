-- Refusal 4 never comes by what the box does: every event keeps `Fit` (proofs/Bounds), and `Fit` is what the test of number 4 says
-- (`fit-from`, `fit-to`).
use mathlib.Core.Path.{◌≡◌, refl, ap}
use mathlib.Core.Bool.{Bool, true, false}
use mathlib.Core.List.{List, [], ◌∷◌}
use Prim.Native.Nat.{ℕ, ◌≤◌, zero-le}
use native.Mathlib.Omega.{arith}
use lib.Dec.{leb, ltb, eqb}
use lib.ListN.{length, length-append}
use borrow.Author.Tests.{leb-true, le-leb, ltb-true}
use Rattle.registers.specs.Text.{Text, empty}
use Rattle.registers.specs.Queue.{may_be_queued, queueable}
use Rattle.registers.specs.Group.{widest_group, possible_group}
use Rattle.registers.specs.Settings.{at_reset, possible_settings, AsLong}
use Rattle.registers.specs.Status.{possible_registers, possible_trouble, at_start}
use Rattle.registers.proofs.Tests.{and_both, and-true}
use Rattle.registers.proofs.settings.Possible as limits
use Rattle.registers.proofs.settings.Possible.{reset-possible}
use Rattle.registers.proofs.status.Possible as status
use Rattle.registers.proofs.status.Possible.{condition-fit}
use Rattle.interpreter.specs.Box.{Memory, Core, Box, power_up, most_line, most_answer}
use Rattle.interpreter.specs.Line.{units_of, interrupted, finished, run_line, end_line, held, byte, piece}
use Rattle.interpreter.specs.Events.{Event, started, received, take, condition, look, altered, mislent, Happened, taken, reported, happens, possible_core, possible, Own, after}
use Rattle.interpreter.proofs.Lists.{is-empty}
use Rattle.interpreter.proofs.Choices.{if-elim}
use Rattle.interpreter.proofs.Bounds.{FitCore, Fit, running, fit, fit-registers, fit_line, fit-answer, fit-memory, reset-long, raise-fit, answered-fit, dropped-fit, units-fit}

-- ---- lines

bounded : (k m : ℕ) (b : Box) → length b.core.answer ≤ m → Fit k b → Fit m b
bounded k m b l f = fit m _ _ (fit-answer k b.core f.core m b.core.answer l) f.trouble

pub interrupted-fit : (b : Box) → Fit most_answer b → Fit running (interrupted b)
unfolding interrupted may_be_queued queueable
interrupted-fit b f =
    if-elim (Fit running) (empty b.core.answer)
    (λ e. let z = ap length (is-empty b.core.answer e) in bounded most_answer running b (omega arith) f)
    (λ _. raise-fit 410 running _ refl (dropped-fit most_answer running b f))

pub finished-fit : (b : Box) → Fit running b → Fit most_answer (finished b)
unfolding finished
finished-fit b f =
    let l = f.core.answer in
    if-elim (Fit most_answer) (empty b.core.answer) (λ _. bounded running most_answer b (omega arith) f)
    (λ _. fit most_answer _ _ (fit-answer running b.core f.core most_answer _ (simp length-append (omega arith))) f.trouble)

pub line-fit : (line : Text) (overlong : Bool) (b : Box) → Fit running b → Fit most_answer (run_line line overlong b)
unfolding run_line may_be_queued queueable
line-fit line overlong b f =
    let l = f.core.answer in
    if-elim (Fit most_answer) overlong (λ _. raise-fit 363 most_answer b refl (bounded running most_answer b (omega arith) f))
    (λ _. finished-fit _ (units-fit (units_of line) [] b f))

-- ---- bytes

pub held-fit : (x : ℕ) (c : Core) → FitCore most_answer c → FitCore most_answer (held x c)
unfolding held
held-fit x c f =
    if-elim (FitCore most_answer) (ltb (length c.line) most_line)
    (λ e. let l = ltb-true (length c.line) most_line e in fit_line most_answer c f _ _ (simp length-append (omega arith)))
    (λ _. fit_line most_answer c f _ _ f.line)

pub byte-fit : (b : Box) (x : ℕ) → Fit most_answer b → Fit most_answer (byte b x)
unfolding byte end_line
byte-fit b x f =
    if-elim (Fit most_answer) (eqb x 10)
    (λ _. line-fit b.core.line b.core.overlong _
    (interrupted-fit _ (fit most_answer _ _ (fit_line most_answer b.core f.core [] false zero-le) f.trouble)))
    (λ _. fit most_answer _ _ (held-fit x b.core f.core) f.trouble)

pub piece-fit : (b : Box) (xs : Text) → Fit most_answer b → Fit most_answer (piece b xs)
unfolding piece
piece-fit b [] f = f
piece-fit b (x ∷ xs) f = piece-fit (byte b x) xs (byte-fit b x f)

-- ---- events

start_fits : (m : Memory) → (possible_registers (power_up m).core.registers ≡ true) × (possible_trouble (power_up m).trouble ≡ true)
unfolding power_up at_start possible_registers possible_trouble possible_group
start_fits m = (refl, refl)

pub power-up-fit : (m : Memory) → Fit most_answer (power_up m)
unfolding power_up
power-up-fit m =
    record {
      core = record {
        settings = limits.good-from at_reset reset-possible;
        text = limits.text-from at_reset reset-possible;
        long = reset-long;
        registers = status.fit-from _ (start_fits m).0;
        line = zero-le;
        answer = zero-le;
      };
      trouble = status.good-from _ (start_fits m).1;
    }

abbrev FitHappened : Happened → Type 0
FitHappened h = Fit most_answer h.box

pub event-fit : (b : Box) (e : Event) → Fit most_answer b → Fit most_answer (happens b e).box
unfolding happens taken reported may_be_queued queueable
event-fit b started f = power-up-fit b.core.memory
event-fit b (received xs) f = piece-fit b xs f
event-fit b (take buffer) f =
    if-elim FitHappened (empty b.core.answer) (λ _. raise-fit 420 most_answer b refl f)
    (λ _. if-elim FitHappened (leb (length b.core.answer) (length buffer)) (λ _. answered-fit most_answer most_answer b f (omega arith))
    (λ _. answered-fit most_answer most_answer b f (omega arith)))
event-fit b (condition x n) f =
    if-elim FitHappened (leb n widest_group)
    (λ e. fit most_answer _ _
    (fit-registers most_answer b.core f.core _ (condition-fit x n b.core.registers (leb-true n widest_group e) f.core.registers))
    f.trouble)
    (λ _. f)
event-fit b look f = f
event-fit b (altered i x) f =
    fit most_answer _ _ (fit-memory most_answer b.core f.core _) f.trouble
event-fit b (mislent buffer) f = f

pub history-fit : (b : Box) (es : List Event) → Fit most_answer b → Fit most_answer (after b es)
unfolding after
history-fit b [] f = f
history-fit b (e ∷ es) f = history-fit (happens b e).box es (event-fit b e f)

-- ---- the same as the test of number 4

pub fit-from : (b : Box) → AsLong b.core.settings → possible b ≡ true → Fit most_answer b
unfolding possible possible_core
fit-from b long e =
    let c = b.core in
    let p = and_both _ (possible_trouble b.trouble) e in
    let q = and_both (possible_settings c.settings) _ p.0 in
    let r = and_both (possible_registers c.registers) _ q.1 in
    let s = and_both (leb (length c.line) most_line) (leb (length c.answer) most_answer) r.1 in
    record {
      core = record {
        settings = limits.good-from c.settings q.0;
        text = limits.text-from c.settings q.0;
        long = long;
        registers = status.fit-from c.registers r.0;
        line = leb-true (length c.line) most_line s.0;
        answer = leb-true (length c.answer) most_answer s.1;
      };
      trouble = status.good-from b.trouble p.1;
    }

pub fit-to : (b : Box) → Fit most_answer b → possible b ≡ true
unfolding possible possible_core
fit-to b f =
    let c = f.core in
    let sizes = and-true (le-leb _ _ c.line) (le-leb _ _ c.answer) in
    and-true (and-true (limits.good-to _ c.settings c.text) (and-true (status.fit-to _ c.registers) sizes)) (status.good-to _ f.trouble)

pub own-fit : (b : Box) → Own b → Fit most_answer b
own-fit b o = fit-from b o.values o.could

pub fit-own : (b : Box) → Fit most_answer b → Own b
fit-own b f = record { could = fit-to b f; values = f.core.long }

-- what an event leaves could again be the box's, and its settings are as long as before
pub still-possible : (b : Box) (e : Event) → AsLong b.core.settings → possible b ≡ true
    → possible (happens b e).box ≡ true
still-possible b e long p = fit-to _ (event-fit b e (fit-from b long p))

pub still-counted : (b : Box) (e : Event) → AsLong b.core.settings → possible b ≡ true
    → AsLong (happens b e).box.core.settings
still-counted b e long p = (event-fit b e (fit-from b long p)).core.long

pub power-up-own : (m : Memory) → Own (power_up m)
power-up-own m = fit-own (power_up m) (power-up-fit m)

-- so refusal 4 never comes in a history from power-up
pub history-possible : (m : Memory) (es : List Event) → possible (after (power_up m) es) ≡ true
history-possible m es = fit-to _ (history-fit (power_up m) es (power-up-fit m))
