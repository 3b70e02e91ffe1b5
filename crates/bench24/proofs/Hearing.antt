-- What was read is heard part by part, and what one read after another gave is heard as one. What was heard since power-up is a history.
use mathlib.Core.Path.{◌≡◌, refl, sym, ◌∙◌, ap, subst}
use mathlib.Core.Bool.{true, false≢true}
use mathlib.Core.List.{[], ◌++◌}
use Prim.Native.Nat.{ℕ, ◌+◌, ◌-◌, ◌≤◌, ◌<◌, zero-le}
use native.Mathlib.Omega.{arith}
use lib.ListN.{length, take, drop, length-drop}
use lib.Seq.{drop-drop}
use Rattle.std.specs.Prelude.{Result, Err}
use Rattle.std.specs.declared.io.Error.{Error}
use Rattle.registers.specs.Text.{Text}
use Rattle.interpreter.specs.Box.{Memory, memory, store_size, right_size, power_up, most_answer}
use Rattle.interpreter.specs.State.{box_of, possible_state, Started}
use Rattle.interpreter.specs.Server.{lines_of, WholeLines, heard, hearing, Serves}
use Rattle.interpreter.specs.Calls.{Brings}
use Rattle.interpreter.specs.declared.state.State.{State}
use Rattle.interpreter.proofs.Lists.{rest-is}
use Rattle.interpreter.proofs.Possible.{power-up-fit}
use Rattle.interpreter.proofs.state.Events.{size-right}
use Rattle.interpreter.proofs.server.Bytes.{lines-whole, whole-further}
use Rattle.interpreter.proofs.server.Headway.{reads-within, reads-some}
use Rattle.interpreter.proofs.server.Heard.{part-heard, part-answered, heard-append, heard-on, heard-history}
use Rattle.bench24.specs.Heard.{Answers, HeardPart, HeardRead, HeardSince, clamp_len}
use Rattle.bench24.specs.declared.Bench.{Bench}
use Rattle.bench24.specs.declared.Closed.{Closed}
use Rattle.bench24.specs.declared.Closed.TheVariants.{NothingRead, NotWritten}

-- ---- what was read: a part of it is served, then the rest

-- what was served so far, all but the rest, was heard
pub record Hearing (start : State) (m : Memory) (input : Text) (t : State) (n : Memory) (rest : Text) : Type 0 where
  pub bytes : ℕ
  pub within : bytes ≤ length input
  pub left : rest ≡ drop bytes input
  pub whole : WholeLines bytes input
  pub box : box_of t n ≡ heard (box_of start m) (lines_of (take bytes input))

pub hear-begun : (start : State) (m : Memory) (input : Text) → Hearing start m input start m input
unfolding lines_of heard
hear-begun start m input = record { bytes = 0; within = zero-le; left = refl; whole = refl; box = refl }

-- a call of the chunk server: what it asks for holds on a bench
module _ (b : Bench) (rest output : Text) (number read written : ℕ) (t : State) (k : Memory) (outputs' : Text)
    (w : Serves b.state (memory b.store) rest output number read written t k outputs') (sized : length b.store ≡ store_size) where
  right : right_size (memory b.store) ≡ true
  right = size-right b.store sized

  pub read-within : read ≤ length rest
  read-within = reads-within _ _ _ _ _ _ _ _ _ _ w right b.possible

  pub shorter : most_answer ≤ length output → 0 < length rest → length (take (length rest - read) (drop read rest)) < length rest
  shorter room more =
      let some = reads-some _ _ _ _ _ _ _ _ _ _ w right b.possible room more in
      let n = length-drop read rest in
      rw (rest-is rest read read-within) (omega arith)

  pub wrote-answers : Answers b.state rest read (take written outputs')
  wrote-answers = record { store = memory b.store; are = part-answered _ _ _ _ _ _ _ _ _ _ w right b.possible b.long }

-- and what it heard is heard after the rest
module _ (start : State) (m : Memory) (input : Text) (b : Bench) (rest output : Text) (number read written : ℕ) (t : State) (k : Memory)
    (outputs' : Text)
    (g : Hearing start m input b.state (memory b.store) rest)
    (w : Serves b.state (memory b.store) rest output number read written t k outputs')
    (sized : length b.store ≡ store_size) where
  pub hear-on : Hearing start m input t k (take (length rest - read) (drop read rest))
  hear-on =
      let right = size-right b.store sized in
      let part = part-heard _ _ _ _ _ _ _ _ _ _ (rw g.left at w) right b.possible b.long in
      let read-on = reads-within _ _ _ _ _ _ _ _ _ _ w right b.possible in
      let n = length-drop g.bytes input in
      let same = ap length g.left in
      let h = g.within in
      let within : g.bytes + read ≤ length input = omega arith in
      let further = whole-further input g.bytes read within g.whole part.0 in
      record {
        bytes = g.bytes + read;
        within = within;
        left = rest-is rest read read-on ∙ ap (drop read) g.left ∙ drop-drop read g.bytes input;
        whole = further.0;
        box = rw (further.1, heard-append (box_of start m) (lines_of (take g.bytes input)) (lines_of (take read (drop g.bytes input))), ← g.box) part.1;
      }

  -- where a write fails that is all
  pub hear-stop : most_answer ≤ length output → 0 < length rest → HeardPart start m input (Err NotWritten) t k
  hear-stop room more =
      let less = shorter b rest output number read written t k outputs' w sized room more in
      let all = hear-on in
      let h = all.within in
      let n = length-drop all.bytes input in
      let same = ap length all.left in
      let before = length-drop g.bytes input in
      let same-before = ap length g.left in
      record {
        possible = (w.possible (size-right b.store sized) b.possible).0;
        bytes = all.bytes;
        within = h;
        whole = all.whole;
        box = all.box;
        some = λ _. omega arith;
        all = λ ok. absurd (false≢true ok);
      }

-- ---- what a read put into the buffer

-- nothing
pub none-heard : (start : State) (m : Memory) (buffer : Text) (got : Result ℕ Error) → possible_state start ≡ true → clamp_len got (length buffer) ≡ 0
    → HeardRead start m buffer got (Err NothingRead) start m
unfolding lines_of heard
none-heard start m buffer got p e =
    let served : Result (Unit {0}) Closed = Err NothingRead in
    let none : HeardPart start m (take 0 buffer) served start m =
    record { possible = p; bytes = 0; within = zero-le; whole = refl; box = refl; some = λ h. h; all = λ h. absurd (false≢true h) } in
    record { part = subst (λ (n : ℕ). HeardPart start m (take n buffer) served start m) (sym e) none; ended = λ _. refl }

-- ---- reads one after the other

pub since-begun : (m : Memory) (s : State) → Started s → HeardSince m s m
unfolding lines_of heard
since-begun m s w = record { possible = w.possible; bytes = []; box = w.first m }

quiet-start : (m : Memory) → (power_up m).core.answer ≡ []
unfolding power_up
quiet-start m = refl

pub since-on : (m₀ : Memory) (s : State) (m : Memory) (buffer : Text) (got : Result ℕ Error) (served : Result (Unit {0}) Closed) (r : State) (n : Memory)
    → HeardSince m₀ s m → HeardRead s m buffer got served r n → HeardSince m₀ r n
since-on m₀ s m buffer got served r n h read =
    let w = read.part in
    let more = take w.bytes (take (clamp_len got (length buffer)) buffer) in
    record {
      possible = w.possible;
      bytes = h.bytes ++ more;
      box = w.box ∙ rw (h.box, heard-on h.bytes more (power_up m₀) (quiet-start m₀));
    }

-- what the program has heard since power-up is a history, whatever bytes are lent to its takes: so the demands speak of the program
pub a-history : (m : Memory) (s : State) (n : Memory) (h : HeardSince m s n) (room : Text) → most_answer ≤ length room
    → Brings h.bytes (power_up m) (box_of s n) (hearing room (power_up m) (lines_of h.bytes))
a-history m s n h room long =
    rw h.box (rw (lines-whole h.bytes) at (heard-history room long (power_up m) (lines_of h.bytes) (power-up-fit m)))
