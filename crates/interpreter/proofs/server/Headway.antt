-- A chunk goes on: where the output has room for one answer, at least one byte is read, and never more than there are.
use mathlib.Core.Path.{◌≡◌, refl, ap}
use mathlib.Core.Bool.{true}
use mathlib.Core.List.{List, [], ◌∷◌}
use Prim.Native.Nat.{ℕ, ◌+◌, ◌≤◌, ◌<◌}
use native.Mathlib.Nat.{le_refl}
use native.Mathlib.Omega.{arith}
use lib.Dec.{leb}
use lib.ListN.{length, drop}
use Rattle.registers.specs.Text.{Text, empty}
use Rattle.interpreter.specs.Box.{Memory, right_size, most_answer}
use Rattle.interpreter.specs.Events.{happens, received}
use Rattle.interpreter.specs.State.{possible_state}
use Rattle.interpreter.specs.FlowParts.{first_line}
use Rattle.interpreter.specs.Server.{lines_of, Service, served_line, serves, begun, Serves}
use Rattle.interpreter.specs.declared.state.State.{State}
use Rattle.interpreter.proofs.Choices.{if-elim}
use Rattle.interpreter.proofs.flow.Laws.{first_some}
use Rattle.interpreter.proofs.server.Laws.{lines-first, serves_on}
use Rattle.interpreter.proofs.server.Bytes.{total, lines-total}

pub line-read : (s : Service) (l : Text) → (served_line s l).read ≡ s.read + length l
unfolding served_line
line-read s l =
    if-elim (λ (v : Service). v.read ≡ s.read + length l) (empty (happens s.box (received l)).box.core.answer) (λ _. refl) (λ _. refl)

serves-read : (s : Service) (ls : List Text) → (s.read ≤ (serves s ls).read) × ((serves s ls).read ≤ s.read + total ls)
unfolding serves
serves-read s [] = (le_refl _, omega arith)
serves-read s (l ∷ ls) =
    let more = serves-read (served_line s l) ls in
    let is = line-read s l in
    if-elim (λ (v : Service). (s.read ≤ v.read) × (v.read ≤ s.read + total (l ∷ ls))) (leb most_answer (length s.rest))
    (λ _. (omega (arith, more.0, is), omega (arith, more.1, is))) (λ _. (le_refl _, omega arith))

module _ (s t : State) (m n : Memory) (input output left : Text) (number read written : ℕ) (w : Serves s m input output number read written t n left)
    (q : right_size m ≡ true) (p : possible_state s ≡ true) where
  is : read ≡ (serves (begun s m output) (lines_of input)).read
  is = ap (λ (v : Service). v.read) (w.possible q p).3

  pub reads-within : read ≤ length input
  reads-within = let most = (serves-read (begun s m output) (lines_of input)).1 in let all = lines-total input in rw is (omega (arith, most, all))

  pub reads-some : most_answer ≤ length output → 0 < length input → 0 < read
  reads-some room some =
      let l = first_line input in
      let more = lines_of (drop (length l) input) in
      rw (is, lines-first input some, serves_on (begun s m output) l more room)
      (omega (arith, (serves-read (served_line (begun s m output) l) more).0, line-read (begun s m output) l, first_some input some))
