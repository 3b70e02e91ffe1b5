-- Calls of the public functions, known by their promises alone, and the history of events that they make.
use Rattle.std.specs.Prelude.{◌≡◌, Bool, true, false, List, [], ◌∷◌, ◌++◌, ℕ, eqb, leb, length}
use Rattle.std.proofs.Math.ListN as L
use Rattle.registers.specs.Text.{Text, every}
use Rattle.interpreter.specs.Box.{Memory, right_size, altered_in, Box, most_answer}
use Rattle.interpreter.specs.Events.{Event, started, received, take, condition, look, altered, mislent, Result, result_of, lent, after, results}
use Rattle.interpreter.specs.State.{box_of, possible_state, rightly, Happens}
use Rattle.interpreter.specs.Histories.{answers, sent, copied}
use Rattle.interpreter.specs.Server.{lines_of, events_of, begun, Serves}
use Rattle.interpreter.specs.declared.state.State.{State}

-- one call on a state s with the memory m there left the state t and the memory n: the events that it makes, and their results
pub data Call (s : State) (m : Memory) (t : State) (n : Memory) : List Event → List Result → Type 0 where
  -- a function, with this memory lent if it is lent any. A power-up is a call on any state at all
  event : {e : Event} {r : Result} → rightly m e ≡ true → Happens s m e r t n → Call s m t n (e ∷ []) (r ∷ [])
  -- a function that was lent another memory, of the wrong size, in the place of this one
  instead : {w w' : Memory} {e : Event} {r : Result} → rightly w e ≡ false → Happens s w e r t w' → n ≡ m → Call s m t n (mislent (lent e) ∷ []) (r ∷ [])
  -- a chunk served is the list of its events, and with a memory of the wrong size there are none
  chunk : {input output left : Text} {number read written : ℕ} → right_size m ≡ true → Serves s m input output number read written t n left
      → Call s m t n (events_of (begun s m output) (lines_of input)) (results (box_of s m) (events_of (begun s m output) (lines_of input)))
  no_chunk : {w w' : Memory} {input output left : Text} {number read written : ℕ} → right_size w ≡ false
      → Serves s w input output number read written t w' left → n ≡ m → Call s m t n [] []
  -- no call: the caller alters the store
  alters : {i x : ℕ} → t ≡ s → n ≡ altered_in i x m → Call s m t n (altered i x ∷ []) (result_of 0 0 [] ∷ [])

-- each call is given the state that the one before handed back, and finds the memory as it was left
pub data Calls (t : State) (n : Memory) : State → Memory → List Event → List Result → Type 0 where
  done : Calls t n t n [] []
  call : {s u : State} {m k : Memory} {es fs : List Event} {rs qs : List Result} → Call s m u k es rs → Calls t n u k fs qs → Calls t n s m (es ++ fs) (rs ++ qs)

-- calls are the definition's history: the same results, and the last state means its box and could be the box's
pub record History (s : State) (m : Memory) (t : State) (n : Memory) (es : List Event) (rs : List Result) : Type 0 where
  pub possible : possible_state t ≡ true
  pub box : box_of t n ≡ after (box_of s m) es
  pub results : rs ≡ results (box_of s m) es

-- ---- a chunk served is a history of pieces and takes

-- a piece, or a take with room for any answer
abbrev pub roomy : Event → Bool
roomy started = false
roomy (received xs) = true
roomy (take buffer) = leb most_answer (length buffer)
roomy (condition x n) = false
roomy look = false
roomy (altered i x) = false
roomy (mislent buffer) = false

-- events that bring these bytes to a box, none of them refused, and lead to that box
pub record Brings (text : Text) (b c : Box) (es : List Event) : Type 0 where
  pub only : every roomy es ≡ true
  pub accepted : every (λ (r : Result). eqb r.number 0) (results b es) ≡ true
  pub bytes : sent es ≡ text
  pub box : after b es ≡ c

-- a call of the chunk server: what it answers and leaves is what its events answer and leave
pub record ChunkHistory (s t : State) (m n : Memory) (input left : Text) (read written : ℕ) (es : List Event) : Type 0 where
  pub events : Brings (L.take read input) (box_of s m) (box_of t n) es
  pub answers : copied (answers (box_of s m) es) ≡ L.take written left
