-- Calls of the public functions make a history of the definition: what the demands say of histories they say of the code. By induction
-- over the calls, each known by its promise alone; a chunk makes the pieces and takes of its lines.
use mathlib.Core.Path.{◌≡◌, refl, sym, ap, ap₂, ◌∙◌}
use mathlib.Core.Bool.{Bool, true, false, true≢false}
use mathlib.Core.List.{List, [], ◌∷◌, ◌++◌}
use Prim.Native.Nat.{ℕ, ◌+◌}
use lib.Dec.{leb}
use lib.ListN.{length}
use Rattle.registers.specs.Text.{Text, if◌then◌otherwise◌, empty}
use Rattle.interpreter.specs.Box.{Memory, right_size, altered_in, Box, most_answer}
use Rattle.interpreter.specs.Events.{Event, started, received, take as takes, condition, look, altered, mislent, Result, result_of, lent, Happened, happened, happens, after, results}
use Rattle.interpreter.specs.State.{box_of, possible_state, admitted, rightly, Happens, Started}
use Rattle.interpreter.specs.Server.{lines_of, Service, service, took_after, served_line, serves, taking_first, events_of, begun, Serves}
use Rattle.interpreter.specs.Calls.{Call, event, instead, chunk, no_chunk, alters, Calls, done, call, History}
use Rattle.interpreter.specs.declared.state.State.{State}
use Rattle.interpreter.proofs.demands.histories.Pieces.{after-append}

-- a state that could be the box's is refused no event by number 4
pub admits : (s : State) (e : Event) → possible_state s ≡ true → admitted s e ≡ true
admits s started p = refl
admits s (received xs) p = p
admits s (takes buffer) p = p
admits s (condition x n) p = p
admits s look p = p
admits s (altered i x) p = p
admits s (mislent buffer) p = p

-- an event on a state that could be the box's, with a memory of the right size: what the definition says happens, whether the event was lent this
-- memory, none, or another
pub happens-there : (s t : State) (m n : Memory) (e : Event) (r : Result) → Happens s m e r t n → possible_state s ≡ true → right_size m ≡ true
    → (possible_state t ≡ true) × (happened r (box_of t n) ≡ happens (box_of s m) e) × (right_size n ≡ true)
unfolding happens
happens-there s t m n started r h p q = let o = h.possible refl refl in (o.0, o.1, o.2 ∙ q)
happens-there s t m n (received xs) r h p q = let o = h.possible q p in (o.0, o.1, o.2 ∙ q)
happens-there s t m n (takes buffer) r h p q = let o = h.possible q p in (o.0, o.1, o.2 ∙ q)
happens-there s t m n (condition x v) r h p q = let o = h.possible q p in (o.0, o.1, o.2 ∙ q)
happens-there s t m n look r h p q = let o = h.possible q p in (o.0, o.1, o.2 ∙ q)
happens-there s t m n (altered i x) r h p q = let o = h.possible refl p in (o.0, o.1, o.2 ∙ q)
happens-there s t m n (mislent buffer) r h p q =
    let o = h.wrong refl in (ap possible_state o.0 ∙ p, rw (o.0, o.1, o.2), ap right_size o.2 ∙ q)

-- the promise of a power-up, as that of an event on any state; whatever memory there is stays
pub power-up-happens : (s t : State) (m : Memory) → Started t → Happens s m started (result_of 0 0 []) t m
unfolding happens
power-up-happens s t m h =
    record {
      possible = λ _ _. (h.possible, ap (λ (b : Box). record { result = result_of 0 0 []; box = b }) (h.first m), refl);
      impossible = λ _ n. absurd (true≢false n);
      wrong = λ n. absurd (true≢false n);
    }

-- ---- the events of a chunk lead to where the chunk does

line_after : (v : Service) (l : Text) (es : List Event)
    → after v.box (received l ∷ taking_first (happens v.box (received l)).box v.rest es) ≡ after (served_line v l).box es
unfolding served_line after if◌then◌otherwise◌
line_after v l es = go (empty (happens v.box (received l)).box.core.answer)
  where
    now : Box
    now = (happens v.box (received l)).box

    go : (t : Bool) → after now (if t then es otherwise takes v.rest ∷ es)
        ≡ after (if t then service now (v.read + length l) v.answers v.rest otherwise took_after (v.read + length l) v.answers (happens now (takes v.rest))).box es
    go true = refl
    go false = refl

serves-after : (v : Service) (ls : List Text) → (serves v ls).box ≡ after v.box (events_of v ls)
unfolding serves events_of after if◌then◌otherwise◌
serves-after v [] = refl
serves-after v (l ∷ ls) = go (leb most_answer (length v.rest)) (serves-after (served_line v l) ls)
  where
    go : (t : Bool) → (serves (served_line v l) ls).box ≡ after (served_line v l).box (events_of (served_line v l) ls)
        → (if t then serves (served_line v l) ls otherwise v).box
        ≡ after v.box (if t then received l ∷ taking_first (happens v.box (received l)).box v.rest (events_of (served_line v l) ls) otherwise [])
    go true more = more ∙ sym (line_after v l (events_of (served_line v l) ls))
    go false more = refl

-- a chunk on a state that could be the box's leaves what its events leave
pub chunk-after : (s t : State) (m n : Memory) (input output left : Text) (number read written : ℕ) → Serves s m input output number read written t n left
    → right_size m ≡ true → possible_state s ≡ true → box_of t n ≡ after (box_of s m) (events_of (begun s m output) (lines_of input))
chunk-after s t m n input output left number read written w l p =
    ap (λ (v : Service). v.box) (w.possible l p).3 ∙ serves-after (begun s m output) (lines_of input)

-- ---- calls

results-append : (b : Box) (es fs : List Event) → results b (es ++ fs) ≡ results b es ++ results (after b es) fs
unfolding results after
results-append b [] fs = refl
results-append b (e ∷ es) fs = ap (λ (rs : List Result). (happens b e).result ∷ rs) (results-append (happens b e).box es fs)

event-history : (s t : State) (m n : Memory) (e : Event) (r : Result) → rightly m e ≡ true → admitted s e ≡ true → Happens s m e r t n
    → History s m t n (e ∷ []) (r ∷ [])
unfolding after results
event-history s t m n e r l p h =
    let one = h.possible l p in
    record {
      possible = one.0;
      box = ap (λ (x : Happened). x.box) one.1;
      results = ap (λ (x : Happened). x.result ∷ []) one.1;
    }

-- an event that was lent another memory changes nothing
mislent-history : (s t : State) (m n : Memory) (buffer : Text) (r : Result) → possible_state s ≡ true → t ≡ s → r ≡ result_of 5 0 buffer → n ≡ m
    → History s m t n (mislent buffer ∷ []) (r ∷ [])
unfolding after results happens
mislent-history s t m n buffer r p e is same =
    record { possible = ap possible_state e ∙ p; box = ap₂ box_of e same; results = ap (λ (x : Result). x ∷ []) is }

altered-history : (s t : State) (m n : Memory) (i x : ℕ) → possible_state s ≡ true → t ≡ s → n ≡ altered_in i x m
    → History s m t n (altered i x ∷ []) (result_of 0 0 [] ∷ [])
unfolding after results happens
altered-history s t m n i x p e is = record { possible = ap possible_state e ∙ p; box = ap₂ box_of e is; results = refl }

none-history : (s t : State) (m n : Memory) → possible_state s ≡ true → t ≡ s → n ≡ m → History s m t n [] []
unfolding after results
none-history s t m n p e same = record { possible = ap possible_state e ∙ p; box = ap₂ box_of e same; results = refl }

call-history : (s t : State) (m n : Memory) (es : List Event) (rs : List Result) → possible_state s ≡ true → Call s m t n es rs → History s m t n es rs
call-history s t m n _ _ p (event {e = e} {r = r} l h) = event-history s t m n e r l (admits s e p) h
call-history s t m n _ _ p (instead {e = e} {r = r} l h same) =
    let o = h.wrong l in mislent-history s t m n (lent e) r p o.0 o.1 same
call-history s t m n _ _ p (chunk {input = input} {output = output} {left = left} {number = number} {read = read} {written = written} l w) =
    record { possible = (w.possible l p).0; box = chunk-after s t m n input output left number read written w l p; results = refl }
call-history s t m n _ _ p (no_chunk l w same) = none-history s t m n p (w.wrong l).0 same
call-history s t m n _ _ p (alters {i = i} {x = x} e is) = altered-history s t m n i x p e is

-- one history and then another
then-history : (s u t : State) (m k n : Memory) (es fs : List Event) (rs qs : List Result) → History s m u k es rs → History u k t n fs qs
    → History s m t n (es ++ fs) (rs ++ qs)
then-history s u t m k n es fs rs qs p q =
    record {
      possible = q.possible;
      box = q.box ∙ ap (λ (b : Box). after b fs) p.box ∙ sym (after-append (box_of s m) es fs);
      results = ap₂ ◌++◌ p.results (q.results ∙ ap (λ (b : Box). results b fs) p.box) ∙ sym (results-append (box_of s m) es fs);
    }

-- call by call, to where they end
module _ (t : State) (n : Memory) where
  to-the-end : (s : State) (m : Memory) (es : List Event) (rs : List Result) → possible_state s ≡ true → Calls t n s m es rs
      → History s m t n es rs
  unfolding after results
  to-the-end s m _ _ p done = record { possible = p; box = refl; results = refl }
  to-the-end s m _ _ p (call {u = u} {k = k} {es = es} {fs = fs} {rs = rs} {qs = qs} h more) =
      let one = call-history s u m k es rs p h in
      then-history s u t m k n es fs rs qs one (to-the-end u k fs qs one.possible more)

pub calls-are-a-history : (s t : State) (m n : Memory) (es : List Event) (rs : List Result) → possible_state s ≡ true → Calls t n s m es rs
    → History s m t n es rs
calls-are-a-history s t m n es rs p calls = to-the-end t n s m es rs p calls
