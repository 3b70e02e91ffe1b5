-- A chunk served: its first lines were heard, by pieces and takes that were not refused. Lines heard are a history, and however the
-- bytes are cut into chunks they lead to the same box. By induction over the lines (`Goes`): each is served as it is heard, as long as the
-- output has room for an answer.
use mathlib.Core.Path.{◌≡◌, refl, sym, ◌∙◌, ap, ap₂, subst}
use mathlib.Core.Bool.{Bool, true, false}
use mathlib.Core.List.{List, [], ◌∷◌, ◌++◌, append_assoc, append-nil, flatten}
use Prim.Native.Nat.{ℕ, ◌+◌, ◌≤◌}
use native.Mathlib.Omega.{arith}
use lib.Dec.{eqb, leb, ltb}
use lib.ListN as L
use lib.ListN.{length, drop}
use lib.Seq.{take-append_seam}
use borrow.Author.Tests.{leb-true, le-leb}
use Rattle.registers.specs.Text.{Text, if◌then◌otherwise◌, empty}
use Rattle.registers.specs.Settings.{AsLong}
use Rattle.registers.proofs.Tests.{and-true}
use Rattle.interpreter.specs.Cuts.{join_first}
use Rattle.interpreter.specs.Box.{Memory, right_size, Core, Box, answer_is, most_line, most_answer}
use Rattle.interpreter.specs.Line.{held, byte, piece}
use Rattle.interpreter.specs.Events.{Event, received, take as takes, result_of, Happened, happened, happens, taken, after, results}
use Rattle.interpreter.specs.State.{box_of, possible_state}
use Rattle.interpreter.specs.Histories.{results_of, answers, sent, copied}
use Rattle.interpreter.specs.Server.{lines_of, Service, service, took_after, served_line, serves, heard_line, heard, answers_to, WholeLines, taking_first, events_of, hearing, begun, Serves}
use Rattle.interpreter.specs.Calls.{Brings, ChunkHistory}
use Rattle.interpreter.specs.declared.state.State.{State}
use Rattle.interpreter.proofs.Choices.{if-elim}
use Rattle.interpreter.proofs.Lists.{is-empty}
use Rattle.interpreter.proofs.Bounds.{Fit, dropped-fit}
use Rattle.interpreter.proofs.Possible.{event-fit, fit-from}
use Rattle.interpreter.proofs.state.Records.{box-from}
use Rattle.interpreter.proofs.server.Chunks.{line-fits, serves-fit}
use Rattle.interpreter.proofs.server.Headway.{line-read}
use Rattle.interpreter.proofs.server.Bytes.{total, first-bytes, first-lines, first-whole}

-- what these answers and those of further events are together
abbrev Follows : Service → List Event → Text → Type 0
Follows v es said = v.answers ++ copied (answers v.box es) ≡ said

-- ---- one line

-- a take that has room for the answer
taken-whole : (b : Box) (room : Text) → empty b.core.answer ≡ false → length b.core.answer ≤ length room
    → happens b (takes room) ≡ happened (result_of 0 (length b.core.answer) (b.core.answer ++ drop (length b.core.answer) room)) (answer_is [] b)
unfolding happens taken if◌then◌otherwise◌
taken-whole b room e h = rw (e, le-leb (length b.core.answer) (length room) h)

no-answer : (b : Box) → b.core.answer ≡ [] → answer_is [] b ≡ b
no-answer b e = ap (λ (a : Text). answer_is a b) (sym e)

-- the events of a line bring its bytes, and lead to where the line was heard
module _ (b : Box) (l room : Text) (f : Fit most_answer b) (long : most_answer ≤ length room) where
  abbrev come : Box
  come = (happens b (received l)).box

  whole : empty come.core.answer ≡ false
      → happens come (takes room)
      ≡ happened (result_of 0 (length come.core.answer) (come.core.answer ++ drop (length come.core.answer) room)) (heard_line b l)
  whole e = let few = (event-fit b (received l) f).core.answer in taken-whole come room e (omega arith)

  line-brings : (text : Text) (c : Box) (es : List Event) → Brings text (heard_line b l) c es → Brings (l ++ text) b c (received l ∷ taking_first come room es)
  unfolding happens after results sent if◌then◌otherwise◌
  line-brings text c es m = go (empty come.core.answer) refl
    where
      go : (t : Bool) → empty come.core.answer ≡ t → Brings (l ++ text) b c (received l ∷ (if t then es otherwise takes room ∷ es))
      go true e =
          let n = subst (λ (y : Box). Brings text y c es) (no-answer come (is-empty come.core.answer e)) m in
          record { only = n.only; accepted = n.accepted; bytes = ap (λ (t : Text). l ++ t) n.bytes; box = n.box }
      go false e =
          let h = whole e in
          let n = subst (λ (y : Box). Brings text y c es) (sym (ap (λ (y : Happened). y.box) h)) m in
          record {
            only = and-true (le-leb most_answer (length room) long) n.only;
            accepted = and-true (ap (λ (y : Happened). eqb y.result.number 0) h) n.accepted;
            bytes = ap (λ (t : Text). l ++ t) n.bytes;
            box = n.box;
          }

module _ (v : Service) (l : Text) (f : Fit most_answer v.box) (room : most_answer ≤ length v.rest) where
  abbrev now : Box
  now = (happens v.box (received l)).box

  line-heard : (served_line v l).box ≡ heard_line v.box l
  unfolding served_line
  line-heard =
      if-elim (λ (u : Service). u.box ≡ heard_line v.box l) (empty now.core.answer)
      (λ e. sym (no-answer now (is-empty now.core.answer e))) (λ e. ap (λ (h : Happened). h.box) (whole v.box l v.rest f room e))

  line-told : (served_line v l).answers ≡ v.answers ++ now.core.answer
  unfolding served_line
  line-told =
      if-elim (λ (u : Service). u.answers ≡ v.answers ++ now.core.answer) (empty now.core.answer)
      (λ e. sym (ap (λ (a : Text). v.answers ++ a) (is-empty now.core.answer e) ∙ append-nil v.answers))
      (λ e.
      ap (λ (h : Happened). v.answers ++ L.take h.result.value h.result.buffer) (whole v.box l v.rest f room e)
      ∙ ap (λ (a : Text). v.answers ++ a) (take-append_seam now.core.answer _))

  -- what the line's take copied comes after the answers before it
  line-answers : (es : List Event) (said : Text) → Follows (served_line v l) es said → Follows v (received l ∷ taking_first now v.rest es) said
  unfolding served_line happens results_of copied if◌then◌otherwise◌
  line-answers es said = go (empty now.core.answer) refl
    where
      h : Happened
      h = happens now (takes v.rest)

      go : (t : Bool) → empty now.core.answer ≡ t
          → Follows (if t then service now (v.read + length l) v.answers v.rest otherwise took_after (v.read + length l) v.answers h) es said
          → Follows v (received l ∷ (if t then es otherwise takes v.rest ∷ es)) said
      go true e m = m
      go false e m =
          let n : h.result.number ≡ 0 = ap (λ (y : Happened). y.result.number) (whole v.box l v.rest f room e) in
          rw (n, ← append_assoc) m

-- ---- lines: those that were served, and those that were left

record Goes (v : Service) (ls : List Text) (es : List Event) (u : Service) : Type 0 where
  done : List Text
  rest : List Text
  is : ls ≡ done ++ rest
  read : u.read ≡ v.read + total done
  hears : u.box ≡ heard v.box done
  events : Brings (flatten done) v.box u.box es
  answers : Follows v es u.answers
  told : u.answers ≡ v.answers ++ answers_to v.box done

none_left : (v : Service) (ls : List Text) → Goes v ls [] v
unfolding heard answers_to flatten after results sent results_of copied
none_left v ls =
    record {
      done = [];
      rest = ls;
      is = refl;
      read = omega arith;
      hears = refl;
      events = record { only = refl; accepted = refl; bytes = refl; box = refl };
      answers = append-nil v.answers;
      told = sym (append-nil v.answers);
    }

goes : (v : Service) (ls : List Text) → Fit most_answer v.box → Goes v ls (events_of v ls) (serves v ls)
unfolding serves events_of heard answers_to flatten if◌then◌otherwise◌
goes v [] f = none_left v []
goes v (l ∷ ls) f = go (leb most_answer (length v.rest)) refl (goes (served_line v l) ls (line-fits v l f))
  where
    es : List Event
    es = events_of (served_line v l) ls

    u : Service
    u = serves (served_line v l) ls

    go : (t : Bool) → leb most_answer (length v.rest) ≡ t → Goes (served_line v l) ls es u
        → Goes v (l ∷ ls) (if t then received l ∷ taking_first (happens v.box (received l)).box v.rest es otherwise []) (if t then u otherwise v)
    go false e m = none_left v (l ∷ ls)
    go true e m =
        let room = leb-true most_answer (length v.rest) e in
        let here = line-heard v l f room in
        record {
          done = l ∷ m.done;
          rest = m.rest;
          is = ap (λ (ks : List Text). l ∷ ks) m.is;
          read = omega (arith, m.read, line-read v l);
          hears = m.hears ∙ ap (λ (b : Box). heard b m.done) here;
          events = line-brings v.box l v.rest f room (flatten m.done) u.box es (subst (λ (b : Box). Brings (flatten m.done) b u.box es) here m.events);
          answers = line-answers v l f room es u.answers m.answers;
          told = m.told ∙ ap₂ ◌++◌ (line-told v l f room) (ap (λ (b : Box). answers_to b m.done) here) ∙ append_assoc v.answers (now v l f room).core.answer _;
        }

-- ---- a chunk

module _ (s t : State) (m k : Memory) (input output left : Text) (number read written : ℕ) (w : Serves s m input output number read written t k left)
    (q : right_size m ≡ true) (p : possible_state s ≡ true) (long : AsLong s.settings) where
  fits : Fit most_answer (box_of s m)
  fits = fit-from (box_of s m) long (box-from s m p)

  is : service (box_of t k) read (L.take written left) (drop written left) ≡ serves (begun s m output) (lines_of input)
  is = (w.possible q p).3

  went : Goes (begun s m output) (lines_of input) (events_of (begun s m output) (lines_of input)) (service (box_of t k) read (L.take written left) (drop written left))
  went = rw is (goes (begun s m output) (lines_of input) fits)

  n : read ≡ total went.done
  n = omega (arith, went.read)

  pub left-long : AsLong t.settings
  left-long = rw (ap (λ (v : Service). v.box.core.settings) is) (serves-fit (begun s m output) (lines_of input) fits).core.long

  -- what was read was heard, in whole lines
  pub part-heard : WholeLines read input × (box_of t k ≡ heard (box_of s m) (lines_of (L.take read input)))
  part-heard =
      (rw n (first-whole input went.done went.rest went.is), rw (n, first-lines input went.done went.rest went.is) went.hears)

  -- and what was written are the answers to them
  pub part-answered : L.take written left ≡ answers_to (box_of s m) (lines_of (L.take read input))
  part-answered = rw (n, first-lines input went.done went.rest went.is) went.told

  -- a call is a history of pieces and takes: what it answers and leaves is what those events answer and leave
  pub serves-history : ChunkHistory s t m k input left read written (events_of (begun s m output) (lines_of input))
  serves-history =
      record { events = rw (n, first-bytes input went.done went.rest went.is) went.events; answers = went.answers }

-- ---- lines heard

pub heard-append : (b : Box) (ks ls : List Text) → heard b (ks ++ ls) ≡ heard (heard b ks) ls
unfolding heard
heard-append b [] ls = refl
heard-append b (k ∷ ks) ls = heard-append (heard_line b k) ks ls

-- they are a history too, whatever bytes are lent to its takes
pub heard-history : (room : Text) → most_answer ≤ length room → (b : Box) (ls : List Text) → Fit most_answer b
    → Brings (flatten ls) b (heard b ls) (hearing room b ls)
unfolding heard hearing flatten after results sent
heard-history room long b [] f = record { only = refl; accepted = refl; bytes = refl; box = refl }
heard-history room long b (l ∷ ls) f =
    let g = dropped-fit most_answer most_answer (happens b (received l)).box (event-fit b (received l) f) in
    line-brings b l room f long (flatten ls) _ _ (heard-history room long (heard_line b l) ls g)

-- ---- however the bytes are cut: where no answer waits, chunks heard one after the other are heard as one

pub plain-answer : (b : Box) (x : ℕ) → eqb x 10 ≡ false → (byte b x).core.answer ≡ b.core.answer
unfolding byte held if◌then◌otherwise◌
plain-answer b x e =
    rw e (if-elim (λ (c : Core). c.answer ≡ b.core.answer) (ltb (length b.core.line) most_line) (λ _. refl) (λ _. refl))

pub joined-heard : (b : Box) (x : ℕ) (ls : List Text) → (byte b x).core.answer ≡ [] → heard b (join_first x ls) ≡ heard (byte b x) ls
unfolding heard happens piece
joined-heard b x [] e = no-answer (byte b x) e
joined-heard b x (l ∷ ls) e = refl

pub heard-on : (xs ys : Text) (b : Box) → b.core.answer ≡ [] → heard b (lines_of (xs ++ ys)) ≡ heard (heard b (lines_of xs)) (lines_of ys)
unfolding lines_of heard if◌then◌otherwise◌
heard-on [] ys b e = refl
heard-on (x ∷ xs) ys b e = go (eqb x 10) refl (λ c k. heard-on xs ys c k)
  where
    go : (t : Bool) → eqb x 10 ≡ t → ((c : Box) → c.core.answer ≡ [] → heard c (lines_of (xs ++ ys)) ≡ heard (heard c (lines_of xs)) (lines_of ys))
        → heard b (if t then (x ∷ []) ∷ lines_of (xs ++ ys) otherwise join_first x (lines_of (xs ++ ys)))
        ≡ heard (heard b (if t then (x ∷ []) ∷ lines_of xs otherwise join_first x (lines_of xs))) (lines_of ys)
    go true q more = more (heard_line b (x ∷ [])) refl
    go false q more =
        let none = plain-answer b x q ∙ e in
        joined-heard b x (lines_of (xs ++ ys)) none
        ∙ more (byte b x) none
        ∙ ap (λ (c : Box). heard c (lines_of ys)) (sym (joined-heard b x (lines_of xs) none))
