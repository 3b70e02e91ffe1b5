-- A part of a line sent through the chunk server, whose answer is taken into the room.
use mathlib.Core.Path.{◌≡◌, refl, sym, ◌∙◌, ap, ap₂, subst}
use mathlib.Core.Bool.{Bool, true, false}
use mathlib.Core.List.{List, [], ◌∷◌, ◌++◌}
use Prim.Native.Nat.{ℕ, ◌+◌, ◌≤◌, ◌<◌}
use native.Mathlib.Omega.{arith}
use lib.Dec.{eqb, leb}
use lib.ListN.{length, take, drop, length-take, take-append-drop}
use lib.Seq.{take-append_seam, drop-append_seam}
use borrow.Author.Tests.{leb-false, eqb-true}
use Rattle.registers.specs.Text.{Text, if◌then◌otherwise◌, empty}
use Rattle.interpreter.specs.Box.{store_size, memory, right_size, Box, answer_is, raise}
use Rattle.interpreter.specs.FlowParts.{first_line}
use Rattle.interpreter.specs.Events.{received, take as takes, result_of, happened, taken, happens}
use Rattle.interpreter.specs.State.{box_of, possible_state}
use Rattle.interpreter.specs.Server.{lines_of, Service, service, took_after, served_line, serves, begun, Serves}
use Rattle.interpreter.specs.declared.state.State.{State}
use Rattle.interpreter.proofs.Lists.{is-empty}
use Rattle.interpreter.proofs.state.Records.{short-from}
use Rattle.interpreter.proofs.state.Events.{size-right}
use Rattle.interpreter.proofs.server.Laws.{serves_on}
use Rattle.writer.specs.Marking.{place_sent, part_sent, progress_of, Lent}
use Rattle.writer.specs.declared.session.Place.{Place}
use Rattle.writer.proofs.session.Bytes.{first_ends, first_more, first-none}

-- a first line is one line
pub one-line : (l : Text) → 0 < length l → lines_of (first_line l) ≡ first_line l ∷ []
unfolding lines_of if◌then◌otherwise◌
one-line [] h = absurd (omega arith)
one-line (x ∷ xs) h = go (eqb x 10) refl xs refl (λ k. one-line xs k)
  where
    go : (t : Bool) → eqb x 10 ≡ t → (ys : Text) → xs ≡ ys → (0 < length xs → lines_of (first_line xs) ≡ first_line xs ∷ [])
        → lines_of (first_line (x ∷ xs)) ≡ first_line (x ∷ xs) ∷ []
    go true e ys is more = rw (first_ends x xs e, e)
    go false e [] is more = rw (first_more x xs e, is, first-none, e)
    go false e (y ∷ ys) is more = let n : 0 < length xs = rw is (omega arith) in rw (first_more x xs e, e, more n)

-- one line served to a box, whose answer then has room
module _ (b : Box) (room : Text) (n : ℕ) where
  abbrev a : Text
  a = b.core.answer

  abbrev serving : Service
  serving = if empty a then service b n [] room otherwise took_after n [] (happens b (takes room))

  abbrev One : Service → Type 0
  One s = length s.box.core.answer ≤ length room → (s.box ≡ answer_is [] b) × (s.answers ≡ a) × (s.rest ≡ drop (length a) room)

  served-one : One serving
  unfolding happens taken if◌then◌otherwise◌
  served-one = go (empty a) refl (leb (length a) (length room)) refl
    where
      go : (t : Bool) → empty a ≡ t → (u : Bool) → leb (length a) (length room) ≡ u
          → One (if t then service b n [] room otherwise took_after n [] (if t then happened (result_of 2 0 room) (raise 420 b)
          otherwise (if u then happened (result_of 0 (length a) (a ++ drop (length a) room)) (answer_is [] b) otherwise happened (result_of 1 (length a) room) b)))
      go true q u r k = let e = is-empty a q in (ap (λ (x : Text). answer_is x b) e, sym e, rw e)
      go false q true r k = (refl, take-append_seam a (drop (length a) room), drop-append_seam a (drop (length a) room))
      go false q false r k = let h = leb-false (length a) (length room) r in absurd (omega arith)

-- the part is what goes on at the start of a text
module _ (s t : State) (store stored room left l : Text) (number read written : ℕ) (q : Place) (ended : Bool) (p : possible_state s ≡ true)
    (lent : Lent store room) (some : 0 < length l)
    (served : Serves s (memory store) (first_line l) room number read written t (memory stored) left) where
  right : right_size (memory store) ≡ true
  right = size-right store lent.sized

  abbrev done : (possible_state t ≡ true) × (number ≡ 0) × (written ≤ length left)
      × (service (box_of t (memory stored)) read (take written left) (drop written left) ≡ serves (begun s (memory store) room) (lines_of (first_line l)))
      × (right_size (memory stored) ≡ true)
  done = served.possible right p

  abbrev come : Box
  come = (happens (box_of s (memory store)) (received (first_line l))).box

  whole : service (box_of t (memory stored)) read (take written left) (drop written left) ≡ serving come room (0 + length (first_line l))
  unfolding serves served_line
  whole =
      let w = lent.wide in
      done.3 ∙ ap (λ (ls : List Text). serves (begun s (memory store) room) ls) (one-line l some)
      ∙ serves_on (begun s (memory store) room) (first_line l) [] (omega arith)

  one : (box_of t (memory stored) ≡ answer_is [] come) × (take written left ≡ come.core.answer) × (drop written left ≡ drop (length come.core.answer) room)
  one =
      let few = (short-from t done.0).waiting in
      let w = lent.wide in
      let short : length (box_of t (memory stored)).core.answer ≤ length room = rw length-take (omega arith) in
      let is = served-one come room (0 + length (first_line l)) (subst (λ (v : Service). length v.box.core.answer ≤ length room) whole short) in
      (ap (λ (v : Service). v.box) whole ∙ is.0, ap (λ (v : Service). v.answers) whole ∙ is.1, ap (λ (v : Service). v.rest) whole ∙ is.2)

  pub part-possible : possible_state t ≡ true
  part-possible = done.0

  pub part-silent : take t.waiting t.answer ≡ []
  part-silent = ap (λ (b : Box). b.core.answer) one.0

  pub part-stored : length stored ≡ store_size
  unfolding right_size
  part-stored = eqb-true (length stored) store_size done.4

  pub part-written : written ≤ length left
  part-written = done.2

  pub part-sent : progress_of (record { state = t; place = place_sent q written ended }) stored left
      ≡ part_sent (progress_of (record { state = s; place = q }) store room) (first_line l) ended
  unfolding part_sent
  part-sent =
      let a = come.core.answer in
      let n : written ≡ length a = let w = done.2 in let k = length-take written left in let e = ap length one.1 in omega arith in
      let r : left ≡ a ++ drop (length a) room = sym (take-append-drop written left) ∙ ap₂ (λ (x y : Text). x ++ y) one.1 one.2 in
      ap₂ (λ (b : Box) (x : Text). record { box = b; room = x; place = place_sent q written ended }) one.0 r
      ∙ ap (λ (k : ℕ). record { box = answer_is [] come; room = a ++ drop (length a) room; place = place_sent q k ended }) n
