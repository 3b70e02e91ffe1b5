-- A piece taken in: what is left of it leads to the same as the whole (`Feeding`), stretch by stretch.
use mathlib.Core.Path.{◌≡◌, refl, sym, ◌∙◌, ap}
use mathlib.Core.Bool.{Bool, true, false, not, ◌&&◌, false≢true}
use mathlib.Core.List.{[], ◌∷◌}
use Prim.Native.Nat.{ℕ, ◌+◌, ◌-◌, max, min, ◌≤◌, ◌<◌, zero-le}
use native.Mathlib.Omega.{arith}
use lib.Dec.{eqb, ltb, leb}
use lib.ListN.{length, take, drop, get_or, length-take, length-drop, take-append-drop}
use borrow.Author.Tests.{leb-true, le-leb, lt-ltb, ltb-true}
use Rattle.registers.specs.Text.{Text, empty}
use Rattle.registers.proofs.Tests.{and_both, and-true, front-empty}
use Rattle.interpreter.specs.Box.{Box, memory, blank, right_size, power_up, store_size, most_answer}
use Rattle.interpreter.specs.Events.{look, Result, result_of, Happened, happens}
use Rattle.interpreter.specs.FlowParts.{first_line}
use Rattle.interpreter.specs.State.{number_of, possible_state, Happens, Started}
use Rattle.interpreter.specs.declared.state.Refusal as told
use Rattle.interpreter.specs.declared.state.Refusal.TheVariants.{BufferTooShort, NoAnswer, ConditionTooWide, ImpossibleState, WrongStore}
use Rattle.std.specs.Prelude.{Ok, Err, is_ok, Result as Outcome}
use Rattle.interpreter.specs.Server.{Serves}
use Rattle.interpreter.specs.declared.state.State.{State}
use Rattle.interpreter.proofs.Choices.{if-elim}
use Rattle.std.specs.List.{ends_with}
use Rattle.interpreter.proofs.Lists.{is-empty}
use Rattle.interpreter.proofs.state.Events.{size-right}
use Rattle.writer.specs.Marking.{Progress, at_start, line_begun, place_sent, part_sent, fed, left_open, closed, report_at, progress_of, sound_marker, possible_marker, most_lines, Lent, Begun, Fed, Finished}
use Rattle.writer.specs.MarkingParts.{Recorded, Compared, Fits, FedAll}
use Rattle.writer.specs.declared.session.Stage.TheVariants.{Fresh, Sending, Finding}
use Rattle.writer.specs.declared.session.Place.{Place}
use Rattle.writer.specs.declared.session.Marker.{Marker}
use Rattle.writer.specs.declared.session.Report.{Report}
use Rattle.writer.proofs.session.Bytes.{fed-append, fed-first, byte-fresh, at_rest, fed-rest, fed-sent, ends, ends-part, first-front, first_some, first-within, closed-open, closed-no}
use Rattle.writer.proofs.session.Serving.{part-possible, part-silent, part-stored, part-written, part-sent}

-- ---- a sound marker

module _ (m : Marker) (h : sound_marker m ≡ true) where
  abbrev own : Bool
  own = empty (take m.state.waiting m.state.answer)

  abbrev room-holds : Bool
  room-holds = leb m.place.waiting most_answer

  pub sound-possible : possible_state m.state ≡ true
  unfolding sound_marker
  sound-possible = (and_both (possible_state m.state) (own && room-holds) h).0

  pub sound-silent : take m.state.waiting m.state.answer ≡ []
  unfolding sound_marker
  sound-silent = is-empty _ (and_both own room-holds (and_both (possible_state m.state) (own && room-holds) h).1).0

  pub sound-waits : m.place.waiting ≤ most_answer
  unfolding sound_marker
  sound-waits = leb-true m.place.waiting most_answer (and_both own room-holds (and_both (possible_state m.state) (own && room-holds) h).1).1

sound-from : (m : Marker) → possible_state m.state ≡ true → take m.state.waiting m.state.answer ≡ [] → m.place.waiting ≤ most_answer → sound_marker m ≡ true
unfolding sound_marker
sound-from m p silent waits = and-true p (and-true (ap empty silent) (le-leb m.place.waiting most_answer waits))

-- the first one
pub begun-marker : (s : State) → Started s → Begun (record { state = s; place = at_start })
unfolding possible_marker power_up
begun-marker s h =
    let silent : take s.waiting s.answer ≡ [] = ap (λ (b : Box). b.core.answer) (h.first blank) in
    record { started = h; place = refl; possible = and-true (sound-from _ h.possible silent zero-le) refl }

pub no-refusal : (r : Outcome ℕ told.Refusal) → is_ok r ≡ eqb (number_of r) 0
no-refusal (Ok n) = refl
no-refusal (Err (BufferTooShort n)) = refl
no-refusal (Err NoAnswer) = refl
no-refusal (Err ConditionTooWide) = refl
no-refusal (Err ImpossibleState) = refl
no-refusal (Err WrongStore) = refl

-- what the test of a marker tells: a look is refused by number 4 just where its box is impossible
module _ (m : Marker) (store : Text) (n byte : ℕ) (sized : length store ≡ store_size) (long : 0 < length m.state.answer)
    (seen : Happens m.state (memory store) look (result_of n byte []) m.state (memory store)) where
  abbrev tests : Bool → Bool → Bool
  tests one two = ((one && two) && leb m.place.waiting most_answer) && ltb m.place.number most_lines

  pub possible-is : tests (eqb n 0) (eqb m.state.waiting 0) ≡ possible_marker m
  unfolding possible_marker sound_marker happens
  possible-is = go (possible_state m.state) refl
    where
      right : right_size (memory store) ≡ true
      right = size-right store sized

      is : empty (take m.state.waiting m.state.answer) ≡ eqb m.state.waiting 0
      is = front-empty m.state.answer m.state.waiting long

      go : (t : Bool) → possible_state m.state ≡ t
          → tests (eqb n 0) (eqb m.state.waiting 0)
          ≡ (possible_state m.state && (empty (take m.state.waiting m.state.answer) && leb m.place.waiting most_answer)) && ltb m.place.number most_lines
      go true e =
          let z : n ≡ 0 = ap (λ (h : Happened). h.result.number) (seen.possible right e).1 in
          rw (e, z, is)
      go false e =
          let z : n ≡ 4 = ap (λ (r : Result). r.number) (seen.impossible right e).1 in
          rw (e, z)

-- ---- the first byte of a line

module _ (q : Place) (x : ℕ) where
  begun-number : (line_begun q x).number ≡ q.number + 1
  unfolding line_begun
  begun-number =
      if-elim (λ (r : Place). r.number ≡ q.number + 1) (eqb x 60) (λ _. refl)
      (λ _. if-elim (λ (r : Place). r.number ≡ q.number + 1) (eqb x 62)
      (λ _. if-elim (λ (r : Place). r.number ≡ q.number + 1) (eqb q.waiting 0) (λ _. refl) (λ _. refl)) (λ _. refl))

  begun-waiting : (line_begun q x).waiting ≡ q.waiting
  unfolding line_begun
  begun-waiting =
      if-elim (λ (r : Place). r.waiting ≡ q.waiting) (eqb x 60) (λ _. refl)
      (λ _. if-elim (λ (r : Place). r.waiting ≡ q.waiting) (eqb x 62)
      (λ _. if-elim (λ (r : Place). r.waiting ≡ q.waiting) (eqb q.waiting 0) (λ _. refl) (λ _. refl)) (λ _. refl))

-- ---- a piece

-- what is left of it leads where all of it does
pub record Feeding (m : Marker) (store₀ room₀ bytes store room : Text) (r : Marker) (rest : Text) : Type 0 where
  pub left : fed (progress_of r store room) rest ≡ fed (progress_of m store₀ room₀) bytes
  pub sound : sound_marker r ≡ true
  pub lent : Lent store room
  pub few : r.place.number + length rest ≤ m.place.number + length bytes

module _ {m : Marker} {store₀ room₀ bytes store room : Text} {r : Marker} where
  pub feed-end : (rest : Text) → Feeding m store₀ room₀ bytes store room r rest → length rest < 1 → FedAll m store₀ room₀ bytes r store room
  unfolding fed
  feed-end [] g h = let w = g.few in record { is = g.left; sound = g.sound; lent = g.lent; number = omega arith }
  feed-end (x ∷ xs) g h = absurd (omega arith)

  module _ {rest : Text} (g : Feeding m store₀ room₀ bytes store room r rest) where
    pub feed-stop : at_rest r.place.stage ≡ true → FedAll m store₀ room₀ bytes r store room
    feed-stop e =
        let w = g.few in
        record { is = sym (fed-rest (progress_of r store room) rest e) ∙ g.left; sound = g.sound; lent = g.lent; number = omega arith }

    module _ (some : 1 ≤ length rest) where
      abbrev x : ℕ
      x = get_or rest 0 0

      abbrev behind : Text
      behind = take (length rest - 1) (drop 1 rest)

      pub feed-fresh : r.place.stage ≡ Fresh → Feeding m store₀ room₀ bytes store room (record { state = r.state; place = line_begun r.place x }) behind
      feed-fresh e =
          let f = g.few in
          let n = begun-number r.place x in
          let w = begun-waiting r.place x in
          let z = sound-waits r g.sound in
          let long : length behind ≡ length rest - 1 = rw (length-take, length-drop) (omega arith) in
          record {
            left =
                ap (λ (p : Progress). fed p behind) (sym (byte-fresh (progress_of r store room) x e))
                ∙ sym (fed-first (progress_of r store room) rest some) ∙ g.left;
            sound = sound-from (record { state = r.state; place = line_begun r.place x }) (sound-possible r g.sound) (sound-silent r g.sound) (omega arith);
            lent = g.lent;
            few = omega arith;
          }

    -- so many bytes first, then those behind them
    fed-parts : (p : Progress) (n : ℕ) → fed p rest ≡ fed (fed p (take n rest)) (drop n rest)
    fed-parts p n = sym (ap (λ (l : Text). fed p l) (take-append-drop n rest)) ∙ fed-append p (take n rest) (drop n rest)

    module _ (some : 1 ≤ length rest) where
      pub first-less : length (drop (length (first_line rest)) rest) < length rest
      first-less = let f = first_some rest some in let d = length-drop (length (first_line rest)) rest in omega arith

      -- a part of a recorded answer was compared: as many bytes as can be found, or one
      module _ (left : ℕ) {size : ℕ} (is : size ≡ max 1 (min left (length rest))) where
        module _ {part behind : Text} (first : part ≡ take size rest) (then : behind ≡ drop size rest) where
          pub feed-recorded : {n : ℕ} → left ≡ r.place.waiting - n → r.place.stage ≡ Finding n → Recorded r.place n room part
          feed-recorded asked e =
              let w = sound-waits r g.sound in
              let l = g.lent.wide in
              let t : length part ≡ size = rw (first, length-take) (omega arith) in
              record { stage = e; some = omega arith; short = omega arith; holds = omega arith }

          pub part-less : length behind < length rest
          part-less = let d = ap length then ∙ length-drop size rest in omega arith

          pub feed-found : {q : Place} → Compared r.place room part q → Feeding m store₀ room₀ bytes store room (record { state = r.state; place = q }) behind
          feed-found {q} w =
              let p = progress_of r store room in
              let f = g.few in
              let n = w.number in
              let k = w.waiting in
              let z = sound-waits r g.sound in
              let d = part-less in
              record {
                left =
                    rw then (ap (λ (s : Progress). fed s (drop size rest)) (sym (w.is p.box) ∙ ap (λ (l : Text). fed p l) first)
                    ∙ sym (fed-parts p size) ∙ g.left);
                sound = sound-from (record { state = r.state; place = q }) (sound-possible r g.sound) (sound-silent r g.sound) (omega arith);
                lent = g.lent;
                few = omega arith;
              }

      -- a part of a line was served
      module _ (e : r.place.stage ≡ Sending) {t : State} {stored left part : Text} {number read written : ℕ}
          (is : part ≡ first_line rest) (served : Serves r.state (memory store) part room number read written t (memory stored) left) where
        served' : Serves r.state (memory store) (first_line rest) room number read written t (memory stored) left
        served' = rw is at served

        pub feed-sent : length left ≡ length room → {ended : Bool} → ended ≡ ends_with eqb part (10 ∷ [])
            → Feeding m store₀ room₀ bytes stored left (record { state = t; place = place_sent r.place written ended }) (drop (length (first_line rest)) rest)
        unfolding place_sent
        feed-sent kept {ended} asked =
            let p = progress_of r store room in
            let n = length (first_line rest) in
            let possible = sound-possible r g.sound in
            let f = first-within rest in
            let d = length-drop n rest in
            let k = g.lent.wide in
            let w = part-written r.state t store stored room left rest number read written r.place true possible g.lent some served' in
            let z = g.few in
            let shut : ended ≡ ends rest = asked ∙ ap (λ (l : Text). ends_with eqb l (10 ∷ [])) is ∙ ends-part rest in
            let here = part-sent r.state t store stored room left rest number read written r.place ended possible g.lent some served' in
            let all : part_sent p (first_line rest) ended ≡ fed p (first_line rest) = ap (λ (u : Bool). part_sent p (first_line rest) u) shut ∙ sym (fed-sent rest p some e (sound-silent r g.sound)) in
            record {
              left = ap (λ (s : Progress). fed s (drop n rest)) (here ∙ all ∙ ap (λ (l : Text). fed p l) (sym (first-front rest))) ∙ sym (fed-parts p n) ∙ g.left;
              sound =
                  sound-from (record { state = t; place = place_sent r.place written ended })
                  (part-possible r.state t store stored room left rest number read written r.place true possible g.lent some served')
                  (part-silent r.state t store stored room left rest number read written r.place true possible g.lent some served') (omega arith);
              lent = record { sized = part-stored r.state t store stored room left rest number read written r.place true possible g.lent some served'; wide = kept ∙ k };
              few = omega arith;
            }

-- ---- the whole of it

not-true : (t : Bool) → not t ≡ true → t ≡ false
not-true true e = absurd (false≢true e)
not-true false e = refl

not-false : (t : Bool) → not t ≡ false → t ≡ true
not-false true e = refl
not-false false e = absurd (false≢true (sym e))

module _ (m : Marker) where
  pub possible-sound : possible_marker m ≡ true → sound_marker m ≡ true
  unfolding possible_marker
  possible-sound h = (and_both (sound_marker m) (ltb m.place.number most_lines) h).0

  pub possible-few : possible_marker m ≡ true → m.place.number < most_lines
  unfolding possible_marker
  possible-few h = ltb-true m.place.number most_lines (and_both (sound_marker m) (ltb m.place.number most_lines) h).1

  pub sound-few : sound_marker m ≡ true → m.place.number < most_lines → possible_marker m ≡ true
  unfolding possible_marker
  sound-few s h = and-true s (lt-ltb m.place.number most_lines h)

module _ (m : Marker) (store room bytes : Text) {t : Bool} (is : t ≡ possible_marker m) where
  pub fit-from : not t ≡ false → Lent store room → Fits m store room bytes
  fit-from e l = let p = sym is ∙ not-false t e in record { sound = possible-sound m p; lent = l; few = possible-few m p }

  pub fed-refused : not t ≡ true → Fed m store room bytes m store room
  fed-refused e =
      record { possible = λ _ p. absurd (false≢true (sym (not-true t e) ∙ is ∙ p)); impossible = λ _ _. (refl, refl, refl) }

  pub fed-done : not t ≡ false → {r : Marker} {store' room' : Text} → FedAll m store room bytes r store' room' → Fed m store room bytes r store' room'
  fed-done e w =
      record {
        possible = λ _ _. (w.is, w.sound, w.number, w.lent);
        impossible = λ _ p. absurd (false≢true (sym p ∙ sym is ∙ not-false t e));
      }

-- ---- the end of a session

pub counted : (m : Marker) {t : Bool} → t ≡ possible_marker m → not t ≡ false → m.place.number < most_lines
counted m {t} is e = possible-few m (sym is ∙ not-false t e)

module _ (m : Marker) (store room : Text) {t : Bool} (is : t ≡ possible_marker m) {r : Report} where
  module _ (e : not t ≡ false) where
    pub finish-plain : left_open m.place.stage ≡ false → r ≡ report_at m.place → Finished m store room r store room
    finish-plain shut f =
        let c = closed-no (progress_of m store room) shut in
        record {
          possible = λ _ _. (f ∙ ap (λ (p : Progress). report_at p.place) (sym c), ap (λ (p : Progress). p.room) (sym c), ap (λ (p : Progress). p.box.core.memory) (sym c));
          impossible = λ _ p. absurd (false≢true (sym p ∙ sym is ∙ not-false t e));
        }

    pub finish-open : left_open m.place.stage ≡ true → {n : Marker} {store' room' : Text}
        → FedAll m store room (10 ∷ []) n store' room' → r ≡ report_at n.place → Finished m store room r store' room'
    unfolding fed
    finish-open some {n} {store'} {room'} w f =
        let c : progress_of n store' room' ≡ closed (progress_of m store room) = w.is ∙ sym (closed-open (progress_of m store room) some) in
        record {
          possible = λ _ _. (f ∙ ap (λ (p : Progress). report_at p.place) c, ap (λ (p : Progress). p.room) c, ap (λ (p : Progress). p.box.core.memory) c);
          impossible = λ _ p. absurd (false≢true (sym p ∙ sym is ∙ not-false t e));
        }
