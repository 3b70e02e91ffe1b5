-- What is found at the end of a session's bytes is the verdict on its lines. By induction over the bytes, for each stage at once (`Bridge`): at the
-- start of a line, behind `>`, and behind `<`, where the bytes up to the next newline are the rest of the line.
use mathlib.Core.Path.{◌≡◌, refl, sym, ◌∙◌, ap}
use mathlib.Core.Bool.{Bool, true, false, ◌&&◌, false≢true}
use mathlib.Core.List.{List, [], ◌∷◌, ◌++◌}
use Prim.Native.Nat.{ℕ, suc, ◌+◌, ◌-◌, ◌≤◌, ◌<◌, zero-le}
use native.Mathlib.Numerals.{add-one}
use native.Mathlib.Omega.{arith}
use lib.Dec.{eqb, ltb}
use lib.ListN.{length, take, drop, get_or, length-append, length-drop}
use lib.Seq.{take-append_seam}
use borrow.Author.Tests.{eqb-true, eqb-false, eq-eqb, ne_eqb, ltb-true, ltb-false}
use Rattle.registers.specs.Text.{Text, if◌then◌otherwise◌, same}
use Rattle.registers.proofs.Tests.{and_both, front-empty}
use Rattle.interpreter.specs.Cuts.{join_first}
use Rattle.interpreter.specs.Box.{Box}
use Rattle.interpreter.specs.Line.{byte, piece}
use Rattle.interpreter.specs.Events.{happens}
use Rattle.interpreter.specs.Server.{lines_of, heard_line}
use Rattle.writer.specs.Session.{Marking, Verdict, differs, broken, line_read, bare, next_line, marked, answer_to}
use Rattle.std.specs.Prelude.{Option, Some, None, unwrap_or}
use Rattle.writer.specs.declared.session.Stage.{Stage}
use Rattle.writer.specs.declared.session.Stage.TheVariants.{Fresh, Sending, Finding, Differing, Stopped}
use Rattle.writer.specs.Marking.{Progress, at_start, begun_at, found_so, line_begun, place_sent, part_sent, place_found, placed, byte_read, fed, closed, left_open, report_of, report_at, verdict_of}
use Rattle.writer.specs.declared.session.Place.{Place}
use Rattle.writer.proofs.session.Bytes.{byte-fresh, byte-sending, byte-finding, at_rest, fed-rest, closed-open, closed-no, part-byte, plain-answer, begun-answer, begun-broken, begun-early, begun-sent, found-next, found_all, found-long, found-other, goes_on, long, find-more, find_none}

-- ---- the bytes up to the next newline, and the lines after it

unfoldable line_left : Text → Text
line_left [] = []
line_left (x ∷ xs) = if eqb x 10 then [] otherwise x ∷ line_left xs

unfoldable lines_left : Text → List Text
lines_left [] = []
lines_left (x ∷ xs) = if eqb x 10 then lines_of xs otherwise lines_left xs

record Split (x : ℕ) (xs : Text) : Type 0 where
  line : Text
  lines : lines_of (x ∷ xs) ≡ line ∷ lines_left xs
  is : bare line ≡ x ∷ line_left xs

split : (xs : Text) (x : ℕ) → eqb x 10 ≡ false → Split x xs
unfolding lines_of line_left lines_left if◌then◌otherwise◌
split [] x e = record { line = x ∷ []; lines = rw e; is = rw e }
split (y ∷ ys) x e = go (eqb y 10) refl (λ k. split ys y k)
  where
    go : (t : Bool) → eqb y 10 ≡ t → (eqb y 10 ≡ false → Split y ys) → Split x (y ∷ ys)
    go true f more = record { line = x ∷ y ∷ []; lines = rw (e, f); is = rw (e, f) }
    go false f more =
        let s = more f in
        let l : lines_of (y ∷ ys) ≡ s.line ∷ lines_left ys = s.lines in
        record {
          line = x ∷ s.line;
          lines = rw (e, f) (ap (λ (ls : List Text). join_first x ls) (rw f at l));
          is = rw (e, f) (ap (λ (t : Text). x ∷ t) s.is);
        }

-- ---- where bytes lead

abbrev at : Box → Text → Place → Progress
at b room q = record { box = b; room = room; place = q }

abbrev told : Progress → Verdict
told p = verdict_of (report_at p.place) p.room

abbrev outcome : Progress → Text → Verdict
outcome p t = told (closed (fed p t))

-- the last line that was sent, 0 before the first
abbrev last_sent : Place → ℕ
last_sent q = unwrap_or q.sent 0

abbrev known : Box → Text → Place → Marking
known b room q = record { box = b; sent = last_sent q; answer = take q.waiting room }

-- lines count from 1
abbrev Counted : Option ℕ → Type 0
Counted None = Unit {0}
Counted (Some n) = 0 < n

-- a room with an answer of so many bytes, and any
record Roomy (room : Text) (q : Place) : Type 0 where
  holds : q.waiting ≤ length room
  some : 0 < length room
  asked : last_sent q ≡ 0 → q.waiting ≡ 0
  counted : Counted q.sent

abbrev FreshSays : Text → Type 0
FreshSays t = (b : Box) (room : Text) (q : Place) → b.core.answer ≡ [] → q.stage ≡ Fresh → Roomy room q
    → outcome (at b room q) t ≡ marked (known b room q) (suc q.number) (lines_of t)

abbrev after_sent : Box → Place → Text → Marking
after_sent b q line = record { box = heard_line b (line ++ 10 ∷ []); sent = last_sent q; answer = answer_to b line }

abbrev SendingSays : Text → Type 0
SendingSays t = (b : Box) (room : Text) (q : Place) → b.core.answer ≡ [] → q.stage ≡ Sending → 0 < length room → (last_sent q ≡ 0 → ⊥) → Counted q.sent
    → outcome (at b room q) t ≡ marked (after_sent b q (line_left t)) (suc q.number) (lines_left t)

abbrev astray : Place → Text → Verdict
astray q room = differs (if eqb (last_sent q) 0 then q.number otherwise last_sent q) q.number (take q.waiting room)

abbrev after_answer : Box → Place → Marking
after_answer b q = record { box = b; sent = last_sent q; answer = [] }

abbrev FindingSays : Text → Type 0
FindingSays t = (b : Box) (room : Text) (q : Place) (n : ℕ) → b.core.answer ≡ [] → q.stage ≡ Finding n → Roomy room q
    → outcome (at b room q) t
    ≡ (if same (drop n (take q.waiting room)) (line_left t ++ 10 ∷ []) then marked (after_answer b q) (suc q.number) (lines_left t) otherwise astray q room)

record Bridge (t : Text) : Type 0 where
  fresh : FreshSays t
  sending : SendingSays t
  finding : FindingSays t

-- ---- where it has stopped

stopped-shut : (s : Stage) → at_rest s ≡ true → left_open s ≡ false
stopped-shut Fresh e = refl
stopped-shut Sending e = absurd (false≢true e)
stopped-shut (Finding n) e = absurd (false≢true e)
stopped-shut Differing e = refl
stopped-shut Stopped e = refl

stop-outcome : (p : Progress) (t : Text) → at_rest p.place.stage ≡ true → outcome p t ≡ told p
stop-outcome p t e = ap (λ (r : Progress). told (closed r)) (fed-rest p t e) ∙ ap told (closed-no p (stopped-shut p.place.stage e))

-- a line that was sent has a number, so that 0 stands for none
sent-or : (s : Option ℕ) (n : ℕ) → Counted s → unwrap_or s n ≡ (if eqb (unwrap_or s 0) 0 then n otherwise unwrap_or s 0)
unfolding if◌then◌otherwise◌
sent-or None n h = refl
sent-or (Some k) n h = rw (ne_eqb k 0 (λ z. omega arith)) refl

told-astray : (b : Box) (room : Text) (q : Place) → q.stage ≡ Differing → Counted q.sent → told (at b room q) ≡ astray q room
unfolding report_of
told-astray b room q e h = rw e (ap (λ (n : ℕ). differs n q.number (take q.waiting room)) (sent-or q.sent q.number h))

stop-astray : (b : Box) (room : Text) (q : Place) (t : Text) → q.stage ≡ Differing → Counted q.sent → outcome (at b room q) t ≡ astray q room
stop-astray b room q t e h = stop-outcome (at b room q) t (ap at_rest e) ∙ told-astray b room q e h

-- ---- at the end of the bytes

end_fresh : (b : Box) (room : Text) (q : Place) → q.stage ≡ Fresh → 0 < length room
    → told (at b room q) ≡ marked (known b room q) (suc q.number) []
unfolding report_of marked if◌then◌otherwise◌
end_fresh b room q e some = go (eqb q.waiting 0) refl
  where
    go : (t : Bool) → eqb q.waiting 0 ≡ t → told (at b room q) ≡ marked (known b room q) (suc q.number) []
    go true f = rw (e, f, front-empty room q.waiting some, f)
    go false f = rw (e, f, front-empty room q.waiting some, f, add-one q.number)

-- ---- a line that is sent

-- its newline: the answer stands in the room
module _ (b : Box) (room : Text) (q : Place) (some : 0 < length room) where
  abbrev a : Text
  a = answer_to b []

  abbrev room' : Text
  room' = a ++ drop (length a) room

  abbrev sent' : Place
  sent' = place_sent q (length a) true

  sent-newline : part_sent (at b room q) (10 ∷ []) true ≡ at (heard_line b (10 ∷ [])) room' sent'
  unfolding part_sent
  sent-newline = refl

  sent-some : 0 < length room'
  sent-some = rw (length-append a (drop (length a) room), length-drop (length a) room) (omega arith)

  sent-holds : sent'.waiting ≤ length room'
  unfolding place_sent
  sent-holds = rw length-append (omega arith)

  sent-known : known (heard_line b (10 ∷ [])) room' sent' ≡ after_sent b q []
  unfolding place_sent
  sent-known = ap (λ (t : Text). record { box = heard_line b (10 ∷ []); sent = last_sent q; answer = t }) (take-append_seam a (drop (length a) room))

-- the end of the bytes ends it
sending-end : SendingSays []
unfolding fed line_left lines_left if◌then◌otherwise◌ place_sent
sending-end b room q quiet e some asked counted =
    let one : closed (at b room q) ≡ at (heard_line b (10 ∷ [])) (room' b room q some) (sent' b room q some) =
    closed-open (at b room q) (ap left_open e) ∙ byte-sending (at b room q) 10 e ∙ sent-newline b room q some in
    ap told one ∙ end_fresh _ (room' b room q some) (sent' b room q some) refl (sent-some b room q some)
    ∙ ap (λ (k : Marking). marked k (suc q.number) []) (sent-known b room q some)

sending-step : (x : ℕ) (xs : Text) → Bridge xs → SendingSays (x ∷ xs)
unfolding fed line_left lines_left if◌then◌otherwise◌ happens piece place_sent
sending-step x xs ih b room q quiet e some asked counted = go (eqb x 10) refl
  where
    go : (t : Bool) → eqb x 10 ≡ t
        → outcome (at b room q) (x ∷ xs) ≡ marked (after_sent b q (if t then [] otherwise x ∷ line_left xs)) (suc q.number) (if t then lines_of xs otherwise lines_left xs)
    go true f =
        let one : byte_read (at b room q) x ≡ at (heard_line b (10 ∷ [])) (room' b room q some) (sent' b room q some) =
        byte-sending (at b room q) x e ∙ ap (λ (n : ℕ). part_sent (at b room q) (n ∷ []) (eqb n 10)) (eqb-true x 10 f) ∙ sent-newline b room q some in
        let roomy : Roomy (room' b room q some) (sent' b room q some) =
        record { holds = sent-holds b room q some; some = sent-some b room q some; asked = λ z. absurd (asked z); counted = counted } in
        ap (λ (r : Progress). outcome r xs) one
        ∙ ih.fresh (heard_line b (10 ∷ [])) (room' b room q some) (sent' b room q some) refl refl roomy
        ∙ ap (λ (k : Marking). marked k (suc q.number) (lines_of xs)) (sent-known b room q some)
    go false f =
        let one : byte_read (at b room q) x ≡ at (byte b x) room (place_sent q 0 false) =
        byte-sending (at b room q) x e ∙ ap (λ (t : Bool). part_sent (at b room q) (x ∷ []) t) f ∙ part-byte (at b room q) x f quiet in
        ap (λ (r : Progress). outcome r xs) one ∙ ih.sending (byte b x) room (place_sent q 0 false) (plain-answer b x f ∙ quiet) e some asked counted

-- ---- an answer that is recorded

same_none : (l : Text) → same l [] ≡ eqb (length l) 0
unfolding same
same_none [] = refl
same_none (x ∷ l) = sym (ne_eqb (length (x ∷ l)) 0 (λ z. omega arith))

-- what is left of the answer to find
module _ (room : Text) (q : Place) (n : ℕ) (holds : q.waiting ≤ length room) where
  abbrev to-find : Text
  to-find = drop n (take q.waiting room)

  abbrev further : Text
  further = drop (n + 1) (take q.waiting room)

  same_more : (x : ℕ) (ys : Text) → same to-find (x ∷ ys) ≡ (goes_on q n room x && same further ys)
  unfolding same
  same_more x ys = go (ltb n q.waiting) refl
    where
      go : (t : Bool) → ltb n q.waiting ≡ t → same to-find (x ∷ ys) ≡ ((t && eqb (get_or room n 0) x) && same further ys)
      go true e = rw (find-more room q n holds (ltb-true n q.waiting e))
      go false e = rw (find_none room q n holds (ltb-false n q.waiting e))

  -- a byte that isn't the newline: it is the next one, or whatever comes differs
  data Next (x : ℕ) : Type 0 where
    agrees : place_found q n room x ≡ found_so q (Finding (n + 1)) q.waiting → ((ys : Text) → same to-find (x ∷ ys) ≡ same further ys) → Next x
    strays : place_found q n room x ≡ found_so q Differing q.waiting → ((ys : Text) → same to-find (x ∷ ys) ≡ false) → Next x

  next : (x : ℕ) → (x ≡ 10 → ⊥) → Next x
  next x plain = go (goes_on q n room x) refl
    where
      go : (t : Bool) → goes_on q n room x ≡ t → Next x
      go true e = agrees (found-next q n room x e plain) (λ ys. same_more x ys ∙ ap (λ (t : Bool). t && same further ys) e)
      go false e = strays (found-other q n room x e) (λ ys. same_more x ys ∙ ap (λ (t : Bool). t && same further ys) e)

  -- the newline: both end, or they differ
  data Last : Type 0 where
    both : place_found q n room 10 ≡ found_so q Fresh 0 → same to-find (10 ∷ []) ≡ true → Last
    other : place_found q n room 10 ≡ found_so q Differing q.waiting → same to-find (10 ∷ []) ≡ false → Last

  further-none : same further [] ≡ eqb (q.waiting - (n + 1)) 0
  further-none = same_none further ∙ rw (length-drop (n + 1) (take q.waiting room), long room q n holds)

  last : Last
  last = go (goes_on q n room 10) refl (eqb (n + 1) q.waiting) refl
    where
      go : (t : Bool) → goes_on q n room 10 ≡ t → (u : Bool) → eqb (n + 1) q.waiting ≡ u → Last
      go false e u k = other (found-other q n room 10 e) (same_more 10 [] ∙ ap (λ (t : Bool). t && same further []) e)
      go true e true k =
          let z = eqb-true (n + 1) q.waiting k in
          both (found_all q n room 10 e refl z)
          (same_more 10 [] ∙ ap (λ (t : Bool). t && same further []) e ∙ further-none ∙ eq-eqb (q.waiting - (n + 1)) 0 (omega arith))
      go true e false k =
          let h = ltb-true n q.waiting (and_both (ltb n q.waiting) (eqb (get_or room n 0) 10) e).0 in
          let z = eqb-false (n + 1) q.waiting k in
          other (found-long q n room 10 e refl z)
          (same_more 10 [] ∙ ap (λ (t : Bool). t && same further []) e ∙ further-none ∙ ne_eqb (q.waiting - (n + 1)) 0 (λ y. omega arith))

-- the place after an answer was found, and after it wasn't
module _ (b : Box) (room : Text) (q : Place) (n : ℕ) (h : Roomy room q) where
  abbrev left : Text
  left = drop n (take q.waiting room)

  -- its newline, and the bytes after it: as they are read, or none
  newline-says : (xs : Text) → FreshSays xs → b.core.answer ≡ []
      → outcome (placed (at b room q) (place_found q n room 10)) xs
      ≡ (if same left (10 ∷ []) then marked (after_answer b q) (suc q.number) (lines_of xs) otherwise astray q room)
  unfolding if◌then◌otherwise◌
  newline-says xs ih quiet = go (last room q n h.holds)
    where
      go : Last room q n h.holds
          → outcome (placed (at b room q) (place_found q n room 10)) xs
          ≡ (if same left (10 ∷ []) then marked (after_answer b q) (suc q.number) (lines_of xs) otherwise astray q room)
      go (both e f) =
          rw f (ap (λ (r : Place). outcome (at b room r) xs) e
          ∙ ih b room (found_so q Fresh 0) quiet refl (record { holds = zero-le; some = h.some; asked = λ _. refl; counted = h.counted }))
      go (other e f) =
          rw f (ap (λ (r : Place). outcome (at b room r) xs) e ∙ stop-astray b room (found_so q Differing q.waiting) xs refl h.counted)

  -- after a newline no line is left open
  told-closed : told (placed (at b room q) (place_found q n room 10)) ≡ told (closed (placed (at b room q) (place_found q n room 10)))
  told-closed = go (last room q n h.holds)
    where
      go : Last room q n h.holds → told (placed (at b room q) (place_found q n room 10)) ≡ told (closed (placed (at b room q) (place_found q n room 10)))
      go (both e f) = rw e (ap told (sym (closed-no (at b room (found_so q Fresh 0)) refl)))
      go (other e f) = rw e (ap told (sym (closed-no (at b room (found_so q Differing q.waiting)) refl)))

finding-end : FreshSays [] → FindingSays []
unfolding fed line_left lines_left lines_of if◌then◌otherwise◌
finding-end ih b room q n quiet e h =
    let one : closed (at b room q) ≡ placed (at b room q) (place_found q n room 10) = closed-open (at b room q) (ap left_open e) ∙ byte-finding (at b room q) 10 e in
    ap told one ∙ told-closed b room q n h ∙ newline-says b room q n h [] ih quiet

finding-step : (x : ℕ) (xs : Text) → Bridge xs → FindingSays (x ∷ xs)
unfolding fed line_left lines_left if◌then◌otherwise◌
finding-step x xs ih b room q n quiet e h = go (eqb x 10) refl
  where
    go : (t : Bool) → eqb x 10 ≡ t
        → outcome (at b room q) (x ∷ xs)
        ≡ (if same (drop n (take q.waiting room)) ((if t then [] otherwise x ∷ line_left xs) ++ 10 ∷ [])
        then marked (after_answer b q) (suc q.number) (if t then lines_of xs otherwise lines_left xs) otherwise astray q room)
    go true f =
        let one : byte_read (at b room q) x ≡ placed (at b room q) (place_found q n room 10) =
        byte-finding (at b room q) x e ∙ ap (λ (y : ℕ). placed (at b room q) (place_found q n room y)) (eqb-true x 10 f) in
        ap (λ (r : Progress). outcome r xs) one ∙ newline-says b room q n h xs ih.fresh quiet
    go false f = more (next room q n h.holds x (eqb-false x 10 f))
      where
        more : Next room q n h.holds x
            → outcome (at b room q) (x ∷ xs)
            ≡ (if same (drop n (take q.waiting room)) (x ∷ (line_left xs ++ 10 ∷ [])) then marked (after_answer b q) (suc q.number) (lines_left xs) otherwise astray q room)
        more (agrees g s) =
            rw (s (line_left xs ++ 10 ∷ [])) (ap (λ (r : Progress). outcome r xs) (byte-finding (at b room q) x e ∙ ap (λ (r : Place). at b room r) g)
            ∙ ih.finding b room (found_so q (Finding (n + 1)) q.waiting) (n + 1) quiet refl (record { holds = h.holds; some = h.some; asked = h.asked; counted = h.counted }))
        more (strays g s) =
            rw (s (line_left xs ++ 10 ∷ [])) (ap (λ (r : Progress). outcome r xs) (byte-finding (at b room q) x e ∙ ap (λ (r : Place). at b room r) g)
            ∙ stop-astray b room (found_so q Differing q.waiting) xs refl h.counted)

-- ---- the first byte of a line

fresh-end : FreshSays []
unfolding fed lines_of
fresh-end b room q quiet e h = ap told (closed-no (at b room q) (ap left_open e)) ∙ end_fresh b room q e h.some

module _ (x : ℕ) (xs : Text) (ih : Bridge xs) (b : Box) (room : Text) (q : Place) (quiet : b.core.answer ≡ []) (e : q.stage ≡ Fresh) (h : Roomy room q) where
  abbrev k : Marking
  k = known b room q

  abbrev going : Marking → Verdict
  going j = marked j (suc (suc q.number)) (lines_left xs)

  -- the verdict on the lines, by the first of them
  line-verdict : eqb x 10 ≡ false → marked k (suc q.number) (lines_of (x ∷ xs)) ≡ next_line going (line_read k (suc q.number) (x ∷ line_left xs))
  unfolding marked
  line-verdict f =
      let s = split xs x f in
      ap (λ (ls : List Text). marked k (suc q.number) ls) s.lines ∙ ap (λ (t : Text). next_line going (line_read k (suc q.number) t)) s.is

  begins : (r : Place) → line_begun q x ≡ r → outcome (at b room q) (x ∷ xs) ≡ outcome (at b room r) xs
  unfolding fed
  begins r f = ap (λ (p : Progress). outcome p xs) (byte-fresh (at b room q) x e ∙ ap (λ (y : Place). at b room y) f)

  plain-first : (c : ℕ) → x ≡ c → (c ≡ 10 → ⊥) → eqb x 10 ≡ false
  plain-first c f n = ne_eqb x 10 (λ z. n (sym f ∙ z))

  fresh-answer : x ≡ 60 → outcome (at b room q) (x ∷ xs) ≡ marked k (suc q.number) (lines_of (x ∷ xs))
  unfolding line_read if◌then◌otherwise◌
  fresh-answer f =
      begins (begun_at q (Finding 0) q.sent) (begun-answer q x f)
      ∙ ih.finding b room (begun_at q (Finding 0) q.sent) 0 quiet refl (record { holds = h.holds; some = h.some; asked = h.asked; counted = h.counted })
      ∙ rw (add-one q.number) (go (same (take q.waiting room) (line_left xs ++ 10 ∷ [])) refl)
      ∙ sym (line-verdict (plain-first 60 f (λ z. omega arith)))
    where
      go : (t : Bool) → same (take q.waiting room) (line_left xs ++ 10 ∷ []) ≡ t
          → (if same (take q.waiting room) (line_left xs ++ 10 ∷ []) then going (after_answer b q)
          otherwise differs (if eqb (last_sent q) 0 then suc q.number otherwise last_sent q) (suc q.number) (take q.waiting room))
          ≡ next_line going (line_read k (suc q.number) (x ∷ line_left xs))
      go true g = rw (f, g)
      go false g = rw (f, g)

  fresh-sent : x ≡ 62 → (t : Bool) → eqb q.waiting 0 ≡ t → outcome (at b room q) (x ∷ xs) ≡ marked k (suc q.number) (lines_of (x ∷ xs))
  unfolding line_read if◌then◌otherwise◌
  fresh-sent f true g =
      let z = eqb-true q.waiting 0 g in
      begins (begun_at q Sending (Some (q.number + 1))) (begun-sent q x f z)
      ∙ ih.sending b room (begun_at q Sending (Some (q.number + 1))) quiet refl h.some (λ y. omega arith) (omega arith)
      ∙ rw (add-one q.number, f, z) refl
      ∙ sym (line-verdict (plain-first 62 f (λ y. omega arith)))
  fresh-sent f false g =
      let z = eqb-false q.waiting 0 g in
      let s : last_sent q ≡ 0 → ⊥ = λ y. z (h.asked y) in
      begins (begun_at q Differing q.sent) (begun-early q x f z)
      ∙ stop-astray b room (begun_at q Differing q.sent) xs refl h.counted
      ∙ rw (ne_eqb (last_sent q) 0 s, add-one q.number, f, front-empty room q.waiting h.some, g) refl
      ∙ sym (line-verdict (plain-first 62 f (λ y. omega arith)))

  told-broken : told (at b room (begun_at q Stopped q.sent)) ≡ broken (suc q.number)
  unfolding report_of
  told-broken = rw (add-one q.number) refl

  fresh-broken : (x ≡ 60 → ⊥) → (x ≡ 62 → ⊥) → marked k (suc q.number) (lines_of (x ∷ xs)) ≡ broken (suc q.number)
      → outcome (at b room q) (x ∷ xs) ≡ marked k (suc q.number) (lines_of (x ∷ xs))
  fresh-broken n m is =
      begins (begun_at q Stopped q.sent) (begun-broken q x n m)
      ∙ stop-outcome (at b room (begun_at q Stopped q.sent)) xs refl
      ∙ told-broken ∙ sym is

  -- an empty line, and one with another first byte
  lines-broken : (x ≡ 60 → ⊥) → (x ≡ 62 → ⊥) → (t : Bool) → eqb x 10 ≡ t → marked k (suc q.number) (lines_of (x ∷ xs)) ≡ broken (suc q.number)
  unfolding lines_of marked line_read if◌then◌otherwise◌
  lines-broken n m true f = rw (f, f)
  lines-broken n m false f = line-verdict f ∙ rw (ne_eqb x 62 m, ne_eqb x 60 n)

  fresh_step : outcome (at b room q) (x ∷ xs) ≡ marked k (suc q.number) (lines_of (x ∷ xs))
  fresh_step = go (eqb x 60) refl (eqb x 62) refl
    where
      go : (s : Bool) → eqb x 60 ≡ s → (t : Bool) → eqb x 62 ≡ t → outcome (at b room q) (x ∷ xs) ≡ marked k (suc q.number) (lines_of (x ∷ xs))
      go true f t g = fresh-answer (eqb-true x 60 f)
      go false f true g = fresh-sent (eqb-true x 62 g) (eqb q.waiting 0) refl
      go false f false g =
          let n = eqb-false x 60 f in
          let m = eqb-false x 62 g in
          fresh-broken n m (lines-broken n m (eqb x 10) refl)

-- ---- all bytes

bridge : (t : Text) → Bridge t
bridge [] = record { fresh = fresh-end; sending = sending-end; finding = finding-end fresh-end }
bridge (x ∷ xs) = let ih = bridge xs in record { fresh = λ b room q quiet e h. fresh_step x xs ih b room q quiet e h; sending = sending-step x xs ih; finding = finding-step x xs ih }

pub session-verdict : (b : Box) (room session : Text) → b.core.answer ≡ [] → 0 < length room
    → let p = closed (fed (record { box = b; room = room; place = at_start }) session) in
    verdict_of (report_at p.place) p.room ≡ marked (record { box = b; sent = 0; answer = [] }) 1 (lines_of session)
session-verdict b room session quiet some =
    (bridge session).fresh b room at_start quiet refl (record { holds = zero-le; some = some; asked = λ _. refl; counted = tt {0} })
