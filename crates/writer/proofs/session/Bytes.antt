-- Bytes of a session, one at a time: pieces one after the other are the whole, a part of a line that is sent does what its bytes do, and after the
-- marker has stopped nothing counts.
use mathlib.Core.Path.{◌≡◌, refl, sym, ◌∙◌, ap}
use mathlib.Core.Bool.{Bool, true, false, ◌&&◌, false≢true}
use Rattle.std.specs.Prelude.{Some, None, cond, position, ◌==◌}
use Rattle.std.specs.List.{position_or_len, ends_with}
use Rattle.std.proofs.lemmas.List.Recursion.{is_position_or_len}
use mathlib.Core.List.{[], ◌∷◌, ◌++◌, append-nil}
use Prim.Native.Nat.{ℕ, zero, suc, ◌+◌, ◌-◌, ◌≤◌, ◌<◌}
use native.Mathlib.Numerals.{add-one}
use native.Mathlib.Omega.{arith}
use lib.Dec.{eqb, ltb, leb-suc-suc}
use lib.ListN.{length, take, drop, get_or, length-take, drop_of_length-le, take-append-drop}
use lib.Pointwise.{pointwise}
use lib.Seq.{drop-cons, get_or-take}
use borrow.Author.Tests.{eq-eqb, ne_eqb, lt-ltb, ltb-true, ltb-false, eqb-true, eqb-false}
use Rattle.registers.specs.Text.{index_of, index_after}
use Rattle.registers.specs.Text.{Text, if◌then◌otherwise◌}
use Rattle.interpreter.specs.Box.{Core, Box, answer_is, most_line}
use Rattle.interpreter.specs.Line.{held, byte, piece}
use Rattle.interpreter.specs.Events.{happens}
use Rattle.interpreter.specs.FlowParts.{first_line}
use Rattle.interpreter.proofs.Choices.{if-elim}
use Rattle.writer.specs.Marking.{Progress, line_begun, place_sent, part_sent, place_found, begun_at, found_so, placed, byte_at, byte_read, fed, left_open, closed}
use Rattle.writer.specs.declared.session.Stage.{Stage}
use Rattle.writer.specs.declared.session.Stage.TheVariants.{Fresh, Sending, Finding, Differing, Stopped}
use Rattle.writer.specs.declared.session.Place.{Place}

pub fed-append : (p : Progress) (xs ys : Text) → fed p (xs ++ ys) ≡ fed (fed p xs) ys
unfolding fed
fed-append p [] ys = refl
fed-append p (x ∷ xs) ys = fed-append (byte_read p x) xs ys

take-whole : (l : Text) (n : ℕ) → length l ≤ n → l ≡ take n l
take-whole l n h = sym (take-append-drop n l) ∙ rw (drop_of_length-le l h) (append-nil (take n l))

-- the first byte, and those behind it
pub fed-first : (p : Progress) (l : Text) → 1 ≤ length l → fed p l ≡ fed (byte_read p (get_or l 0 0)) (take (length l - 1) (drop 1 l))
unfolding fed
fed-first p [] h = absurd (omega arith)
fed-first p (x ∷ xs) h = ap (λ (t : Text). fed (byte_read p x) t) (take-whole xs (length (x ∷ xs) - 1) (omega arith))

-- ---- the stages

module _ (p : Progress) (x : ℕ) where
  pub byte-fresh : p.place.stage ≡ Fresh → byte_read p x ≡ placed p (line_begun p.place x)
  unfolding byte_at
  byte-fresh e = ap (λ (s : Stage). byte_at s p x) e

  pub byte-sending : p.place.stage ≡ Sending → byte_read p x ≡ part_sent p (x ∷ []) (eqb x 10)
  unfolding byte_at
  byte-sending e = ap (λ (s : Stage). byte_at s p x) e

  pub byte-finding : {n : ℕ} → p.place.stage ≡ Finding n → byte_read p x ≡ placed p (place_found p.place n p.room x)
  unfolding byte_at
  byte-finding e = ap (λ (s : Stage). byte_at s p x) e

-- by a line that differs or by a broken one
abbrev pub at_rest : Stage → Bool
at_rest Fresh = false
at_rest Sending = false
at_rest (Finding n) = false
at_rest Differing = true
at_rest Stopped = true

byte-rest : (s : Stage) (p : Progress) (x : ℕ) → at_rest s ≡ true → byte_at s p x ≡ p
unfolding byte_at
byte-rest Fresh p x e = absurd (false≢true e)
byte-rest Sending p x e = absurd (false≢true e)
byte-rest (Finding n) p x e = absurd (false≢true e)
byte-rest Differing p x e = refl
byte-rest Stopped p x e = refl

pub fed-rest : (p : Progress) (xs : Text) → at_rest p.place.stage ≡ true → fed p xs ≡ p
unfolding fed
fed-rest p [] e = refl
fed-rest p (x ∷ xs) e = ap (λ (q : Progress). fed q xs) (byte-rest p.place.stage p x e) ∙ fed-rest p xs e

-- a newline closes a line that is left open
module _ (p : Progress) where
  pub closed-open : left_open p.place.stage ≡ true → closed p ≡ byte_read p 10
  unfolding closed if◌then◌otherwise◌
  closed-open e = rw e

  pub closed-no : left_open p.place.stage ≡ false → closed p ≡ p
  unfolding closed if◌then◌otherwise◌
  closed-no e = rw e

-- ---- what is sent

pub plain-answer : (b : Box) (x : ℕ) → eqb x 10 ≡ false → (byte b x).core.answer ≡ b.core.answer
unfolding byte held if◌then◌otherwise◌
plain-answer b x e =
    rw e (if-elim (λ (c : Core). c.answer ≡ b.core.answer) (ltb (length b.core.line) most_line) (λ _. refl) (λ _. refl))

-- a byte that doesn't end its line is held and answers nothing
pub part-byte : (p : Progress) (x : ℕ) → eqb x 10 ≡ false → p.box.core.answer ≡ []
    → part_sent p (x ∷ []) false ≡ record { box = byte p.box x; room = p.room; place = place_sent p.place 0 false }
unfolding part_sent happens piece
part-byte p x e quiet =
    let none = plain-answer p.box x e ∙ quiet in
    let is : answer_is [] (byte p.box x) ≡ byte p.box x = ap (λ (a : Text). answer_is a (byte p.box x)) (sym none) in
    rw (none, is)

-- and so the line's other bytes come after it
part-more : (p : Progress) (x : ℕ) (xs : Text) (ended : Bool)
    → part_sent (record { box = byte p.box x; room = p.room; place = place_sent p.place 0 false }) xs ended ≡ part_sent p (x ∷ xs) ended
unfolding part_sent happens piece place_sent if◌then◌otherwise◌
part-more p x xs ended = refl

-- ---- the line that goes on at the start of a text: its first byte, and whether it ends there

pub first-none : first_line [] ≡ []
unfolding first_line index_of
first-none = refl

front-again : (k : ℕ) (l : Text) → take (length (take k l)) l ≡ take k l
front-again zero l = refl
front-again (suc k) [] = refl
front-again (suc k) (x ∷ l) = ap (λ (t : Text). x ∷ t) (front-again k l)

pub first-front : (l : Text) → take (length (first_line l)) l ≡ first_line l
unfolding first_line
first-front l = front-again (index_of 10 l + 1) l

pub first_some : (l : Text) → 0 < length l → 0 < length (first_line l)
unfolding first_line
first_some l h = rw length-take (omega arith)

pub first-within : (l : Text) → length (first_line l) ≤ length l
unfolding first_line
first-within l = rw length-take (omega arith)

pub first_ends : (x : ℕ) (xs : Text) → eqb x 10 ≡ true → first_line (x ∷ xs) ≡ x ∷ []
unfolding first_line index_of index_after
first_ends x xs e = rw e

pub first_more : (x : ℕ) (xs : Text) → eqb x 10 ≡ false → first_line (x ∷ xs) ≡ x ∷ first_line xs
unfolding first_line index_of index_after
first_more x xs e = rw (e, add-one (suc (index_of 10 xs)), add-one (index_of 10 xs))

-- the place of the first newline, as the code finds it
index-place : (l : Text) → index_of 10 l ≡ position_or_len (λ b. b == 10) l
unfolding index_of index_after
index-place l = is_position_or_len (index_of 10) (λ b. b == 10) refl (λ x xs. go (eqb x 10) xs) l
  where
    go : (t : Bool) (xs : Text) → index_after t (index_of 10 xs) ≡ cond t 0 (1 + index_of 10 xs)
    go true xs = refl
    go false xs = omega arith

pub cut-there : (l : Text) (i : ℕ) → Some i ≡ position (λ b. b == 10) l → (take (i + 1) l ≡ first_line l) × (drop (i + 1) l ≡ drop (length (first_line l)) l) × (i < length l)
unfolding first_line
cut-there l i e = go (ltb (position_or_len (λ b. b == 10) l) (length l)) refl
  where
    go : (t : Bool) → ltb (position_or_len (λ b. b == 10) l) (length l) ≡ t
        → (take (i + 1) l ≡ take (index_of 10 l + 1) l) × (drop (i + 1) l ≡ drop (length (take (index_of 10 l + 1) l)) l) × (i < length l)
    go true h =
        let s : Some i ≡ Some (position_or_len (λ b. b == 10) l) = rw h at e in
        let is : i ≡ position_or_len (λ b. b == 10) l = cc in
        let k = ltb-true _ _ h in
        let z : length (take (index_of 10 l + 1) l) ≡ i + 1 = rw (index-place l, length-take) (omega arith) in
        (rw (index-place l, is) refl, rw z refl, omega arith)
    go false h = let s : Some i ≡ None = rw h at e in absurd (cc)

pub cut-none : (l : Text) → None ≡ position (λ b. b == 10) l → (l ≡ first_line l) × ([] ≡ drop (length (first_line l)) l)
unfolding first_line
cut-none l e = go (ltb (position_or_len (λ b. b == 10) l) (length l)) refl
  where
    go : (t : Bool) → ltb (position_or_len (λ b. b == 10) l) (length l) ≡ t → (l ≡ take (index_of 10 l + 1) l) × ([] ≡ drop (length (take (index_of 10 l + 1) l)) l)
    go true h = let s : None ≡ Some (position_or_len (λ b. b == 10) l) = rw h at e in absurd (cc)
    go false h =
        let k = ltb-false _ _ h in
        let w : l ≡ take (index_of 10 l + 1) l = rw (index-place l) (take-whole l _ (omega arith)) in
        (w, rw (← w) (sym (drop_of_length-le l {i = length l} (omega arith))))

abbrev pub ends : Text → Bool
ends l = ltb (index_of 10 l) (length l)

ends-here : (x : ℕ) (xs : Text) → eqb x 10 ≡ true → ends (x ∷ xs) ≡ true
unfolding index_of index_after
ends-here x xs e = rw e (lt-ltb 0 (length (x ∷ xs)) (omega arith))

ends_more : (x : ℕ) (xs : Text) → eqb x 10 ≡ false → ends (x ∷ xs) ≡ ends xs
unfolding index_of index_after
ends_more x xs e = rw e (leb-suc-suc (suc (index_of 10 xs)) (length xs))

last-more : (x : ℕ) (l : Text) → 0 < length l → ends_with eqb (x ∷ l) (10 ∷ []) ≡ ends_with eqb l (10 ∷ [])
last-more x [] h = absurd (omega arith)
last-more x (y ∷ l) h =
    let e : length (x ∷ y ∷ l) - 1 ≡ suc (length l) = omega arith in
    let f : length (y ∷ l) - 1 ≡ length l = omega arith in
    ap (λ (k : ℕ). pointwise eqb (10 ∷ []) (drop k (x ∷ y ∷ l))) e ∙ sym (ap (λ (k : ℕ). pointwise eqb (10 ∷ []) (drop k (y ∷ l))) f)

-- as the end of the line tells
pub ends-part : (l : Text) → ends_with eqb (first_line l) (10 ∷ []) ≡ ends l
unfolding index_of
ends-part [] = rw first-none refl
ends-part (x ∷ xs) = go (eqb x 10) refl xs refl (ends-part xs)
  where
    go : (t : Bool) → eqb x 10 ≡ t → (ys : Text) → xs ≡ ys → ends_with eqb (first_line xs) (10 ∷ []) ≡ ends xs
        → ends_with eqb (first_line (x ∷ xs)) (10 ∷ []) ≡ ends (x ∷ xs)
    go true e ys is more = rw (first_ends x xs e, ends-here x xs e, eqb-true x 10 e) refl
    go false e [] is more = rw (first_more x xs e, ends_more x xs e, is, first-none, ne_eqb 10 x (λ z. eqb-false x 10 e (sym z))) refl
    go false e (y ∷ ys) is more =
        let s : 0 < length (first_line xs) = first_some xs (rw is (omega arith)) in
        rw (first_more x xs e, ends_more x xs e) (last-more x (first_line xs) s ∙ more)

-- it is sent at once
pub fed-sent : (l : Text) (p : Progress) → 0 < length l → p.place.stage ≡ Sending → p.box.core.answer ≡ []
    → fed p (first_line l) ≡ part_sent p (first_line l) (ends l)
unfolding fed place_sent if◌then◌otherwise◌ index_of
fed-sent [] p h s quiet = absurd (omega arith)
fed-sent (x ∷ xs) p h s quiet = go (eqb x 10) refl xs refl (λ q k t n. fed-sent xs q k t n)
  where
    go : (t : Bool) → eqb x 10 ≡ t → (ys : Text) → xs ≡ ys
        → ((q : Progress) → 0 < length xs → q.place.stage ≡ Sending → q.box.core.answer ≡ [] → fed q (first_line xs) ≡ part_sent q (first_line xs) (ends xs))
        → fed p (first_line (x ∷ xs)) ≡ part_sent p (first_line (x ∷ xs)) (ends (x ∷ xs))
    go true e ys is more = rw (first_ends x xs e, ends-here x xs e) (byte-sending p x s ∙ ap (λ (t : Bool). part_sent p (x ∷ []) t) e)
    go false e [] is more =
        rw (first_more x xs e, ends_more x xs e, is, first-none) (byte-sending p x s ∙ ap (λ (t : Bool). part_sent p (x ∷ []) t) e)
    go false e (y ∷ ys) is more =
        let n : 0 < length xs = rw is (omega arith) in
        let r : Progress = record { box = byte p.box x; room = p.room; place = place_sent p.place 0 false } in
        let here : byte_read p x ≡ r = byte-sending p x s ∙ ap (λ (t : Bool). part_sent p (x ∷ []) t) e ∙ part-byte p x e quiet in
        let on = more r n s (plain-answer p.box x e ∙ quiet) in
        rw (first_more x xs e, ends_more x xs e) (ap (λ (k : Progress). fed k (first_line xs)) here ∙ on ∙ part-more p x (first_line xs) (ends xs))

-- ---- what the small functions leave

module _ (q : Place) (x : ℕ) where
  pub begun-answer : x ≡ 60 → line_begun q x ≡ begun_at q (Finding 0) q.sent
  unfolding line_begun if◌then◌otherwise◌
  begun-answer e = rw e

  pub begun-broken : (x ≡ 60 → ⊥) → (x ≡ 62 → ⊥) → line_begun q x ≡ begun_at q Stopped q.sent
  unfolding line_begun if◌then◌otherwise◌
  begun-broken a b = rw (ne_eqb x 60 a, ne_eqb x 62 b)

  pub begun-early : x ≡ 62 → (q.waiting ≡ 0 → ⊥) → line_begun q x ≡ begun_at q Differing q.sent
  unfolding line_begun if◌then◌otherwise◌
  begun-early e w = rw (e, ne_eqb q.waiting 0 w)

  pub begun-sent : x ≡ 62 → q.waiting ≡ 0 → line_begun q x ≡ begun_at q Sending (Some (q.number + 1))
  unfolding line_begun if◌then◌otherwise◌
  begun-sent e w = rw (e, eq-eqb q.waiting 0 w)

module _ (q : Place) (n : ℕ) (room : Text) (x : ℕ) where
  -- the box's answer goes on with the byte
  abbrev pub goes_on : Bool
  goes_on = ltb n q.waiting && eqb (get_or room n 0) x

  module _ (h : goes_on ≡ true) where
    pub found-next : (x ≡ 10 → ⊥) → place_found q n room x ≡ found_so q (Finding (n + 1)) q.waiting
    unfolding place_found if◌then◌otherwise◌
    found-next m = rw (h, ne_eqb x 10 m)

    pub found_all : x ≡ 10 → n + 1 ≡ q.waiting → place_found q n room x ≡ found_so q Fresh 0
    unfolding place_found if◌then◌otherwise◌
    found_all m w = rw (h, eq-eqb x 10 m, eq-eqb (n + 1) q.waiting w)

    pub found-long : x ≡ 10 → (n + 1 ≡ q.waiting → ⊥) → place_found q n room x ≡ found_so q Differing q.waiting
    unfolding place_found if◌then◌otherwise◌
    found-long m w = rw (h, eq-eqb x 10 m, ne_eqb (n + 1) q.waiting w)

  pub found-other : goes_on ≡ false → place_found q n room x ≡ found_so q Differing q.waiting
  unfolding place_found if◌then◌otherwise◌
  found-other h = rw h

-- what is left of the answer to find
module _ (room : Text) (q : Place) (n : ℕ) (holds : q.waiting ≤ length room) where
  pub long : length (take q.waiting room) ≡ q.waiting
  long = rw length-take (omega arith)

  pub find-more : n < q.waiting → drop n (take q.waiting room) ≡ get_or room n 0 ∷ drop (n + 1) (take q.waiting room)
  find-more h =
      let l = long in
      rw (drop-cons (take q.waiting room) n 0 (omega arith), get_or-take q.waiting room n 0 h, ← add-one n)

  pub find_none : q.waiting ≤ n → drop n (take q.waiting room) ≡ []
  find_none h = let l = long in drop_of_length-le (take q.waiting room) {i = n} (omega arith)
