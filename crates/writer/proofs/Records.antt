-- 02, #114: a session whose lines all agree is a right record; one that differs is right up to the line that is named, and wrong behind it.
-- By induction over the lines that are left, with the answer that is still to be found.
use mathlib.Core.Path.{◌≡◌, refl, sym, ◌∙◌, ap, ap₂, subst}
use mathlib.Core.Bool.{Bool, true, false, false≢true}
use mathlib.Core.List.{List, [], ◌∷◌, ◌++◌, map, append_assoc, nil≢cons, head-eq_of_cons-eq, tail-eq_of_cons-eq}
use Prim.Native.Nat.{ℕ, suc, ◌+◌, ◌≤◌}
use native.Mathlib.Omega.{arith}
use lib.Dec.{eqb}
use lib.ListN.{length, length-append}
use borrow.Author.Tests.{eqb-true, eqb-false, ne_eqb}
use Rattle.registers.specs.Text.{Text, if◌then◌otherwise◌, empty, first, rest, same}
use Rattle.interpreter.specs.Cuts.{front}
use Rattle.interpreter.specs.Box.{Core, Box, box, with_line}
use Rattle.interpreter.specs.Line.{finished, run_line, end_line, byte, piece}
use Rattle.interpreter.specs.Events.{happens}
use Rattle.interpreter.specs.Server.{lines_of, heard_line}
use Rattle.interpreter.proofs.Choices.{if-elim}
use Rattle.interpreter.proofs.Lists.{same-eq, same_refl, is-empty}
use Rattle.interpreter.proofs.demands.Demand2.{demand2}
use Rattle.writer.specs.Session.{at_power_up, Marking, Verdict, agree, differs, broken, goes, stops, line_sent, answer_read, line_read, bare, next_line, marked, as_recorded, answer_to, record_of, NoAnswer, RightBehind, heard_lines, Astray, AgreeingIsRight, RightIsAgreeing, DifferingIsAstray, BrokenIsBroken, MarksRight}
use Rattle.writer.proofs.OneLine.{discard-core}

-- ---- texts

front_of : (t : Text) (x : ℕ) → front (t ++ x ∷ []) ≡ t
unfolding if◌then◌otherwise◌
front_of [] x = refl
front_of (b ∷ []) x = refl
front_of (b ∷ c ∷ t) x = ap (λ (y : Text). b ∷ y) (front_of (c ∷ t) x)

-- a line with its first byte, which isn't 0
with_first : (x : Text) (c : ℕ) → first x ≡ suc c → x ≡ suc c ∷ rest x
with_first [] c e = absurd (omega arith)
with_first (b ∷ x) c e = ap (λ (n : ℕ). n ∷ x) e

not-agree-differs : (m j n : ℕ) (a : Text) → differs m j a ≡ agree n → ⊥
not-agree-differs m j n a e = let z : ◌≡◌ {A = ℕ} 0 1 = cc in omega arith

not-agree-broken : (m n : ℕ) → broken m ≡ agree n → ⊥
not-agree-broken m n e = let z : ◌≡◌ {A = ℕ} 0 1 = cc in omega arith

-- a recorded answer is the box's
recorded-is : (a x : Text) → same a (rest x ++ 10 ∷ []) ≡ true → first x ≡ 60 → as_recorded a ≡ x ∷ []
unfolding if◌then◌otherwise◌
recorded-is a x e f =
    let is = same-eq a (rest x ++ 10 ∷ []) e in
    let line = with_first x 59 f in
    ap as_recorded is ∙ go (rest x) ∙ ap (λ (t : Text). t ∷ []) (sym line)
  where
    go : (t : Text) → as_recorded (t ++ 10 ∷ []) ≡ (60 ∷ t) ∷ []
    go [] = refl
    go (b ∷ t) = ap (λ (y : Text). (60 ∷ y) ∷ []) (front_of (b ∷ t) 10)

-- ---- all agree

record Right (k : Marking) (n m : ℕ) (ls : List Text) : Type 0 where
  long : m + 1 ≡ n + length ls
  sent : List Text
  is : map bare ls ≡ as_recorded k.answer ++ record_of k.box sent

module _ (ls : List Text) (k : Marking) (n m : ℕ) (l : Text)
    (ih : (j : Marking) (i : ℕ) → marked j (suc i) ls ≡ agree m → Right j (suc i) m ls) where
  abbrev x : Text
  x = bare l

  go_on : Marking → Verdict
  go_on j = marked j (suc (suc n)) ls

  abbrev after-sent : Marking
  after-sent = record { box = heard_line k.box (rest x ++ 10 ∷ []); sent = suc n; answer = answer_to k.box (rest x) }

  abbrev after-answer : Marking
  after-answer = record { box = k.box; sent = k.sent; answer = [] }

  sent-right : eqb (first x) 62 ≡ true → (t : Bool) → empty k.answer ≡ t
      → next_line go_on (if t then goes after-sent otherwise stops (differs k.sent (suc n) k.answer)) ≡ agree m → Right k (suc n) m (l ∷ ls)
  unfolding if◌then◌otherwise◌ go_on record_of
  sent-right q true e f =
      let r = ih after-sent (suc n) f in
      let g = r.long in
      record {
        long = omega arith;
        sent = rest x ∷ r.sent;
        is = rw (is-empty k.answer e) (ap₂ (λ (y : Text) (ys : List Text). y ∷ ys) (with_first x 61 (eqb-true (first x) 62 q)) r.is);
      }
  sent-right q false e f = absurd (not-agree-differs _ _ _ _ f)

  answer-right : eqb (first x) 60 ≡ true → (t : Bool) → same k.answer (rest x ++ 10 ∷ []) ≡ t
      → next_line go_on (if t then goes after-answer otherwise stops (differs (if eqb k.sent 0 then suc n otherwise k.sent) (suc n) k.answer)) ≡ agree m
      → Right k (suc n) m (l ∷ ls)
  unfolding if◌then◌otherwise◌ go_on
  answer-right q true e f =
      let r = ih after-answer (suc n) f in
      let g = r.long in
      record {
        long = omega arith;
        sent = r.sent;
        is =
            ap (λ (ys : List Text). x ∷ ys) r.is
            ∙ sym (ap (λ (ys : List Text). ys ++ record_of k.box r.sent) (recorded-is k.answer x e (eqb-true (first x) 60 q)));
      }
  answer-right q false e f = absurd (not-agree-differs _ _ _ _ f)

  line-right : (s : Bool) → eqb (first x) 62 ≡ s → (t : Bool) → eqb (first x) 60 ≡ t
      → next_line go_on (if s then line_sent k (suc n) x otherwise (if t then answer_read k (suc n) x otherwise stops (broken (suc n)))) ≡ agree m
      → Right k (suc n) m (l ∷ ls)
  unfolding if◌then◌otherwise◌
  line-right true q t r f = sent-right q (empty k.answer) refl f
  line-right false q true r f = answer-right r (same k.answer (rest x ++ 10 ∷ [])) refl f
  line-right false q false r f = absurd (not-agree-broken _ _ f)

agrees-right : (ls : List Text) (k : Marking) (n m : ℕ) → marked k (suc n) ls ≡ agree m → Right k (suc n) m ls
unfolding marked line_read record_of if◌then◌otherwise◌ go_on
agrees-right [] k n m e = go (empty k.answer) refl e
  where
    go : (t : Bool) → empty k.answer ≡ t → (if t then agree n otherwise differs k.sent (suc n) k.answer) ≡ agree m → Right k (suc n) m []
    go true q f =
        let is : n ≡ m = cc in
        record { long = omega arith; sent = []; is = rw (is-empty k.answer q) }
    go false q f = absurd (not-agree-differs _ _ _ _ f)
agrees-right (l ∷ ls) k n m e =
    line-right ls k n m l (λ j i. agrees-right ls j i m) (eqb (first (bare l)) 62) refl (eqb (first (bare l)) 60) refl e

agreeing : AgreeingIsRight
unfolding if◌then◌otherwise◌
agreeing session n e =
    let r = agrees-right (lines_of session) (record { box = at_power_up; sent = 0; answer = [] }) 0 n e in
    let g = r.long in
    (omega arith, (r.sent, r.is))

-- ---- an answer ends with its newline

abbrev Ended : Text → Type 0
Ended a = empty a ≡ false → front a ++ 10 ∷ [] ≡ a

none-ended : (a : Text) → a ≡ [] → Ended a
none-ended a e f = absurd (false≢true (sym f ∙ ap empty e))

finished-ended : (b : Box) → Ended (finished b).core.answer
unfolding finished
finished-ended b =
    if-elim (λ (c : Box). Ended c.core.answer) (empty b.core.answer) (λ e f. absurd (false≢true (sym f ∙ e)))
    (λ e f. ap (λ (t : Text). t ++ 10 ∷ []) (front_of b.core.answer 10))

line-ended : (b : Box) → Ended (end_line b).core.answer
unfolding end_line run_line
line-ended b =
    if-elim (λ (c : Box). Ended c.core.answer) b.core.overlong
    (λ _. none-ended _ (ap (λ (c : Core). c.answer) (discard-core (box (with_line [] false b.core) b.trouble))))
    (λ _. finished-ended _)

answer-ended : (b : Box) (t : Text) → Ended (answer_to b t)
unfolding happens piece byte if◌then◌otherwise◌
answer-ended b t = subst (λ (c : Box). Ended c.core.answer) (sym (demand2.parts b t (10 ∷ [])).0) (line-ended (piece b t))

-- ---- a right record agrees

module _ (l : Text) (ls : List Text) (k : Marking) (n : ℕ) (ends : Ended k.answer)
    (ih : (j : Marking) (i : ℕ) (xs : List Text) → Ended j.answer → map bare ls ≡ as_recorded j.answer ++ record_of j.box xs → marked j (suc i) ls ≡ agree (i + length ls)) where
  more-lines : suc n + length ls ≡ n + length (l ∷ ls)
  more-lines = omega arith

  -- the answer that is still to be found comes next
  answer-agrees : (xs : List Text) → empty k.answer ≡ false → bare l ∷ map bare ls ≡ (60 ∷ front k.answer) ∷ record_of k.box xs → marked k (suc n) (l ∷ ls) ≡ agree (n + length (l ∷ ls))
  unfolding marked line_read if◌then◌otherwise◌
  answer-agrees xs q is =
      let same_here : same k.answer (front k.answer ++ 10 ∷ []) ≡ true = same_refl k.answer (front k.answer ++ 10 ∷ []) (sym (ends q)) in
      rw (head-eq_of_cons-eq is, same_here)
      (ih (record { box = k.box; sent = k.sent; answer = [] }) (suc n) xs (none-ended [] refl) (tail-eq_of_cons-eq is) ∙ ap agree more-lines)

  -- or a line that is sent
  sent-agrees : (xs : List Text) → empty k.answer ≡ true → bare l ∷ map bare ls ≡ record_of k.box xs → marked k (suc n) (l ∷ ls) ≡ agree (n + length (l ∷ ls))
  unfolding marked line_read record_of if◌then◌otherwise◌
  sent-agrees [] q is = absurd (nil≢cons (sym is))
  sent-agrees (x ∷ xs) q is =
      let b = heard_line k.box (x ++ 10 ∷ []) in
      rw (head-eq_of_cons-eq is, q)
      (ih (record { box = b; sent = suc n; answer = answer_to k.box x }) (suc n) xs (answer-ended k.box x) (tail-eq_of_cons-eq is) ∙ ap agree more-lines)

right-marked : (ls : List Text) (k : Marking) (n : ℕ) (xs : List Text) → Ended k.answer → map bare ls ≡ as_recorded k.answer ++ record_of k.box xs → marked k (suc n) ls ≡ agree (n + length ls)
unfolding marked if◌then◌otherwise◌
right-marked [] k n xs ends is = go (empty k.answer) refl is
  where
    go : (t : Bool) → empty k.answer ≡ t → [] ≡ (if t then [] otherwise (60 ∷ front k.answer) ∷ []) ++ record_of k.box xs
        → (if empty k.answer then agree n otherwise differs k.sent (suc n) k.answer) ≡ agree (n + 0)
    go true q f = let z : n ≡ n + 0 = omega arith in rw q (ap agree z)
    go false q f = absurd (nil≢cons f)
right-marked (l ∷ ls) k n xs ends is = go (λ j i ys e g. right-marked ls j i ys e g) (empty k.answer) refl is
  where
    go : ((j : Marking) (i : ℕ) (ys : List Text) → Ended j.answer → map bare ls ≡ as_recorded j.answer ++ record_of j.box ys → marked j (suc i) ls ≡ agree (i + length ls))
        → (t : Bool) → empty k.answer ≡ t → bare l ∷ map bare ls ≡ (if t then [] otherwise (60 ∷ front k.answer) ∷ []) ++ record_of k.box xs
        → marked k (suc n) (l ∷ ls) ≡ agree (n + length (l ∷ ls))
    go ih true q f = sent-agrees l ls k n ends ih xs q f
    go ih false q f = answer-agrees l ls k n ends ih xs q f

right : RightIsAgreeing
unfolding if◌then◌otherwise◌
right session xs is = right-marked (lines_of session) (record { box = at_power_up; sent = 0; answer = [] }) 0 xs (none-ended [] refl) is ∙ ap agree (omega arith)

-- ---- one differs

differs-number : (p m i j : ℕ) (a b : Text) → differs p i a ≡ differs m j b → m ≡ p
differs-number p m i j a b e = cc

never-agree : (n m j : ℕ) (a : Text) → agree n ≡ differs m j a → ⊥
never-agree n m j a e = let z : ◌≡◌ {A = ℕ} 0 1 = cc in omega arith

never-broken : (n m j : ℕ) (a : Text) → broken n ≡ differs m j a → ⊥
never-broken n m j a e = let z : ◌≡◌ {A = ℕ} 0 1 = cc in omega arith

as_some : (a : Text) → empty a ≡ false → as_recorded a ≡ (60 ∷ front a) ∷ []
unfolding if◌then◌otherwise◌
as_some a e = rw e

as_none : (a : Text) → empty a ≡ true → as_recorded a ≡ []
unfolding if◌then◌otherwise◌
as_none a e = rw e

-- at the line whose answer is still to be found, or at a later one
record HereWrong (k : Marking) (n m : ℕ) (ls : List Text) : Type 0 where
  wrong : RightBehind k.answer (map bare ls) → ⊥
  place : (k.sent ≡ 0 → ⊥) → m ≡ k.sent
  before : k.sent ≡ 0 → k.answer ≡ [] → m ≡ suc n

record LaterWrong (k : Marking) (n m : ℕ) (ls : List Text) : Type 0 where
  sent : List Text
  line : Text
  behind : List Text
  is : map bare ls ≡ as_recorded k.answer ++ (record_of k.box sent ++ (62 ∷ line) ∷ behind)
  number : m ≡ n + (length (as_recorded k.answer) + length (record_of k.box sent)) + 1
  wrong : RightBehind (answer_to (heard_lines k.box sent) line) behind → ⊥

data Where (k : Marking) (n m : ℕ) (ls : List Text) : Type 0 where
  at_hand : HereWrong k n m ls → Where k n m ls
  further_on : LaterWrong k n m ls → Where k n m ls

module _ (ls : List Text) (k : Marking) (n m j' : ℕ) (l a' : Text) (ends : Ended k.answer)
    (ih : (j : Marking) (i : ℕ) → Ended j.answer → marked j (suc i) ls ≡ differs m j' a' → Where j i m ls) where
  abbrev y : Text
  y = bare l

  abbrev sending : Marking
  sending = record { box = heard_line k.box (rest y ++ 10 ∷ []); sent = suc n; answer = answer_to k.box (rest y) }

  abbrev answering : Marking
  answering = record { box = k.box; sent = k.sent; answer = [] }

  going : Marking → Verdict
  going j = marked j (suc (suc n)) ls

  -- a line that is sent
  from-sending : first y ≡ 62 → k.answer ≡ [] → Where sending (suc n) m ls → Where k n m (l ∷ ls)
  unfolding record_of heard_lines if◌then◌otherwise◌
  from-sending q e (at_hand p) =
      further_on (record {
        sent = [];
        line = rest y;
        behind = map bare ls;
        is = rw e (ap (λ (t : Text). t ∷ map bare ls) (with_first y 61 q));
        number = rw e (let z = p.place (λ z. omega arith) in omega arith);
        wrong = p.wrong;
      })
  from-sending q e (further_on w) =
      further_on (record {
        sent = rest y ∷ w.sent;
        line = w.line;
        behind = w.behind;
        is =
            rw e (ap₂ (λ (t : Text) (ts : List Text). t ∷ ts) (with_first y 61 q)
            (w.is ∙ sym (append_assoc (as_recorded (answer_to k.box (rest y))) (record_of (heard_line k.box (rest y ++ 10 ∷ [])) w.sent) ((62 ∷ w.line) ∷ w.behind))));
        number =
            rw e (let z = w.number in
            let g = length-append (as_recorded (answer_to k.box (rest y))) (record_of (heard_line k.box (rest y ++ 10 ∷ [])) w.sent) in
            omega arith);
        wrong = w.wrong;
      })

  sent-where : eqb (first y) 62 ≡ true → (t : Bool) → empty k.answer ≡ t
      → next_line going (if t then goes sending otherwise stops (differs k.sent (suc n) k.answer)) ≡ differs m j' a' → Where k n m (l ∷ ls)
  unfolding if◌then◌otherwise◌ going
  sent-where q true e f = from-sending (eqb-true (first y) 62 q) (is-empty k.answer e) (ih sending (suc n) (answer-ended k.box (rest y)) f)
  sent-where q false e f =
      at_hand (record {
        wrong = λ r.
            let h : y ∷ map bare ls ≡ (60 ∷ front k.answer) ∷ r.0 = rw (as_some k.answer e) at r.1 in
            let c = ap first (head-eq_of_cons-eq h) in
            let d = eqb-true (first y) 62 q in
            omega arith;
        place = λ _. differs-number _ _ _ _ _ _ f;
        before = λ _ z. absurd (false≢true (sym e ∙ ap empty z));
      })

  -- an answer that is right, and what is behind it
  from-answering : first y ≡ 60 → same k.answer (rest y ++ 10 ∷ []) ≡ true → Where answering (suc n) m ls → Where k n m (l ∷ ls)
  unfolding if◌then◌otherwise◌
  from-answering q e (at_hand p) =
      let is = recorded-is k.answer y e q in
      at_hand (record {
        wrong = λ r.
            let h : y ∷ map bare ls ≡ (y ∷ []) ++ r.0 = rw is at r.1 in
            let g : map bare ls ≡ r.0 = cc in
            p.wrong (r.0, g, r.2);
        place = p.place;
        before = λ _ z.
            let h = ap length (sym z ∙ same-eq k.answer (rest y ++ 10 ∷ []) e) in
            let g = length-append (rest y) (10 ∷ []) in
            absurd (omega arith);
      })
  from-answering q e (further_on w) =
      let is = recorded-is k.answer y e q in
      further_on (record {
        sent = w.sent;
        line = w.line;
        behind = w.behind;
        is = rw is (ap (λ (ts : List Text). y ∷ ts) w.is);
        number = rw is (let z = w.number in omega arith);
        wrong = w.wrong;
      })

  -- an answer that isn't the box's
  not_right : first y ≡ 60 → same k.answer (rest y ++ 10 ∷ []) ≡ false → RightBehind k.answer (y ∷ map bare ls) → ⊥
  not_right q e r = go (empty k.answer) refl
    where
      go : (t : Bool) → empty k.answer ≡ t → ⊥
      go true z =
          let h : y ∷ map bare ls ≡ r.0 = r.1 ∙ ap (λ (ts : List Text). ts ++ r.0) (as_none k.answer z) in
          subst NoAnswer (sym h) r.2 q
      go false z =
          let h : y ∷ map bare ls ≡ (60 ∷ front k.answer) ∷ r.0 = rw (as_some k.answer z) at r.1 in
          let c : rest y ≡ front k.answer = ap rest (head-eq_of_cons-eq h) in
          let d : rest y ++ 10 ∷ [] ≡ k.answer = ap (λ (t : Text). t ++ 10 ∷ []) c ∙ ends z in
          false≢true (sym e ∙ same_refl k.answer (rest y ++ 10 ∷ []) (sym d))

  answer-where : eqb (first y) 60 ≡ true → (t : Bool) → same k.answer (rest y ++ 10 ∷ []) ≡ t
      → next_line going (if t then goes answering otherwise stops (differs (if eqb k.sent 0 then suc n otherwise k.sent) (suc n) k.answer)) ≡ differs m j' a'
      → Where k n m (l ∷ ls)
  unfolding if◌then◌otherwise◌ going
  answer-where q true e f = from-answering (eqb-true (first y) 60 q) e (ih answering (suc n) (none-ended [] refl) f)
  answer-where q false e f =
      at_hand (record {
        wrong = not_right (eqb-true (first y) 60 q) e;
        place = λ z. rw (ne_eqb k.sent 0 z) at (differs-number _ _ _ _ _ _ f);
        before = λ z _. rw z at (differs-number _ _ _ _ _ _ f);
      })

  line-where : (s : Bool) → eqb (first y) 62 ≡ s → (t : Bool) → eqb (first y) 60 ≡ t
      → next_line going (if s then line_sent k (suc n) y otherwise (if t then answer_read k (suc n) y otherwise stops (broken (suc n)))) ≡ differs m j' a'
      → Where k n m (l ∷ ls)
  unfolding if◌then◌otherwise◌
  line-where true q t r f = sent-where q (empty k.answer) refl f
  line-where false q true r f = answer-where r (same k.answer (rest y ++ 10 ∷ [])) refl f
  line-where false q false r f = absurd (never-broken _ _ _ _ f)

differs-where : (ls : List Text) (k : Marking) (n m j : ℕ) (a : Text) → Ended k.answer → marked k (suc n) ls ≡ differs m j a → Where k n m ls
unfolding marked line_read if◌then◌otherwise◌ going
differs-where [] k n m j a ends e = go (empty k.answer) refl e
  where
    go : (t : Bool) → empty k.answer ≡ t → (if t then agree n otherwise differs k.sent (suc n) k.answer) ≡ differs m j a → Where k n m []
    go true q f = absurd (never-agree _ _ _ _ f)
    go false q f =
        at_hand (record {
          wrong = λ r.
              let h : ◌≡◌ {A = List Text} [] ((60 ∷ front k.answer) ∷ r.0) = rw (as_some k.answer q) at r.1 in
              let z = ap length h in
              omega arith;
          place = λ _. differs-number _ _ _ _ _ _ f;
          before = λ _ z. absurd (false≢true (sym q ∙ ap empty z));
        })
differs-where (l ∷ ls) k n m j a ends e =
    line-where ls k n m j l a ends (λ k' i. differs-where ls k' i m j a) (eqb (first (bare l)) 62) refl (eqb (first (bare l)) 60) refl e

-- a right record, and a line behind it, begin with a line that is sent
begins-sent : (b : Box) (sent : List Text) (line : Text) (behind : List Text) → NoAnswer (record_of b sent ++ (62 ∷ line) ∷ behind)
unfolding record_of
begins-sent b [] line behind = λ e. omega arith
begins-sent b (t ∷ sent) line behind = λ e. omega arith

differing : DifferingIsAstray
unfolding if◌then◌otherwise◌
differing session m j a e =
    go (differs-where (lines_of session) (record { box = at_power_up; sent = 0; answer = [] }) 0 m j a (none-ended [] refl) e)
  where
    go : Where (record { box = at_power_up; sent = 0; answer = [] }) 0 m (lines_of session)
        → (NoAnswer (map bare (lines_of session)) → Astray at_power_up 0 (map bare (lines_of session)) m) × ((NoAnswer (map bare (lines_of session)) → ⊥) → m ≡ 1)
    go (at_hand p) = (λ no. absurd (p.wrong (map bare (lines_of session), refl, no)), λ _. p.before refl refl)
    go (further_on w) = (
      (λ _. record { sent = w.sent; line = w.line; behind = w.behind; is = w.is; number = let z = w.number in omega arith; wrong = w.wrong }),
      (λ none. absurd (none (subst NoAnswer (sym w.is) (begins-sent at_power_up w.sent w.line w.behind)))),
    )

-- ---- one is broken

not-broken-agree : (n m : ℕ) → agree n ≡ broken m → ⊥
not-broken-agree n m e = let z : ◌≡◌ {A = ℕ} 0 1 = cc in omega arith

not-broken-differs : (n j m : ℕ) (a : Text) → differs n j a ≡ broken m → ⊥
not-broken-differs n j m a e = let z : ◌≡◌ {A = ℕ} 0 1 = cc in omega arith

record Breaks (k : Marking) (n m : ℕ) (ls : List Text) : Type 0 where
  before : List Text
  line : Text
  behind : List Text
  is : map bare ls ≡ before ++ line ∷ behind
  number : m ≡ n + length before + 1
  neither : (first line ≡ 62 → ⊥) × (first line ≡ 60 → ⊥)
  sent : List Text
  missing : List Text
  right : before ++ missing ≡ as_recorded k.answer ++ record_of k.box sent
  one : length missing ≤ 1

few-recorded : (a : Text) → length (as_recorded a ++ []) ≤ 1
few-recorded a = if-elim (λ (ts : List Text). length (ts ++ []) ≤ 1) (empty a) (λ _. omega arith) (λ _. omega arith)

module _ (ls : List Text) (k : Marking) (n m : ℕ) (l : Text)
    (ih : (j : Marking) (i : ℕ) → marked j (suc i) ls ≡ broken m → Breaks j i m ls) where
  abbrev z : Text
  z = bare l

  abbrev sent-on : Marking
  sent-on = record { box = heard_line k.box (rest z ++ 10 ∷ []); sent = suc n; answer = answer_to k.box (rest z) }

  abbrev answered-on : Marking
  answered-on = record { box = k.box; sent = k.sent; answer = [] }

  goes-on : Marking → Verdict
  goes-on j = marked j (suc (suc n)) ls

  sent-breaks : eqb (first z) 62 ≡ true → (t : Bool) → empty k.answer ≡ t
      → next_line goes-on (if t then goes sent-on otherwise stops (differs k.sent (suc n) k.answer)) ≡ broken m → Breaks k n m (l ∷ ls)
  unfolding if◌then◌otherwise◌ goes-on record_of
  sent-breaks q true e f =
      let r = ih sent-on (suc n) f in
      let g = r.number in
      record {
        before = z ∷ r.before;
        line = r.line;
        behind = r.behind;
        is = ap (λ (ts : List Text). z ∷ ts) r.is;
        number = omega arith;
        neither = r.neither;
        sent = rest z ∷ r.sent;
        missing = r.missing;
        right = rw (is-empty k.answer e) (ap₂ (λ (y : Text) (ys : List Text). y ∷ ys) (with_first z 61 (eqb-true (first z) 62 q)) r.right);
        one = r.one;
      }
  sent-breaks q false e f = absurd (not-broken-differs _ _ _ _ f)

  answer-breaks : eqb (first z) 60 ≡ true → (t : Bool) → same k.answer (rest z ++ 10 ∷ []) ≡ t
      → next_line goes-on (if t then goes answered-on otherwise stops (differs (if eqb k.sent 0 then suc n otherwise k.sent) (suc n) k.answer)) ≡ broken m
      → Breaks k n m (l ∷ ls)
  unfolding if◌then◌otherwise◌ goes-on
  answer-breaks q true e f =
      let r = ih answered-on (suc n) f in
      let g = r.number in
      record {
        before = z ∷ r.before;
        line = r.line;
        behind = r.behind;
        is = ap (λ (ts : List Text). z ∷ ts) r.is;
        number = omega arith;
        neither = r.neither;
        sent = r.sent;
        missing = r.missing;
        right =
            ap (λ (ys : List Text). z ∷ ys) r.right
            ∙ sym (ap (λ (ys : List Text). ys ++ record_of k.box r.sent) (recorded-is k.answer z e (eqb-true (first z) 60 q)));
        one = r.one;
      }
  answer-breaks q false e f = absurd (not-broken-differs _ _ _ _ f)

  line-breaks : (s : Bool) → eqb (first z) 62 ≡ s → (t : Bool) → eqb (first z) 60 ≡ t
      → next_line goes-on (if s then line_sent k (suc n) z otherwise (if t then answer_read k (suc n) z otherwise stops (broken (suc n)))) ≡ broken m
      → Breaks k n m (l ∷ ls)
  unfolding if◌then◌otherwise◌ record_of
  line-breaks true q t r f = sent-breaks q (empty k.answer) refl f
  line-breaks false q true r f = answer-breaks r (same k.answer (rest z ++ 10 ∷ [])) refl f
  line-breaks false q false r f =
      let g : suc n ≡ m = cc in
      record {
        before = [];
        line = z;
        behind = map bare ls;
        is = refl;
        number = omega arith;
        neither = (eqb-false (first z) 62 q, eqb-false (first z) 60 r);
        sent = [];
        missing = as_recorded k.answer ++ [];
        right = refl;
        one = few-recorded k.answer;
      }

broken-breaks : (ls : List Text) (k : Marking) (n m : ℕ) → marked k (suc n) ls ≡ broken m → Breaks k n m ls
unfolding marked line_read if◌then◌otherwise◌ goes-on
broken-breaks [] k n m e = go (empty k.answer) e
  where
    go : (t : Bool) → (if t then agree n otherwise differs k.sent (suc n) k.answer) ≡ broken m → Breaks k n m []
    go true f = absurd (not-broken-agree _ _ f)
    go false f = absurd (not-broken-differs _ _ _ _ f)
broken-breaks (l ∷ ls) k n m e =
    line-breaks ls k n m l (λ j i. broken-breaks ls j i m) (eqb (first (bare l)) 62) refl (eqb (first (bare l)) 60) refl e

breaking : BrokenIsBroken
unfolding if◌then◌otherwise◌
breaking session m e =
    let r = broken-breaks (lines_of session) (record { box = at_power_up; sent = 0; answer = [] }) 0 m e in
    let g = r.number in
    record {
      before = r.before;
      line = r.line;
      behind = r.behind;
      is = r.is;
      number = omega arith;
      neither = r.neither;
      sent = r.sent;
      missing = r.missing;
      right = r.right;
      one = r.one;
    }

pub marks-right : MarksRight
marks-right = record { agreeing = agreeing; right = right; differing = differing; breaking = breaking }
