-- Demand 3 of what is written. Chunks served one after the other are lines heard (server/Heard), whatever the chunks and the room; up to the line's
-- newline it is demand 3 of the events that hear them; and afterwards boxes with one core agree line by line.
use mathlib.Core.Path.{◌≡◌, refl, sym, ◌∙◌, ap, ap₂, subst, subst₂}
use mathlib.Core.Bool.{Bool, true, false, not}
use mathlib.Core.List.{List, [], ◌∷◌, ◌++◌, append_assoc, append-nil}
use Prim.Native.Nat.{ℕ, zero, suc, ◌≤◌}
use native.Mathlib.Omega.{arith}
use lib.Dec.{eqb}
use lib.ListN.{length, take, replicate, length-replicate}
use lib.Seq.{take-append_seam}
use borrow.Author.Tests.{not-true}
use Rattle.registers.specs.Text.{Text, if◌then◌otherwise◌, every}
use Rattle.registers.specs.Settings.{AsLong}
use Rattle.registers.proofs.Tests.{and_both, and-true}
use Rattle.interpreter.specs.Cuts.{join_first}
use Rattle.interpreter.specs.Box.{Memory, right_size, Core, Box, box, with_answer, answer_is, power_up, most_answer}
use Rattle.registers.specs.Status.{Trouble}
use Rattle.interpreter.specs.Line.{end_line, byte, piece}
use Rattle.interpreter.specs.Events.{Event, received, happens, after}
use Rattle.interpreter.specs.Histories.{moments}
use Rattle.interpreter.specs.State.{box_of, Started}
use Rattle.interpreter.specs.Server.{lines_of, heard_line, heard, answers_to, hearing}
use Rattle.interpreter.specs.Demand3.{keep, cut_line, line_refusal, in_line, at_end, as_sent, as_cut, Fresh, ALine, Watch, neither, asked, cleared, then_watch, watch_event, watch, Agree}
use Rattle.interpreter.specs.Written.{Written, done, chunk, Ready, AnyChunks, LinesBeginHeard, beginning, ending, SentLine, cut_text, input, after_line, watch_heard, AgreeTexts, Demand3OfProgram}
use Rattle.interpreter.specs.declared.state.State.{State}
use Rattle.interpreter.proofs.Possible.{power-up-fit, power-up-own}
use Rattle.interpreter.proofs.server.Heard.{left-long, part-heard, part-answered, plain-answer, joined-heard, heard-on, heard-history}
use Rattle.interpreter.proofs.demands.histories.Pieces.{after-append, newline-after}
use Rattle.interpreter.proofs.demands.refused.LineBegins.{newline-fresh}
use Rattle.interpreter.proofs.demands.refused.Agreement.{over-cores, event-agree}
use Rattle.interpreter.proofs.demands.refused.Watching.{then-watch, event-watch}
use Rattle.interpreter.proofs.demands.Demand2.{demand2}
use Rattle.interpreter.proofs.demands.Demand3.{demand3}

-- ---- lines heard in one go or in two

heard-quiet : (b : Box) (ls : List Text) → b.core.answer ≡ [] → (heard b ls).core.answer ≡ []
unfolding heard
heard-quiet b [] e = e
heard-quiet b (l ∷ ls) e = heard-quiet (heard_line b l) ls refl

joined-answers : (b : Box) (x : ℕ) (ls : List Text) → (byte b x).core.answer ≡ [] → answers_to b (join_first x ls) ≡ answers_to (byte b x) ls
unfolding answers_to happens piece
joined-answers b x [] e = append-nil (byte b x).core.answer ∙ e
joined-answers b x (l ∷ ls) e = refl

answers-on : (xs ys : Text) (b : Box) → b.core.answer ≡ []
    → answers_to b (lines_of (xs ++ ys)) ≡ answers_to b (lines_of xs) ++ answers_to (heard b (lines_of xs)) (lines_of ys)
unfolding lines_of heard answers_to if◌then◌otherwise◌
answers-on [] ys b e = refl
answers-on (x ∷ xs) ys b e = go (eqb x 10) refl (λ c k. answers-on xs ys c k)
  where
    go : (t : Bool) → eqb x 10 ≡ t
        → ((c : Box) → c.core.answer ≡ [] → answers_to c (lines_of (xs ++ ys)) ≡ answers_to c (lines_of xs) ++ answers_to (heard c (lines_of xs)) (lines_of ys))
        → answers_to b (if t then (x ∷ []) ∷ lines_of (xs ++ ys) otherwise join_first x (lines_of (xs ++ ys)))
        ≡ answers_to b (if t then (x ∷ []) ∷ lines_of xs otherwise join_first x (lines_of xs))
        ++ answers_to (heard b (if t then (x ∷ []) ∷ lines_of xs otherwise join_first x (lines_of xs))) (lines_of ys)
    go true q more =
        let said = (happens b (received (x ∷ []))).box.core.answer in
        ap (λ (t : Text). said ++ t) (more (heard_line b (x ∷ [])) refl) ∙ sym (append_assoc said _ _)
    go false q more =
        let none = plain-answer b x q ∙ e in
        joined-answers b x (lines_of (xs ++ ys)) none
        ∙ more (byte b x) none
        ∙ ap₂ ◌++◌ (sym (joined-answers b x (lines_of xs) none)) (ap (λ (c : Box). answers_to c (lines_of ys)) (sym (joined-heard b x (lines_of xs) none)))

-- ---- chunks

chunks-heard : (t : State) (n : Memory) (s : State) (m : Memory) (text said : Text) → Ready s m → Written t n s m text said
    → (box_of t n ≡ heard (box_of s m) (lines_of text)) × (said ≡ answers_to (box_of s m) (lines_of text))
unfolding lines_of heard answers_to
chunks-heard t n s m _ _ r done = (refl, refl)
chunks-heard t n s m _ _ r (chunk {u = u} {k = k} {input = input} {output = output} {left = left} {text = text} {said = said} {number = number} {read = read} {written = written} w more) =
    let b = box_of s m in
    let p = w.possible r.sized r.could in
    let box-is = (part-heard s u m k input output left number read written w r.sized r.could r.values).1 in
    let told = part-answered s u m k input output left number read written w r.sized r.could r.values in
    let there : Ready u k =
    record {
      could = p.0;
      values = left-long s u m k input output left number read written w r.sized r.could r.values;
      sized = p.4;
      quiet = ap (λ (c : Box). c.core.answer) box-is ∙ heard-quiet b (lines_of (take read input)) r.quiet;
    } in
    let on = chunks-heard t n u k text said there more in (
      on.0 ∙ ap (λ (c : Box). heard c (lines_of text)) box-is ∙ sym (heard-on (take read input) text b r.quiet),
      ap₂ ◌++◌ told (on.1 ∙ ap (λ (c : Box). answers_to c (lines_of text)) box-is) ∙ sym (answers-on (take read input) text b r.quiet),
    )

pub any-chunks : AnyChunks
any-chunks s t m n text said r written = chunks-heard t n s m text said r written

started-quiet : (m : Memory) → (power_up m).core.answer ≡ []
unfolding power_up
started-quiet m = refl

pub lines-begin-heard : LinesBeginHeard
unfolding power_up lines_of heard happens piece byte if◌then◌otherwise◌
lines-begin-heard m = (
  (refl, refl),
  λ before.
      subst (λ (b : Box). Fresh b.core) (sym (heard-on before (10 ∷ []) (power_up m) (started-quiet m))) (newline-fresh (heard (power_up m) (lines_of before))),
)

-- ---- one line

ends-line : (b : Box) (l : Text) → piece b (l ++ 10 ∷ []) ≡ end_line (piece b l)
unfolding piece byte if◌then◌otherwise◌
ends-line b l = (demand2.parts b l (10 ∷ [])).0

abbrev Plain : Text → Type 0
Plain l = every in_line (received l ∷ []) ≡ true

plain_more : (x : ℕ) (l : Text) → Plain (x ∷ l) → (eqb x 10 ≡ false) × Plain l
unfolding in_line
plain_more x l t =
    let p = and_both (every (λ y. not (eqb y 10)) (x ∷ l)) true t in
    let q = and_both (not (eqb x 10)) (every (λ y. not (eqb y 10)) l) p.0 in
    (not-true (eqb x 10) q.0, and-true q.1 refl)

plain-from : (x : ℕ) (l : Text) → eqb x 10 ≡ false → Plain l → Plain (x ∷ l)
unfolding in_line
plain-from x l e t = rw e t

plain-take : (k : ℕ) (l : Text) → Plain l → Plain (take k l)
unfolding in_line
plain-take zero l t = refl
plain-take (suc k) [] t = refl
plain-take (suc k) (x ∷ l) t = let p = plain_more x l t in plain-from x (take k l) p.0 (plain-take k l p.1)

one-line : (l : Text) → Plain l → lines_of (l ++ 10 ∷ []) ≡ (l ++ 10 ∷ []) ∷ []
unfolding lines_of if◌then◌otherwise◌
one-line [] t = refl
one-line (x ∷ l) t = let p = plain_more x l t in rw (p.0, one-line l p.1)

-- ---- up to the line's newline: demand 3 of the events that hear the lines before it

module _ (m : Memory) (before line : Text) (g : SentLine m before line) where
  abbrev start : Box
  start = beginning m before

  abbrev cut : Text
  cut = cut_text m before line

  abbrev es : List Event
  es = hearing (replicate most_answer 0) (power_up m) (lines_of before)

  abbrev during : List Event
  during = received line ∷ []

  room : most_answer ≤ length (replicate {A = ℕ} most_answer 0)
  room = let n = length-replicate {A = ℕ} most_answer 0 in omega (arith, n)

  start_is : after (power_up m) es ≡ start
  start_is = (heard-history (replicate most_answer 0) room (power_up m) (lines_of before) (power-up-fit m)).box

  end_is : at_end m es during ≡ ending m before line
  unfolding after happens
  end_is = after-append (power_up m) es during ∙ ap (λ (b : Box). after b during) start_is

  theirs : ALine m es during
  theirs =
      record {
        begins = subst (λ (b : Box). Fresh b.core) (sym start_is) g.begins;
        under_way = g.alone;
        other = subst (λ (b : Box). line_refusal b ≡ 430 → ⊥) (sym end_is) g.other;
      }

  sent_is : after (power_up m) (as_sent es during) ≡ end_line (ending m before line)
  sent_is = newline-after (power_up m) (es ++ during) ∙ ap end_line end_is

  short-is : after (power_up m) (as_cut m es during) ≡ end_line (piece start cut)
  unfolding after happens keep
  short-is =
      let k = length (cut_line (at_end m es during)) in
      newline-after (power_up m) (es ++ keep k during)
      ∙ ap end_line (after-append (power_up m) es (keep k during) ∙ ap (λ (b : Box). after b (keep k during)) start_is
      ∙ ap (λ (b : Box). piece start (take (length (cut_line b)) line)) end_is)

  history-core : (after (power_up m) (as_sent es during)).core ≡ (after (power_up m) (as_cut m es during)).core
  unfolding watch
  history-core =
      (demand3 m es during [] (as_sent es during) (as_cut m es during) theirs
      (ap moments (sym (append-nil (as_sent es during)))) (ap moments (sym (append-nil (as_cut m es during))))).state

  line-core : (piece start (line ++ 10 ∷ [])).core ≡ (piece start (cut ++ 10 ∷ [])).core
  line-core =
      ap (λ (b : Box). b.core) (ends-line start line ∙ sym sent_is) ∙ history-core ∙ ap (λ (b : Box). b.core) (short-is ∙ sym (ends-line start cut))

  cut-plain : Plain cut
  cut-plain = plain-take (length (cut_line (ending m before line))) line g.alone

  abbrev one : Box
  one = after_line m before line

  abbrev other : Box
  other = after_line m before cut

  after-core : one.core ≡ other.core
  unfolding happens
  after-core = ap (λ (c : Core). with_answer [] c) line-core

-- ---- afterwards: boxes with one core agree line by line

abbrev LinesAgree : Watch → List Text → Box → Box → Type 0
LinesAgree w ls a b = Agree w (heard a ls) (heard b ls) × AgreeTexts w (answers_to a ls) (answers_to b ls)

texts-more : (w : Watch) (a b x y : Text) → a ≡ b → AgreeTexts w x y → AgreeTexts w (a ++ x) (b ++ y)
texts-more neither a b x y e f = ap₂ ◌++◌ e f
texts-more asked a b x y e f = tt
texts-more cleared a b x y e f = ap₂ ◌++◌ e f

-- a line's answer and those after it
abbrev AfterAgree : Watch → List Text → Box → Box → Type 0
AfterAgree w ls x y =
    Agree w (heard (answer_is [] x) ls) (heard (answer_is [] y) ls)
    × AgreeTexts w (x.core.answer ++ answers_to (answer_is [] x) ls) (y.core.answer ++ answers_to (answer_is [] y) ls)

then_lines : (ls : List Text) → ((c : Core) (t t' : Trouble) → LinesAgree (watch_heard (box c t) ls) ls (box c t) (box c t'))
    → (w : Watch) (x y : Box) → Agree w x y → AfterAgree (then_watch w (watch_heard (answer_is [] x) ls)) ls x y
then_lines ls ih neither x y e =
    over-cores (λ a b. AfterAgree (watch_heard (answer_is [] a) ls) ls a b)
    (λ c t t'.
    let d = with_answer [] c in
    let r = ih d t t' in
    (r.0, texts-more (watch_heard (box d t) ls) c.answer c.answer (answers_to (box d t) ls) (answers_to (box d t') ls) refl r.1)) x y e
then_lines ls ih asked x y e = (tt, tt)
then_lines ls ih cleared x y e = subst (λ (z : Box). AfterAgree cleared ls x z) e (refl, refl)

lines-agree : (ls : List Text) (c : Core) (t t' : Trouble) → LinesAgree (watch_heard (box c t) ls) ls (box c t) (box c t')
unfolding watch_heard heard answers_to
lines-agree [] c t t' = (refl, refl)
lines-agree (l ∷ ls) c t t' =
    then_lines ls (λ d s s'. lines-agree ls d s s') (watch_event (box c t) (received l)) _ _ (event-agree (received l) c t t')

-- what comes first goes by the core too
lines-watch : (ls : List Text) (c : Core) (t t' : Trouble) → watch_heard (box c t) ls ≡ watch_heard (box c t') ls
unfolding watch_heard
lines-watch [] c t t' = refl
lines-watch (l ∷ ls) c t t' =
    then-watch (watch_event (box c t) (received l)) (watch_event (box c t') (received l)) (event-watch (received l) c t t') _ _ (event-agree (received l) c t t')
    (λ b. watch_heard (answer_is [] b) ls) (λ d s s'. lines-watch ls (with_answer [] d) s s')

-- ---- the two inputs

module _ (m : Memory) (before later l : Text) (t : Plain l) where
  split : input before l later ≡ before ++ ((l ++ 10 ∷ []) ++ later)
  split = ap (λ (r : Text). before ++ r) (sym (append_assoc l (10 ∷ []) later))

  abbrev from : Box
  from = beginning m before

  from-quiet : from.core.answer ≡ []
  from-quiet = heard-quiet (power_up m) (lines_of before) (started-quiet m)

  line-heard : heard from (lines_of (l ++ 10 ∷ [])) ≡ after_line m before l
  unfolding heard
  line-heard = ap (heard from) (one-line l t)

  whole-heard : heard (power_up m) (lines_of (input before l later)) ≡ heard (after_line m before l) (lines_of later)
  whole-heard =
      ap (λ (x : Text). heard (power_up m) (lines_of x)) split
      ∙ heard-on before ((l ++ 10 ∷ []) ++ later) (power_up m) (started-quiet m)
      ∙ heard-on (l ++ 10 ∷ []) later from from-quiet
      ∙ ap (λ (b : Box). heard b (lines_of later)) line-heard

  line-told : answers_to from (lines_of (l ++ 10 ∷ [])) ≡ (piece from (l ++ 10 ∷ [])).core.answer
  unfolding answers_to happens
  line-told = ap (answers_to from) (one-line l t) ∙ append-nil (piece from (l ++ 10 ∷ [])).core.answer

  whole-told : answers_to (power_up m) (lines_of (input before l later))
      ≡ answers_to (power_up m) (lines_of before) ++ ((piece from (l ++ 10 ∷ [])).core.answer ++ answers_to (after_line m before l) (lines_of later))
  whole-told =
      ap (λ (x : Text). answers_to (power_up m) (lines_of x)) split
      ∙ answers-on before ((l ++ 10 ∷ []) ++ later) (power_up m) (started-quiet m)
      ∙ ap (λ (x : Text). answers_to (power_up m) (lines_of before) ++ x)
      (answers-on (l ++ 10 ∷ []) later from from-quiet ∙ ap₂ ◌++◌ line-told (ap (λ (b : Box). answers_to b (lines_of later)) line-heard))

module _ (m : Memory) (before line : Text) (g : SentLine m before line) (later : Text) where
  abbrev first_of : Watch
  first_of = watch_heard (after_line m before line) (lines_of later)

  both-agree : LinesAgree first_of (lines_of later) (one m before line g) (other m before line g)
  both-agree =
      over-cores (λ a b. LinesAgree (watch_heard a (lines_of later)) (lines_of later) a b) (λ c t t'. lines-agree (lines_of later) c t t')
      (one m before line g) (other m before line g) (after-core m before line g)

  first_alike : watch_heard (after_line m before line) (lines_of later) ≡ watch_heard (after_line m before (cut_text m before line)) (lines_of later)
  first_alike =
      over-cores (λ a b. watch_heard a (lines_of later) ≡ watch_heard b (lines_of later)) (λ c t t'. lines-watch (lines_of later) c t t')
      (one m before line g) (other m before line g) (after-core m before line g)

  told-agree : AgreeTexts first_of (answers_to (power_up m) (lines_of (input before line later)))
      (answers_to (power_up m) (lines_of (input before (cut_text m before line) later)))
  told-agree =
      let front = answers_to (power_up m) (lines_of before) in
      let start = beginning m before in
      let a = (piece start (line ++ 10 ∷ [])).core.answer in
      let b = (piece start (cut_text m before line ++ 10 ∷ [])).core.answer in
      let x = answers_to (one m before line g) (lines_of later) in
      let y = answers_to (other m before line g) (lines_of later) in
      subst₂ (AgreeTexts first_of) (sym (whole-told m before later line g.alone))
      (sym (whole-told m before later (cut_text m before line) (cut-plain m before line g)))
      (texts-more first_of front front (a ++ x) (b ++ y) refl
      (texts-more first_of a b x y (ap (λ (c : Core). c.answer) (line-core m before line g)) both-agree.1))

-- unless a unit asked, two texts that agree are equal
agree_same : (w : Watch) → (w ≡ asked → ⊥) → (x y : Text) → AgreeTexts w x y → x ≡ y
agree_same neither h x y e = e
agree_same asked h x y e = absurd (h refl)
agree_same cleared h x y e = e

-- what is written begins with the answers to the first lines
begins-so : (m : Memory) (before l soon onward later : Text) → later ≡ soon ++ onward
    → let a = answers_to (power_up m) (lines_of (input before l soon)) in
    take (length a) (answers_to (power_up m) (lines_of (input before l later))) ≡ a
begins-so m before l soon onward later e =
    let p = power_up m in
    let x = input before l soon in
    let apart : input before l later ≡ x ++ onward =
    ap (λ (r : Text). input before l r) e ∙ sym (append_assoc before (l ++ 10 ∷ soon) onward ∙ ap (λ (r : Text). before ++ r) (append_assoc l (10 ∷ soon) onward)) in
    ap (take (length (answers_to p (lines_of x)))) (ap (λ (t : Text). answers_to p (lines_of t)) apart ∙ answers-on x onward p (started-quiet m))
    ∙ take-append_seam (answers_to p (lines_of x)) _

module _ (s t : State) (m n : Memory) (text said : Text) (sized : right_size m ≡ true) (first : Started s) (w : Written t n s m text said) where
  ready : Ready s m
  ready =
      record {
        could = first.possible;
        values = subst (λ (b : Box). AsLong b.core.settings) (sym (first.first m)) (power-up-own m).values;
        sized = sized;
        quiet = ap (λ (b : Box). b.core.answer) (first.first m) ∙ started-quiet m;
      }

  box-is : box_of t n ≡ heard (power_up m) (lines_of text)
  box-is = (any-chunks s t m n text said ready w).0 ∙ ap (λ (b : Box). heard b (lines_of text)) (first.first m)

  said-is : said ≡ answers_to (power_up m) (lines_of text)
  said-is = (any-chunks s t m n text said ready w).1 ∙ ap (λ (b : Box). answers_to b (lines_of text)) (first.first m)

pub demand3-of-program : Demand3OfProgram
demand3-of-program m before line later these those sized g s s' t t' n n' first first' w w' =
    let cut = cut_text m before line in
    let plain = cut-plain m before line g in
    let a = said-is s t m n (input before line later) these sized first w in
    let b = said-is s' t' m n' (input before cut later) those sized first' w' in
    let v = watch_heard (after_line m before line) (lines_of later) in
    record {
      first = first_alike m before line g later;
      state =
          subst₂ (Agree v)
          (sym (box-is s t m n (input before line later) these sized first w ∙ whole-heard m before later line g.alone))
          (sym (box-is s' t' m n' (input before cut later) those sized first' w' ∙ whole-heard m before later cut plain)) (both-agree m before line g later).0;
      all = subst₂ (AgreeTexts v) (sym a) (sym b) (told-agree m before line g later);
      meanwhile = λ soon onward e h.
          let x = answers_to (power_up m) (lines_of (input before line soon)) in
          let y = answers_to (power_up m) (lines_of (input before cut soon)) in
          let same : x ≡ y = agree_same (watch_heard (after_line m before line) (lines_of soon)) h x y (told-agree m before line g soon) in (
            ap (take (length x)) a ∙ begins-so m before line soon onward later e,
            ap₂ (λ (k : ℕ) (t : Text). take k t) (ap length same) b ∙ begins-so m before cut soon onward later e ∙ sym same,
          );
    }
