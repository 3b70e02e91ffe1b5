-- Each of the programs in specs/Dummies is the dummy that it stands for. The refuser and the fixed answer by an invariant of their memory
-- (no answer waits; no answer but the one), the others by what a piece does to theirs.
use mathlib.Core.Path.{◌≡◌, refl, sym, ◌∙◌, ap, subst}
use mathlib.Core.Bool.{Bool, true, false, false≢true}
use mathlib.Core.List.{List, [], ◌∷◌, ◌++◌}
use Prim.Native.Nat.{ℕ, zero, suc, zero-le}
use Prim.Native.Char.{code}
use native.Mathlib.Omega.{arith}
use lib.Dec.{eqb, leb, ltb}
use lib.ListN as L
use lib.ListN.{length, drop}
use lib.Seq.{take_at, take_all}
use borrow.Author.Tests.{eqb-true, ltb-false}
use Rattle.registers.specs.Text.{Text, if◌then◌otherwise◌, empty, every, white}
use Rattle.registers.specs.Check.{Checked, refused, passed}
use Rattle.registers.specs.Group.{widest_group}
use Rattle.interpreter.specs.Cuts.{cut_open}
use Rattle.interpreter.specs.Reply.{joined}
use Rattle.interpreter.specs.Box as lent
use Rattle.interpreter.specs.Box.{Core, Box, box, power_up, blank, most_line}
use Rattle.interpreter.specs.Line.{Obeyed, attempt, refuse, next, finished, interrupted, units_of, held, byte, piece, newlines}
use Rattle.interpreter.specs.Events.{Event, started, received, take, condition, look, altered, mislent, Happened, taken, reported, happens}
use Rattle.interpreter.specs.Dummies.{Program, reached, tells_next, RefusesUnits, refusing_byte, refusing_piece, refusing, refuser, unheard, IgnoresPieces, ignorer, one_line, AnswersAlike, answering, fixed_answer, instead, each_unit, each_byte, each_piece, each_answer, no_start, OnlyFirstLine, first_byte, first_piece, first_only, first_liner, first_counter, Invents, inventor, AreSo}
use Rattle.interpreter.proofs.Choices.{if-elim}
use Rattle.interpreter.proofs.Lists.{is-empty, no_bytes}
use Rattle.interpreter.proofs.flow.Laws.{piece-held}

-- what every event leaves holds in every history
reached-so : (p : Program) (P : p.Memory → Type 0) → ((m : p.Memory) (e : Event) → P m → P (p.keeps m e))
    → (es : List Event) (m : p.Memory) → P m → P (reached p m es)
unfolding reached
reached-so p P step [] m h = h
reached-so p P step (e ∷ es) m h = reached-so p P step es (p.keeps m e) (step m e h)

-- ---- no answer waits in the refuser

abbrev Answerless : Box → Type 0
Answerless b = b.core.answer ≡ []

start-answerless : (m : lent.Memory) → Answerless (power_up m)
unfolding power_up
start-answerless m = refl

interrupted-answerless : (b : Box) → Answerless (interrupted b)
unfolding interrupted
interrupted-answerless b = if-elim Answerless (empty b.core.answer) (λ e. is-empty b.core.answer e) (λ _. refl)

held-answerless : (b : Box) (x : ℕ) → Answerless b → Answerless (box (held x b.core) b.trouble)
unfolding held
held-answerless b x h = if-elim (λ (c : Core). c.answer ≡ []) (ltb (length b.core.line) most_line) (λ _. h) (λ _. h)

byte-answerless : (b : Box) (x : ℕ) → Answerless b → Answerless (refusing_byte b x)
unfolding refusing_byte
byte-answerless b x h =
    let c = interrupted-answerless _ in
    if-elim Answerless (eqb x 10)
    (λ _. if-elim Answerless b.core.overlong (λ _. c) (λ _. if-elim Answerless (empty (units_of b.core.line)) (λ _. c) (λ _. c)))
    (λ _. held-answerless b x h)

piece-answerless : (xs : Text) (b : Box) → Answerless b → Answerless (refusing_piece b xs)
unfolding refusing_piece
piece-answerless [] b h = h
piece-answerless (x ∷ xs) b h = piece-answerless xs (refusing_byte b x) (byte-answerless b x h)

abbrev AnswerlessHappened : Happened → Type 0
AnswerlessHappened h = Answerless h.box

taken-answerless : (b : Box) (buffer : Text) → Answerless b → Answerless (taken buffer b).box
unfolding taken
taken-answerless b buffer h =
    if-elim AnswerlessHappened (empty b.core.answer) (λ _. h)
    (λ _. if-elim AnswerlessHappened (leb (length b.core.answer) (length buffer)) (λ _. refl) (λ _. h))

refusing-answerless : (b : Box) (e : Event) → Answerless b → Answerless (refusing b e)
unfolding happens reported
refusing-answerless b started h = start-answerless b.core.memory
refusing-answerless b (received xs) h = piece-answerless xs b h
refusing-answerless b (take buffer) h = taken-answerless b buffer h
refusing-answerless b (condition x n) h = if-elim AnswerlessHappened (leb n widest_group) (λ _. h) (λ _. h)
refusing-answerless b look h = h
refusing-answerless b (altered i x) h = h
refusing-answerless b (mislent buffer) h = h

none-taken : (b : Box) (buffer : Text) → Answerless b → (taken buffer b).result.number ≡ 2
unfolding taken if◌then◌otherwise◌
none-taken b buffer h = rw h

refuser-is : RefusesUnits refuser
unfolding happens
refuser-is es buffer t =
    none-taken (reached refuser (power_up blank) es) buffer (reached-so refuser Answerless refusing-answerless es (power_up blank) (start-answerless blank))

-- ---- one answer or none waits in the box with a fixed answer

module _ (a : Text) where
  data One (b : Box) : Type 0 where
    nothing : empty b.core.answer ≡ true → One b
    this : b.core.answer ≡ a → One b

  one_none : (b : Box) → empty b.core.answer ≡ true → One b
  one_none b e = nothing e

  one-this : (b : Box) → b.core.answer ≡ a → One b
  one-this b e = this e

  answering-one : (b : Box) → One (answering a b)
  unfolding answering
  answering-one b = if-elim One (empty b.core.answer) (λ e. nothing e) (λ _. this refl)

  one_alike : (b : Box) (buffer : Text) → One b → let r = (taken buffer b).result in r.number ≡ 0 → L.take r.value r.buffer ≡ a
  unfolding taken if◌then◌otherwise◌
  one_alike b buffer (nothing e) = rw e (λ n. absurd (omega (arith, n)))
  one_alike b buffer (this e) =
      if-elim (λ (h : Happened). h.result.number ≡ 0 → L.take h.result.value h.result.buffer ≡ a) (empty b.core.answer)
      (λ _ n. absurd (omega (arith, n)))
      (λ _. if-elim (λ (h : Happened). h.result.number ≡ 0 → L.take h.result.value h.result.buffer ≡ a)
      (leb (length b.core.answer) (length buffer))
      (λ _ _. take_at b.core.answer (drop (length b.core.answer) buffer) (length b.core.answer) refl ∙ e)
      (λ _ n. absurd (omega (arith, n))))

  fixed-is : AnswersAlike a (fixed_answer a)
  unfolding happens
  fixed-is l buffer one none t =
      let p = fixed_answer a in
      one_alike (reached p (power_up blank) (one_line l)) buffer
      (reached-so p One (λ b e _. answering-one (happens b e).box) (one_line l) (power_up blank) (nothing (ap empty (start-answerless blank))))

-- ---- one answer or none waits after a first line of one unit, where each query is answered alike

plain_byte : (a : Text) (b : Box) (x : ℕ) → eqb x 10 ≡ false → each_byte a b x ≡ byte b x
unfolding each_byte byte if◌then◌otherwise◌
plain_byte a b x e = rw e

-- bytes before a newline are held as the box holds them
each-held : (a l : Text) (b : Box) → newlines l ≡ 0 → each_piece a b (l ++ 10 ∷ []) ≡ each_byte a (piece b l) 10
unfolding each_piece piece newlines if◌then◌otherwise◌
each-held a [] b z = refl
each-held a (x ∷ l) b z = go (eqb x 10) refl z (λ c k. each-held a l c k)
  where
    go : (t : Bool) → eqb x 10 ≡ t → (if t then suc (newlines l) otherwise newlines l) ≡ 0
        → ((c : Box) → newlines l ≡ 0 → each_piece a c (l ++ 10 ∷ []) ≡ each_byte a (piece c l) 10)
        → each_piece a (each_byte a b x) (l ++ 10 ∷ []) ≡ each_byte a (piece (byte b x) l) 10
    go true e k more = absurd (omega (arith, k))
    go false e k more = ap (λ (c : Box). each_piece a c (l ++ 10 ∷ [])) (plain_byte a b x e) ∙ more (byte b x) k

-- a line that isn't overlong is held whole
held_whole : (l : Text) → newlines l ≡ 0 → (piece (power_up blank) l).core.overlong ≡ false → (piece (power_up blank) l).core.line ≡ l
unfolding power_up
held_whole l z =
    rw (piece-held l (power_up blank) z zero-le) (λ o. let h = ltb-false most_line (length l) o in take_all most_line l (omega arith))

module _ (a : Text) where
  -- before the newline that ends the answers
  data Half (b : Box) : Type 0 where
    none : b.core.answer ≡ [] → Half b
    some : b.core.answer ≡ a → Half b

  whole : (b : Box) → Half b → empty b.core.answer ≡ false → b.core.answer ++ 10 ∷ [] ≡ a ++ 10 ∷ []
  whole b (none q) e = absurd (false≢true (sym e ∙ ap empty q))
  whole b (some q) e = ap (λ (t : Text). t ++ 10 ∷ []) q

  finish : (b : Box) → Half b → One (a ++ 10 ∷ []) (finished b)
  unfolding finished
  finish b h =
      if-elim (One (a ++ 10 ∷ [])) (empty b.core.answer) (λ e. one_none (a ++ 10 ∷ []) b e) (λ e. one-this (a ++ 10 ∷ []) _ (whole b h e))

  one_unit : (c : Box) → Answerless c → (o : Checked Obeyed) → Half (next (λ p d. each_unit a [] p (instead a c d)) c o)
  unfolding each_unit refuse joined if◌then◌otherwise◌
  one_unit c q (refused n) = none (if-elim Answerless (eqb n 430) (λ _. refl) (λ _. q))
  one_unit c q (passed o) =
      if-elim Half (eqb (length o.box.core.answer) (length c.core.answer))
      (λ e. none (no_bytes o.box.core.answer (eqb-true _ _ e ∙ ap length q))) (λ _. some (ap (λ (t : Text). joined t a) q))

  units-half : (l line : Text) (c : Box) → Answerless c → line ≡ l → cut_open (code ";") 0 l ≡ l ∷ [] → Half (each_unit a (units_of line) [] c)
  unfolding units_of each_unit
  units-half l line c q is one =
      if-elim (λ (us : List Text). Half (each_unit a us [] c)) (every white line) (λ _. none q)
      (λ _. subst (λ (us : List Text). Half (each_unit a us [] c)) (sym (ap (cut_open (code ";") 0) is ∙ one)) (one_unit c q (attempt [] c l)))

  line-one : (l : Text) (b : Box) → (b.core.overlong ≡ false → b.core.line ≡ l) → cut_open (code ";") 0 l ≡ l ∷ [] → One (a ++ 10 ∷ []) (each_byte a b 10)
  unfolding each_byte if◌then◌otherwise◌
  line-one l b is one =
      let q = interrupted-answerless _ in
      if-elim (One (a ++ 10 ∷ [])) b.core.overlong (λ _. one_none (a ++ 10 ∷ []) _ (ap empty q))
      (λ o. finish _ (units-half l b.core.line _ q (is o) one))

  each-is : AnswersAlike (a ++ 10 ∷ []) (each_answer a)
  unfolding happens reached
  each-is l buffer one z t =
      one_alike (a ++ 10 ∷ []) (each_piece a (power_up blank) (l ++ 10 ∷ [])) buffer
      (subst (One (a ++ 10 ∷ [])) (sym (each-held a l (power_up blank) z)) (line-one l (piece (power_up blank) l) (held_whole l z) one))

-- ---- the ignorer remembers no piece

unheard-so : (b : Box) (es : List Event) → reached ignorer b es ≡ reached ignorer b (unheard es)
unfolding reached unheard if◌then◌otherwise◌
unheard-so b [] = refl
unheard-so b (started ∷ es) = unheard-so (ignorer.keeps b started) es
unheard-so b (received xs ∷ es) = unheard-so b es
unheard-so b (take buffer ∷ es) = unheard-so (ignorer.keeps b (take buffer)) es
unheard-so b (condition x n ∷ es) = unheard-so (ignorer.keeps b (condition x n)) es
unheard-so b (look ∷ es) = unheard-so b es
unheard-so b (altered i x ∷ es) = unheard-so _ es
unheard-so b (mislent buffer ∷ es) = unheard-so b es

ignorer-is : IgnoresPieces ignorer
ignorer-is es e t _ = ap (λ (b : Box). (happens b e).result) (unheard-so (power_up blank) es)

-- ---- the first-liner obeys the first line, and drops what comes after it

dropped : (b : Box) (xs : Text) → first_piece (b, true) xs ≡ (b, true)
unfolding first_piece first_byte if◌then◌otherwise◌
dropped b [] = refl
dropped b (x ∷ xs) = dropped b xs

-- after a newline the first line is over
over : (m : Box × Bool) (l : Text) → (first_piece m (l ++ 10 ∷ [])).1 ≡ true
unfolding first_piece first_byte if◌then◌otherwise◌
over m [] = go m.1 refl
  where
    go : (t : Bool) → m.1 ≡ t → (first_byte m 10).1 ≡ true
    go true e = rw e
    go false e = rw e
over m (x ∷ l) = over (first_byte m x) l

-- and then it remembers no piece until the next power-up
dropped-so : (b : Box) (es : List Event) → every no_start es ≡ true → reached first_liner (b, true) es ≡ reached first_liner (b, true) (unheard es)
unfolding reached unheard if◌then◌otherwise◌
dropped-so b [] t = refl
dropped-so b (started ∷ es) t = absurd (false≢true t)
dropped-so b (received xs ∷ es) t = ap (λ (m : Box × Bool). reached first_liner m es) (dropped b xs) ∙ dropped-so b es t
dropped-so b (take buffer ∷ es) t = dropped-so (happens b (take buffer)).box es t
dropped-so b (condition x n ∷ es) t = dropped-so (happens b (condition x n)).box es t
dropped-so b (look ∷ es) t = dropped-so b es t
dropped-so b (altered i x ∷ es) t = dropped-so _ es t
dropped-so b (mislent buffer ∷ es) t = dropped-so b es t

first-is : OnlyFirstLine first_liner
unfolding reached
first-is l es e quiet t _ =
    let m = first_piece ((power_up blank), false) (l ++ 10 ∷ []) in
    let is : m ≡ (m.0, true) = ap (λ (t : Bool). (m.0, t)) (over ((power_up blank), false) l) in
    ap (λ (x : Box × Bool). (happens x.0 e).result)
    (subst (λ (x : Box × Bool). reached first_liner x es ≡ reached first_liner x (unheard es)) (sym is) (dropped-so m.0 es quiet))

-- what is counted besides changes nothing that is told
counted-so : (m : Box × Bool) (n : ℕ) (es : List Event) → (reached first_counter (m, n) es).0 ≡ reached first_liner m es
unfolding reached
counted-so m n [] = refl
counted-so m n (e ∷ es) = counted-so (first_only m e) (suc n) es

counter-is : OnlyFirstLine first_counter
counter-is l es e quiet t other =
    let tell : (fs : List Event) → tells_next first_counter fs e ≡ tells_next first_liner fs e =
    λ fs. ap (λ (m : Box × Bool). (happens m.0 e).result) (counted-so ((power_up blank), false) 0 fs) in
    tell (one_line l ++ es) ∙ first-is l es e quiet t other ∙ sym (tell (one_line l ++ unheard es))

obeyed-first : (l : Text) (b : Box) → newlines l ≡ 0 → first_piece (b, false) (l ++ 10 ∷ []) ≡ (piece b (l ++ 10 ∷ []), true)
unfolding first_piece first_byte piece newlines if◌then◌otherwise◌
obeyed-first [] b h = refl
obeyed-first (x ∷ l) b h = go (eqb x 10) refl h (λ z. obeyed-first l (byte b x) z)
  where
    go : (t : Bool) → eqb x 10 ≡ t → (if t then suc (newlines l) otherwise newlines l) ≡ 0
        → (newlines l ≡ 0 → first_piece (byte b x, false) (l ++ 10 ∷ []) ≡ (piece (byte b x) (l ++ 10 ∷ []), true))
        → first_piece (b, false) (x ∷ l ++ 10 ∷ []) ≡ (piece b (x ∷ l ++ 10 ∷ []), true)
    go true e z more = absurd (omega (arith, z))
    go false e z more = ap (λ (t : Bool). first_piece (byte b x, t) (l ++ 10 ∷ [])) e ∙ more z

-- ---- no count is every piece's

inventor-is : (k : ℕ) → Invents (inventor k)
unfolding newlines reached if◌then◌otherwise◌
inventor-is zero = ([], 10 ∷ [], refl, λ e. omega (arith, e))
inventor-is (suc k) = ([], [], refl, λ e. omega (arith, e))

pub are-so : AreSo
unfolding happens
are-so =
    record {
      refuser = refuser-is;
      ignorer = ignorer-is;
      fixed_answer = fixed-is;
      each_answer = each-is;
      first_liner = first-is;
      first_counter = counter-is;
      first_obeyed = λ l h. obeyed-first l (power_up blank) h;
      inventor = inventor-is;
    }
