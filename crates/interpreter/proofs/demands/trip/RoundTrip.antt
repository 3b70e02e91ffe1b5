-- Demand 2, the round trip. The query's newline leaves the setting's answer; it waits until it is taken (trip/AnswerWaits); sent back it is
-- read as the value that the setting has (trip/SentUnit, trip/ReadBack), and giving a setting that value changes nothing.
use mathlib.Core.Path.{◌≡◌, refl, sym, ◌∙◌, ap, subst}
use mathlib.Core.Bool.{true, false, not, and-false, false≢true}
use mathlib.Core.List.{List, [], ◌∷◌, ◌++◌}
use Prim.Native.Nat.{ℕ, ◌<◌, zero-le}
use native.Mathlib.Omega.{arith}
use lib.Dec.{leb}
use lib.ListN.{length, length-append}
use lib.Seq.{set-get_or}
use lib.IntN.{pos}
use borrow.Author.Tests.{lt-ltb, leb-true}
use Rattle.registers.specs.Text.{Text, if◌then◌otherwise◌, every, empty}
use Rattle.registers.specs.Check.{passed, check, ◌>>=◌, ◌>>◌}
use Rattle.registers.specs.Settings.{count, kind_of, value_at, with_value, displayed, with_text, answer_of}
use Rattle.registers.specs.Label.{padded, text_in}
use Rattle.registers.proofs.label.Record.{HeldRight, held-right}
use Rattle.registers.specs.Status.{Trouble, locked}
use Rattle.registers.specs.declared.rounding.Side.TheVariants.{On}
use Rattle.registers.specs.declared.settings.Settings.{Settings}
use Rattle.registers.proofs.Tests.{and_both}
use Rattle.interpreter.specs.Cuts.{front}
use Rattle.interpreter.specs.Box.{Core, Box, box, with_settings, with_line, with_answer, most_answer}
use Rattle.interpreter.specs.Unit.{read_unit}
use Rattle.interpreter.specs.Parameter.{deed_of}
use Rattle.interpreter.specs.UnitParts.{Allowed}
use Rattle.interpreter.specs.Perform.{blocked, permitted, changed, after_query, perform}
use Rattle.interpreter.specs.Reply.{reply_to, joined, fits_answer, reply}
use Rattle.interpreter.specs.Line.{attempt, run_units, interrupted, finished, run_line, end_line, at_newline}
use Rattle.interpreter.specs.Events.{Event, take, happens, Own, after}
use Rattle.interpreter.specs.Histories.{newline}
use Rattle.interpreter.specs.Demand3.{in_line, refusal, line_refusal}
use Rattle.interpreter.specs.Demand2.{Which, tabled, display, query_of, role_of, answer_to, Asks, Answered, Took, Sends, queried, sent_back, RoundTrip}
use Rattle.interpreter.specs.declared.deed.Deed.TheVariants.{Change, Query}
use Rattle.interpreter.specs.declared.deed.Change as changes
use Rattle.interpreter.specs.declared.deed.Change.TheVariants.{Put, Label as labelled}
use Rattle.interpreter.specs.declared.deed.Query as queries
use Rattle.interpreter.proofs.Choices.{if-elim}
use Rattle.interpreter.proofs.Bounds.{FitCore, Fit, fit_line}
use Rattle.interpreter.proofs.Possible.{history-fit, own-fit}
use Rattle.interpreter.proofs.unit.Allowed.{read-allowed}
use Rattle.interpreter.proofs.demands.histories.Pieces.{after-append, newline-after, recut-state}
use Rattle.interpreter.proofs.Lists.{is-empty}
use Rattle.interpreter.proofs.demands.Limits.{no-conflict}
use Rattle.interpreter.proofs.demands.trip.ReadBack.{plain_byte, plain_text, answer-sets, answer-plain}
use Rattle.interpreter.proofs.demands.trip.ShownText.{quoted-means, label-sets}
use Rattle.interpreter.proofs.demands.trip.SentUnit as sent
use Rattle.interpreter.proofs.demands.trip.AnswerWaits.{Left, waits, gone, left-none, Quiet, quiet, Emptied, emptied}

-- ---- the query's newline

-- the core after the -410 of a waiting answer
interrupted-core : (b : Box) → (interrupted b).core ≡ with_answer [] b.core
unfolding interrupted
interrupted-core b =
    if-elim (λ (c : Box). c.core ≡ with_answer [] b.core) (empty b.core.answer)
    (λ e. ap (λ (a : Text). with_answer a b.core) (is-empty b.core.answer e)) (λ _. refl)

module _ (q : queries.Query) (c : Core) (t : Trouble) (a u text : Text) (path : List Text) (some : empty a ≡ false) (short : length a < most_answer) where
  -- a query that leaves the core, alone, with no answer waiting
  answered : read_unit c.settings [] u ≡ passed (record { deed = Query q; text = text; path = path })
      → reply_to q (with_answer [] c) ≡ a → after_query q (with_answer [] c) ≡ with_answer [] c
      → finished (run_units (u ∷ []) [] (box (with_answer [] c) t)) ≡ box (with_answer (a ++ 10 ∷ []) c) t
  unfolding run_units attempt permitted perform reply fits_answer joined finished check ◌>>=◌ ◌>>◌ if◌then◌otherwise◌
  answered e v k = rw (e, v, k, lt-ltb (length a) most_answer short, some)

-- a setting's query answers it, and leaves the core
asked-reply : (i : Which) (c : Core) → reply_to (query_of i) c ≡ answer_to i c.settings
unfolding reply_to
asked-reply (tabled i) c = refl
asked-reply display c = refl

asked-left : (i : Which) (c : Core) → after_query (query_of i) c ≡ c
asked-left (tabled i) c = refl
asked-left display c = refl

-- a setting that is there
abbrev There : Which → Type 0
There (tabled i) = i < count
There display = Unit {0}

asked-there : (i : Which) (s : Settings) → Allowed s (Query (query_of i)) → There i
asked-there (tabled i) s a = a
asked-there display s a = tt

-- its answer is there, is short, and can be sent back
record Fine (a : Text) : Type 0 where
  short : length a < most_answer
  sends : sent.Sendable a

module _ (c : Core) (k : ℕ) (fit : FitCore k c) where
  held : HeldRight c.settings.text
  held = held-right c.settings.text fit.text

  fine : (i : Which) → There i → Fine (answer_to i c.settings)
  unfolding plain_text
  fine (tabled i) h =
      let a = answer_of (kind_of i) (value_at c.settings i) in
      let plain = answer-plain c.settings i h (value_at c.settings i) (fit.settings i h) in
      let l = leb-true (length a) 30 (and_both (every plain_byte a) (leb (length a) 30) (and_both (not (empty a)) _ plain).1).1 in
      record { short = omega arith; sends = sent.plain-sendable a plain }
  fine display h =
      let t = displayed c.settings in
      let short = held.short in
      let long = fit.long.text in
      let n = length-append t (34 ∷ []) in
      record { short = omega arith; sends = sent.quoted-sendable t held.accepted }

module _ (i : Which) (b : Box) (fit : Fit most_answer b) (q : Asks i b) where
  abbrev s : Settings
  s = b.core.settings

  abbrev a : Text
  a = answer_to i s

  there : There i
  there = asked-there i s (read-allowed s [] b.core.line q.asks)

  query-line : end_line b ≡ box (with_answer (a ++ 10 ∷ []) (with_line [] false b.core)) (at_newline b).trouble
  unfolding end_line run_line if◌then◌otherwise◌
  query-line =
      let f = fine b.core most_answer fit.core i there in
      let c = with_line [] false b.core in
      let e : at_newline b ≡ box (with_answer [] c) (at_newline b).trouble =
      ap (λ (x : Core). box x (at_newline b).trouble) (interrupted-core (box c b.trouble)) in
      rw (q.whole, q.alone)
      (ap (λ (x : Box). finished (run_units (b.core.line ∷ []) [] x)) e
      ∙ answered (query_of i) c (at_newline b).trouble a b.core.line q.text q.path f.sends.some f.short q.asks
      (asked-reply i (with_answer [] c)) (asked-left i (with_answer [] c)))

pub query-answers : Answered
query-answers b own i before asks =
    ap (λ (c : Box). c.core.answer) (newline-after b before ∙ query-line i (after b before) (history-fit b before (own-fit b own)) asks)

-- ---- the newline of the line that sends the answer back

none-interrupted : (c : Core) (t : Trouble) → c.answer ≡ [] → interrupted (box c t) ≡ box c t
unfolding interrupted
none-interrupted c t e =
    if-elim (λ (b : Box). b ≡ box c t) (empty c.answer) (λ _. refl) (λ f. absurd (false≢true (sym f ∙ ap empty e)))

none-finished : (c : Core) (t : Trouble) → c.answer ≡ [] → finished (box c t) ≡ box c t
unfolding finished
none-finished c t e =
    if-elim (λ (b : Box). b ≡ box c t) (empty c.answer) (λ _. refl) (λ f. absurd (false≢true (sym f ∙ ap empty e)))

-- a change that changes nothing
module _ (c : Core) (t : Trouble) (u text : Text) (path : List Text) (x : changes.Change)
    (e : read_unit c.settings [] u ≡ passed (record { deed = Change x; text = text; path = path }))
    (let-pass : permitted (Change x) c ≡ passed tt) (same : changed x text c ≡ c) where
  put_back : run_units (u ∷ []) [] (box c t) ≡ box c t
  unfolding run_units attempt perform ◌>>=◌ ◌>>◌
  put_back = rw (e, let-pass) (ap (λ (d : Core). box d t) same)

  not-refused : refusal (u ∷ []) [] (box c t) ≡ 0
  unfolding refusal attempt perform ◌>>=◌ ◌>>◌
  not-refused = rw (e, let-pass)

-- a setting given the value that it has
abbrev back_to : Which → Settings → changes.Change
back_to (tabled i) s = Put i (value_at s i) On
back_to display s = labelled

module _ (c : Core) (k : ℕ) (fit : FitCore k c) where
  abbrev st : Settings
  st = c.settings

  same-value : (i : ℕ) → with_value i (value_at st i) st ≡ st
  same-value i = ap (λ l. record { values = l; text = st.text }) (set-get_or st.values i (pos 0))

  same_text : with_text (displayed st) st ≡ st
  same_text = ap (λ (l : Text). record { values = st.values; text = l }) (ap (λ (n : ℕ). padded n (displayed st)) (sym fit.long.text) ∙ (held c k fit).whole)

  sets-back : (i : Which) → There i → deed_of st (role_of i) false (answer_to i st ∷ []) ≡ passed (Change (back_to i st))
  unfolding deed_of
  sets-back (tabled i) h = answer-sets st i h (value_at st i) (fit.settings i h)
  sets-back display h =
      let r = held c k fit in
      let short = r.short in
      let long = fit.long.text in
      label-sets (displayed st) r.accepted (omega arith)

  changes-nothing : (i : Which) → changed (back_to i st) (text_in (answer_to i st)) c ≡ c
  unfolding changed
  changes-nothing (tabled i) = ap (λ (x : Settings). with_settings x c) (same-value i)
  changes-nothing display =
      ap (λ (x : Settings). with_settings x c) (ap (λ (t : Text). with_text t st) (quoted-means (displayed st) (held c k fit).accepted) ∙ same_text)

  let-pass : (i : Which) → locked c.registers ≡ false → permitted (Change (back_to i st)) c ≡ passed tt
  unfolding permitted ◌>>◌ check
  let-pass (tabled i) free = rw (free, and-false (blocked (Change (Put i (value_at st i) On))), no-conflict st fit.settings i)
  let-pass display free = rw free

module _ (i : Which) (b : Box) (fit : Fit most_answer b) (h : There i) (a : Text) (is : a ≡ answer_to i b.core.settings)
    (none : b.core.answer ≡ []) (free : locked b.core.registers ≡ false) (q : Sends i a b) where
  abbrev c : Core
  c = with_line [] false b.core

  fit-c : FitCore most_answer c
  fit-c = fit_line most_answer b.core fit.core [] false zero-le

  parts : sent.Line i q.left q.header q.gap a q.right
  parts =
      record {
        spelling = q.spelling;
        left_white = q.left_white;
        gap_white = q.gap_white;
        gap_there = q.gap_there;
        right_white = q.right_white;
        sendable = rw is (fine b.core most_answer fit.core i h).sends;
      }

  back-line : (end_line b ≡ box c b.trouble) × (line_refusal b ≡ 0)
  unfolding end_line run_line line_refusal if◌then◌otherwise◌
  back-line =
      let n : at_newline b ≡ box c b.trouble = none-interrupted c b.trouble none in
      let x = back_to i b.core.settings in
      let r = sent.reads-line i q.left q.header q.gap a q.right parts b.core.settings (Change x) (rw is (sets-back c most_answer fit-c i h)) in
      let u = sent.alone i q.left q.header q.gap a q.right parts in
      let pass = let-pass c most_answer fit-c i free in
      let same : changed x (text_in a) c ≡ c = rw is (changes-nothing c most_answer fit-c i) in (
        rw (q.whole, n, q.line, u, put_back c b.trouble _ _ _ x r pass same) (none-finished c b.trouble none),
        rw (q.whole, n, q.line, u) (not-refused c b.trouble _ _ _ x r pass same),
      )

-- ---- the whole

front_of : (t : Text) (x : ℕ) → front (t ++ x ∷ []) ≡ t
unfolding if◌then◌otherwise◌
front_of [] x = refl
front_of (b ∷ []) x = refl
front_of (b ∷ c ∷ t) x = ap (λ (y : Text). b ∷ y) (front_of (c ∷ t) x)

-- an answer that is there is the one that waited
still : {a x : Text} → empty x ≡ false → Left a x → x ≡ a
still n (waits e) = e
still n (gone e) = absurd (false≢true (sym n ∙ ap empty e))

module _ (b : Box) (own : Own b) (i : Which) (a buffer : Text) (before early late : List Event)
    (in-early : every in_line early ≡ true) (in-late : every in_line late ≡ true) (asks : Asks i (after b before))
    (took : Took a (happens (after b (queried before ++ early)) (take buffer)).result) where
  abbrev asking : Box
  asking = after b before

  abbrev taking : Box
  taking = after b (queried before ++ early)

  abbrev sending : Box
  sending = after b (sent_back before early buffer late)

  fit : (es : List Event) → Fit most_answer (after b es)
  fit es = history-fit b es (own-fit b own)

  -- after the query's newline
  queried-is : after b (queried before)
      ≡ box (with_answer (answer_to i asking.core.settings ++ 10 ∷ []) (with_line [] false asking.core)) (at_newline asking).trouble
  queried-is = newline-after b before ∙ query-line i asking (fit before) asks

  early-quiet : Quiet (after b (queried before)) taking
  early-quiet = rw (after-append b (queried before) early) (quiet (after b (queried before)) early in-early)

  takes : Emptied taking (happens taking (take buffer))
  unfolding happens
  takes = emptied buffer taking took.number

  -- the answer taken is the setting's
  answer-is : a ≡ answer_to i asking.core.settings
  answer-is =
      let w = still takes.some early-quiet.answer ∙ ap (λ (c : Box). c.core.answer) queried-is in
      sym (front_of a 10) ∙ ap front (sym took.bytes ∙ takes.bytes ∙ w) ∙ front_of (answer_to i asking.core.settings) 10

  late-quiet : Quiet (happens taking (take buffer)).box sending
  unfolding after
  late-quiet = rw (after-append b (queried before ++ early) (take buffer ∷ late)) (quiet (happens taking (take buffer)).box late in-late)

  same-settings : sending.core.settings ≡ asking.core.settings
  same-settings =
      late-quiet.settings ∙ takes.settings ∙ early-quiet.settings ∙ ap (λ (c : Box). c.core.settings) queried-is

  none : sending.core.answer ≡ []
  none = left-none (subst (λ (x : Text). Left x sending.core.answer) takes.none late-quiet.answer)

  back : locked sending.core.registers ≡ false → Sends i a sending → (end_line sending ≡ box (with_line [] false sending.core) sending.trouble) × (line_refusal sending ≡ 0)
  back free sends =
      back-line i sending (fit (sent_back before early buffer late)) (there i asking (fit before) asks) a
      (answer-is ∙ ap (answer_to i) (sym same-settings)) none free sends

pub round-trip : RoundTrip
round-trip b i a buffer before early late h p recut =
    let sent_line = sent_back before early buffer late in
    let q = p.trip in
    let r = back b q.own i a buffer before early late q.first q.second q.asks q.took p.free q.sends in
    let e = recut-state b h (sent_line ++ newline ∷ []) recut ∙ newline-after b sent_line ∙ r.0 in
    record {
      settings = ap (λ (c : Box). c.core.settings) e ∙ same-settings b q.own i a buffer before early late q.first q.second q.asks q.took;
      accepted = r.1;
      rest = e;
    }
