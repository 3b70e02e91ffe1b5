-- The dummies of 01 are rejected: a program that meets the definition tells of each event what the definition tells, and after a line
-- or two that differs from what the dummy tells.
use mathlib.Core.Path.{◌≡◌, refl, sym, ◌∙◌, ap, ap₂}
use mathlib.Core.Bool.{true}
use mathlib.Core.List.{List, [], ◌∷◌, ◌++◌, head-eq_of_cons-eq}
use Prim.Native.Nat.{suc}
use Prim.Native.Char.{code}
use Prim.Native.String.{String}
use native.Mathlib.Omega.{arith}
use lib.ListN as L
use lib.ListN.{length, drop, replicate}
use lib.Seq.{drop_at}
use Rattle.registers.specs.Text.{Text, if◌then◌otherwise◌, every, bytes, same, white, printable, digit, letter, word_byte, small, capital}
use Rattle.registers.specs.Check.{◌>>=◌, ◌>>◌, check}
use Rattle.registers.specs.Words.{short_form, long_form, matches}
use Rattle.registers.specs.Number.{after_sign, fraction_of, after_fraction, exponent_of, after_exponent, lowering, written, numeral_from, decimal_of, value_of, scaled, number}
use Rattle.registers.specs.Suffix.{suffixes, no_suffix, power_in, remains}
use Rattle.registers.specs.Rounding.{nearest, size_in, rounded, size_side, side_in}
use Rattle.registers.specs.Answer.{in_places, decimal, tenths}
use Rattle.registers.specs.Settings.{table, setting_at, at_reset, wide_range, lowest, highest, within, conflict, examined, accepted, answer_of, slots, narrow}
use Rattle.registers.specs.Status.{raised, at_start}
use Rattle.registers.specs.Label.{may_stand, closes, undoubled, padded}
use Rattle.registers.proofs.Tests.{and_both}
use Rattle.interpreter.specs.Cuts.{cut_at, quote_next, cut_open, trim_end, trim}
use Rattle.interpreter.specs.Header.{name, placed, header, spells, body_of, by_first, numbered, node_matches, suffix_in}
use Rattle.interpreter.specs.Rows.{setting_rows, other_rows, rows, fits_row, find_row, second_of, on_channel, find_role}
use Rattle.interpreter.specs.Parameter.{label_deed, parameters, least, greatest, find_word, parameter, value_given, setting_deed, deed_of, read_figure, read_word}
use Rattle.interpreter.specs.Unit.{read_unit}
use Rattle.interpreter.specs.Box as lent
use Rattle.interpreter.specs.Box.{Box, box, power_up, blank, right_size}
use Rattle.interpreter.specs.Perform.{permitted, changed, perform}
use Rattle.interpreter.specs.Reply.{reply_to, joined, fits_answer, reply}
use Rattle.interpreter.specs.Line.{attempt, run_units, interrupted, finished, units_of, run_line, end_line, held, byte, piece, newlines}
use Rattle.interpreter.specs.Events.{Event, received, take, Result, Happened, taken, happens, after, results}
use Rattle.interpreter.specs.State.{box_of, possible_state, Started}
use Rattle.interpreter.specs.Calls.{Calls}
use Rattle.interpreter.specs.declared.state.State.{State}
use Rattle.interpreter.specs.Dummies.{typed, Typed, Program, told, reached, tells_next, Meets, the_box, Promised, functions, Does, RefusesUnits, unheard, one_line, IgnoresPieces, AnswersAlike, OnlyFirstLine, Invents, Rejected}
use Rattle.interpreter.proofs.demands.dummies.Model.{some-keep, blank-size}
use Rattle.interpreter.proofs.demands.calls.AsHistory.{happens-there, calls-are-a-history}

-- ---- what a program that meets the definition tells of one more event

told-append : (p : Program) (m : p.Memory) (es fs : List Event) → told p m (es ++ fs) ≡ told p m es ++ told p (reached p m es) fs
unfolding told reached
told-append p m [] fs = refl
told-append p m (e ∷ es) fs = ap (λ (rs : List Result). p.tells m e ∷ rs) (told-append p (p.keeps m e) es fs)

told-length : (p : Program) (m : p.Memory) (es : List Event) → length (told p m es) ≡ length es
unfolding told
told-length p m [] = refl
told-length p m (e ∷ es) = ap suc (told-length p (p.keeps m e) es)

-- the definition is a program, and meets itself
definition : (b : Box) (es : List Event) → told the_box b es ≡ results b es
unfolding told results
definition b [] = refl
definition b (e ∷ es) = ap (λ (rs : List Result). (happens b e).result ∷ rs) (definition (happens b e).box es)

reached-after : (b : Box) (es : List Event) → reached the_box b es ≡ after b es
unfolding reached after
reached-after b [] = refl
reached-after b (e ∷ es) = reached-after (happens b e).box es

pub box-meets : Meets the_box
box-meets es t = definition (power_up blank) es

-- so are the public functions
functions-tell : (begins : State) (does : Does) (h : Promised begins does) (s : State) (m : lent.Memory) → h.Held s m → possible_state s ≡ true
    → right_size m ≡ true → (es : List Event) → every typed es ≡ true → told (functions begins does) (s, m) es ≡ results (box_of s m) es
unfolding told results
functions-tell begins does h s m k p q [] t = refl
functions-tell begins does h s m k p q (e ∷ es) t =
    let d = does s m e in
    let these = and_both (typed e) (every typed es) t in
    let kept = h.events s m e k these.0 in
    let one = happens-there s d.1 m d.2 e d.0 kept.0 p q in
    ap₂ ◌∷◌ (ap (λ (x : Happened). x.result) one.1)
    (functions-tell begins does h d.1 d.2 kept.1 one.0 one.2 es these.1 ∙ ap (λ (x : Happened). results x.box es) one.1)

functions-meet : (begins : State) (does : Does) → Promised begins does → Meets (functions begins does)
functions-meet begins does h es t =
    functions-tell begins does h begins blank h.first_held h.at_start.possible blank-size es t ∙ ap (λ (b : Box). results b es) (h.at_start.first blank)

-- and what calls of them told is what the definition tells
calls-tell : (s t : State) (n : lent.Memory) (es : List Event) (rs : List Result) → Started s → Calls t n s blank es rs → rs ≡ results (power_up blank) es
calls-tell s t n es rs h c = (calls-are-a-history s t blank n es rs h.possible c).results ∙ ap (λ (b : Box). results b es) (h.first blank)

-- the last of what a program tells
last-told : (p : Program) (es : List Event) (e : Event) → drop (length es) (told p p.start (es ++ e ∷ [])) ≡ tells_next p es e ∷ []
unfolding told
last-told p es e =
    ap (drop (length es)) (told-append p p.start es (e ∷ []))
    ∙ drop_at (told p p.start es) (told p (reached p p.start es) (e ∷ [])) (length es) (told-length p p.start es)

pub next-is : (p : Program) → Meets p → (es : List Event) (e : Event) → Typed es e → tells_next p es e ≡ (happens (after (power_up blank) es) e).result
next-is p m es e t =
    head-eq_of_cons-eq
    (sym (last-told p es e) ∙ ap (drop (length es)) (m (es ++ e ∷ []) t ∙ sym (box-meets (es ++ e ∷ []) t)) ∙ last-told the_box es e)
    ∙ ap (λ (b : Box). (happens b e).result) (reached-after (power_up blank) es)

-- ---- computed: what the definition tells of a take after these lines

abbrev line : String → Event
line s = received (bytes s ++ 10 ∷ [])

abbrev takes : Event
takes = take (replicate 8 0)

abbrev taken-after : List Event → Result
taken-after es = (happens (after (power_up blank) es) takes).result

-- each of those lines is of bytes, and of one unit
record Lines : Type 0 where
  none : Typed [] takes
  set : Typed (line "VOLT 5" ∷ []) takes
  asked : Typed (line "VOLT 5" ∷ line "VOLT?" ∷ []) takes
  volts : Typed (line "VOLT?" ∷ []) takes
  hertz : Typed (line "FREQ?" ∷ []) takes
  volts_alone : cut_open (code ";") 0 (bytes "VOLT?") ≡ bytes "VOLT?" ∷ []
  hertz_alone : cut_open (code ";") 0 (bytes "FREQ?") ≡ bytes "FREQ?" ∷ []
  volts_line : newlines (bytes "VOLT?") ≡ 0
  hertz_line : newlines (bytes "FREQ?") ≡ 0

lines : Lines
unfolding bytes cut_open quote_next newlines if◌then◌otherwise◌
lines = record { none = refl; set = refl; asked = refl; volts = refl; hertz = refl; volts_alone = refl; hertz_alone = refl; volts_line = refl; hertz_line = refl }

record Computed : Type 0 where
  none : (taken-after []).number ≡ 2
  set : (taken-after (line "VOLT 5" ∷ [])).number ≡ 2
  asked : (taken-after (line "VOLT 5" ∷ line "VOLT?" ∷ [])).number ≡ 0
  volts : (taken-after (line "VOLT?" ∷ [])).number ≡ 0
  hertz : (taken-after (line "FREQ?" ∷ [])).number ≡ 0
  four : length (L.take (taken-after (line "VOLT?" ∷ [])).value (taken-after (line "VOLT?" ∷ [])).buffer) ≡ 4
  five : length (L.take (taken-after (line "FREQ?" ∷ [])).value (taken-after (line "FREQ?" ∷ [])).buffer) ≡ 5

computed : Computed
unfolding if◌then◌otherwise◌ bytes same white printable digit letter word_byte small capital ◌>>=◌ ◌>>◌ check short_form long_form matches
    after_sign fraction_of after_fraction exponent_of after_exponent lowering written numeral_from decimal_of value_of scaled suffixes no_suffix power_in remains number
    nearest size_in rounded size_side side_in in_places decimal tenths
    slots table setting_at at_reset wide_range lowest highest narrow within conflict examined accepted answer_of raised at_start
    may_stand closes undoubled padded label_deed cut_at quote_next cut_open trim_end trim name placed body_of by_first header numbered node_matches suffix_in spells setting_rows other_rows rows fits_row find_row second_of on_channel find_role
    parameters least greatest find_word parameter read_word read_figure value_given setting_deed deed_of read_unit power_up
    permitted changed reply_to joined fits_answer reply perform
    attempt run_units interrupted finished units_of run_line end_line held byte piece taken happens after
computed = record { none = refl; set = refl; asked = refl; volts = refl; hertz = refl; four = refl; five = refl }

-- ---- none of the five meets the definition

module _ (p : Program) (m : Meets p) where
  takes-next : (es : List Event) → Typed es takes → tells_next p es takes ≡ taken-after es
  takes-next es t = next-is p m es takes t

  number-next : (es : List Event) → Typed es takes → (tells_next p es takes).number ≡ (taken-after es).number
  number-next es t = ap (λ (r : Result). r.number) (takes-next es t)

  no-refuser : RefusesUnits p → ⊥
  no-refuser h =
      let es = line "VOLT?" ∷ [] in
      omega (arith, sym (h es (replicate 8 0) lines.volts) ∙ number-next es lines.volts ∙ computed.volts)

  no-ignorer : IgnoresPieces p → ⊥
  unfolding unheard if◌then◌otherwise◌
  no-ignorer h =
      let es = line "VOLT?" ∷ [] in
      let alike = ap (λ (r : Result). r.number) (h es takes lines.volts refl) in
      omega (arith, sym computed.volts ∙ sym (number-next es lines.volts) ∙ alike ∙ number-next [] lines.none ∙ computed.none)

  no-answerer : (a : Text) → AnswersAlike a p → ⊥
  no-answerer a h =
      let is : (l : Text) → cut_open (code ";") 0 l ≡ l ∷ [] → newlines l ≡ 0 → Typed (one_line l) takes → (taken-after (one_line l)).number ≡ 0
      → L.take (taken-after (one_line l)).value (taken-after (one_line l)).buffer ≡ a =
      λ l one none t n.
      sym (ap (λ (r : Result). L.take r.value r.buffer) (takes-next (one_line l) t))
      ∙ h l (replicate 8 0) one none t (number-next (one_line l) t ∙ n) in
      let v = ap length (is (bytes "VOLT?") lines.volts_alone lines.volts_line lines.volts computed.volts) in
      let w = ap length (is (bytes "FREQ?") lines.hertz_alone lines.hertz_line lines.hertz computed.hertz) in
      omega (arith, v, w, computed.four, computed.five)

  no-first-liner : OnlyFirstLine p → ⊥
  unfolding unheard if◌then◌otherwise◌
  no-first-liner h =
      let one = line "VOLT 5" ∷ [] in
      let two = line "VOLT 5" ∷ line "VOLT?" ∷ [] in
      let alike = ap (λ (r : Result). r.number) (h (bytes "VOLT 5") (line "VOLT?" ∷ []) takes refl lines.asked refl) in
      omega (arith, sym computed.asked ∙ sym (number-next two lines.asked) ∙ alike ∙ number-next one lines.set ∙ computed.set)

  no-inventor : Invents p → ⊥
  unfolding happens
  no-inventor h = h.3 (ap (λ (r : Result). r.value) (next-is p m h.0 (received h.1) h.2))

pub rejected : Rejected
rejected =
    record {
      some_keep = some-keep;
      functions_meet = functions-meet;
      calls_tell = calls-tell;
      refusers = no-refuser;
      ignorers = no-ignorer;
      answerers = λ p a m. no-answerer p m a;
      first_liners = no-first-liner;
      inventors = no-inventor;
    }
