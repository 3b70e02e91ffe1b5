-- Demand 3: a refused line, and the same history with that line cut to the units that were obeyed.
use Rattle.std.specs.Prelude.{◌≡◌, Bool, true, false, not, List, [], ◌∷◌, ◌++◌, ℕ, ◌-◌, eqb, length, drop}
use Prim.Native.Char.{code}
use Rattle.std.proofs.Math.ListN as L
use Rattle.registers.specs.Text.{Text, if◌then◌otherwise◌, every}
use Rattle.registers.specs.Check.{Checked, refused, passed}
use Rattle.interpreter.specs.Box.{Memory, Core, Box, power_up}
use Rattle.interpreter.specs.Unit.{Read, read_unit}
use Rattle.interpreter.specs.Line.{Obeyed, attempt, units_of, at_newline, byte}
use Rattle.interpreter.specs.Events.{Event, started, received, take, condition, look, altered, mislent, Result, happens, after}
use Rattle.interpreter.specs.Histories.{newline, Recut, is_take, is_piece, no_piece, how_many, results_of, summed}
use Rattle.interpreter.specs.declared.deed.Deed.{Deed}
use Rattle.interpreter.specs.declared.deed.Deed.TheVariants.{Change, Complete, Clear, Query, Inquire, Saving}

-- ---- "refused at unit n+1": the first n units, those that are obeyed, and the number of the refusal, or 0

abbrev pub obeyed_next : (List Text → Box → List Text) → Text → Checked Obeyed → List Text
obeyed_next go u (refused n) = []
obeyed_next go u (passed o) = u ∷ go o.path o.box

unfoldable pub obeyed : List Text → List Text → Box → List Text
obeyed [] path b = []
obeyed (u ∷ us) path b = obeyed_next (λ p c. obeyed us p c) u (attempt path b u)

abbrev pub refusal_next : (List Text → Box → ℕ) → Checked Obeyed → ℕ
refusal_next go (refused n) = n
refusal_next go (passed o) = go o.path o.box

unfoldable pub refusal : List Text → List Text → Box → ℕ
refusal [] path b = 0
refusal (u ∷ us) path b = refusal_next (λ p c. refusal us p c) (attempt path b u)

-- ---- "that line cut to its first n units"; "an overlong line counts as n = 0"

unfoldable pub join_units : List Text → Text
join_units [] = []
join_units (u ∷ []) = u
join_units (u ∷ v ∷ us) = u ++ code ";" ∷ join_units (v ∷ us)

unfoldable pub cut_line : Box → Text
cut_line b = if b.core.overlong then [] otherwise join_units (obeyed (units_of b.core.line) [] (at_newline b))

unfoldable pub line_refusal : Box → ℕ
line_refusal b = if b.core.overlong then 363 otherwise refusal (units_of b.core.line) [] (at_newline b)

-- of the bytes received only the first k, and every other event
unfoldable pub keep : ℕ → List Event → List Event
keep k [] = []
keep k (started ∷ es) = started ∷ keep k es
keep k (received xs ∷ es) = received (L.take k xs) ∷ keep (k - length xs) es
keep k (take buffer ∷ es) = take buffer ∷ keep k es
keep k (condition x n ∷ es) = condition x n ∷ keep k es
keep k (look ∷ es) = look ∷ keep k es
keep k (altered i x ∷ es) = altered i x ∷ keep k es
keep k (mislent buffer ∷ es) = mislent buffer ∷ keep k es

-- ---- a line in a history: `before` it, its bytes and what else happens `during` it, and its newline

-- an event while a line is under way: no newline, no power-up
unfoldable pub in_line : Event → Bool
in_line started = false
in_line (received xs) = every (λ x. not (eqb x 10)) xs
in_line (take buffer) = true
in_line (condition x n) = true
in_line look = true
in_line (altered i x) = true
in_line (mislent buffer) = true

-- the box as the newline comes; m is the memory that is there at power-up
abbrev pub at_end : Memory → List Event → List Event → Box
at_end m before during = after (power_up m) (before ++ during)

abbrev pub as_sent : List Event → List Event → List Event
as_sent before during = before ++ during ++ newline ∷ []

abbrev pub as_cut : Memory → List Event → List Event → List Event
as_cut m before during = before ++ keep (length (cut_line (at_end m before during))) during ++ newline ∷ []

-- no byte of a line has come
abbrev pub Fresh : Core → Type 0
Fresh c = (c.line ≡ []) × (c.overlong ≡ false)

-- a line begins at power-up and after every newline
abbrev pub LinesBegin : Type 0
LinesBegin = (m : Memory) → Fresh (power_up m).core × ((es : List Event) → Fresh (after (power_up m) (es ++ newline ∷ [])).core)

-- "any line in it that is refused .. by a number other than -430"; of one that is not refused nothing is cut but a blank line's white space
pub record ALine (m : Memory) (before during : List Event) : Type 0 where
  pub begins : Fresh (after (power_up m) before).core
  pub under_way : every in_line during ≡ true
  pub other : line_refusal (at_end m before during) ≡ 430 → ⊥

-- ---- what comes first afterwards: a unit that asks *ESR?, *STB? or SYST:ERR?, or an obeyed *CLS

pub data Watch : Type 0 where
  neither : Watch
  asked : Watch
  cleared : Watch

-- the first that is not neither
abbrev pub then_watch : Watch → Watch → Watch
then_watch neither w = w
then_watch asked w = asked
then_watch cleared w = cleared

abbrev pub watch_deed : Deed → Watch
watch_deed (Change x) = neither
watch_deed Complete = neither
watch_deed Clear = cleared
watch_deed (Query q) = neither
watch_deed (Inquire q) = asked
watch_deed (Saving x p) = neither

-- a unit asks if checks 1 to 7 accept it as such a query, even if -430 then refuses it: the lock and check 8 refuse no query
abbrev pub watch_read : Checked Read → Watch
watch_read (refused n) = neither
watch_read (passed r) = watch_deed r.deed

abbrev pub watch_next : (List Text → Box → Watch) → Checked Obeyed → Watch
watch_next go (refused n) = neither
watch_next go (passed o) = go o.path o.box

unfoldable pub watch_units : List Text → List Text → Box → Watch
watch_units [] path b = neither
watch_units (u ∷ us) path b =
    then_watch (watch_read (read_unit b.core.settings path u)) (watch_next (λ p c. watch_units us p c) (attempt path b u))

unfoldable pub watch_line : Text → Bool → Box → Watch
watch_line line overlong b = if overlong then neither otherwise watch_units (units_of line) [] b

unfoldable pub watch_byte : Box → ℕ → Watch
watch_byte b x = if eqb x 10 then watch_line b.core.line b.core.overlong (at_newline b) otherwise neither

unfoldable pub watch_piece : Box → Text → Watch
watch_piece b [] = neither
watch_piece b (x ∷ xs) = then_watch (watch_byte b x) (watch_piece (byte b x) xs)

-- a power-up leaves no difference either
unfoldable pub watch_event : Box → Event → Watch
watch_event b started = cleared
watch_event b (received xs) = watch_piece b xs
watch_event b (take buffer) = neither
watch_event b (condition x n) = neither
watch_event b look = neither
watch_event b (altered i x) = neither
watch_event b (mislent buffer) = neither

unfoldable pub watch : Box → List Event → Watch
watch b [] = neither
watch b (e ∷ es) = then_watch (watch_event b e) (watch (happens b e).box es)

-- ---- the demand

-- two boxes agree "in all but the error queue and the event status register", the lent memory too (02, #108), from an obeyed *CLS on wholly; nothing is said
-- once a unit has asked
abbrev pub Agree : Watch → Box → Box → Type 0
Agree neither a b = a.core ≡ b.core
Agree cleared a b = a ≡ b
Agree asked a b = Unit {0}

abbrev pub AgreeAnswers : Watch → List Result → List Result → Type 0
AgreeAnswers neither x y = x ≡ y
AgreeAnswers cleared x y = x ≡ y
AgreeAnswers asked x y = Unit {0}

-- how many events are no pieces
abbrev pub others : List Event → ℕ
others = how_many no_piece

-- the history with the line as it was sent left the box a and these results, the one with the line cut the box b and those
pub record Demand3 (m : Memory) (before during later : List Event) (a b : Box) (these those : (Event → Bool) → List Result) : Type 0 where
  -- what comes first afterwards is the same in both
  pub first : watch (after (power_up m) (as_sent before during)) later ≡ watch (after (power_up m) (as_cut m before during)) later
  -- with nothing `later` it is the state at the line's newline
  pub state : Agree (watch (after (power_up m) (as_sent before during)) later) a b
  -- "every answer taken agrees meanwhile"
  pub taken : AgreeAnswers (watch (after (power_up m) (as_sent before during)) later) (these is_take) (those is_take)
  -- "from that *CLS on .. all results agree": those after the results of the events before it
  pub results : (meanwhile onward : List Event) → later ≡ meanwhile ++ onward
      → watch (after (power_up m) (as_sent before during)) meanwhile ≡ cleared
      → drop (others (before ++ during ++ meanwhile)) (these no_piece) ≡ drop (others (before ++ during ++ meanwhile)) (those no_piece)
  -- the pieces' own counts go by the pieces, their sum by the bytes: the cut line has its newline too
  pub counts : summed (these is_piece) ≡ summed (those is_piece)

-- h is the history with the line as it was sent, h' the same with the line cut, each in any pieces
abbrev pub Statement : Type 0
Statement =
    (m : Memory) (before during later h h' : List Event) → ALine m before during
    → Recut h (as_sent before during ++ later) → Recut h' (as_cut m before during ++ later)
    → Demand3 m before during later (after (power_up m) h) (after (power_up m) h') (λ p. results_of p (power_up m) h) (λ p. results_of p (power_up m) h')
