-- 01: "These dummies have to be rejected". Each is defined by what it tells, for any program whatever it remembers, and a
-- program that does it stands beside it; each is rejected by that, held against demand 2's definition of an event. All is said of
-- histories that the types allow.
use Rattle.std.specs.Prelude.{◌≡◌, Bool, true, false, List, [], ◌∷◌, ◌++◌, ℕ, suc, eqb, ltb}
use Prim.Native.Char.{code}
use Rattle.std.proofs.Math.ListN as L
use Rattle.registers.specs.Text.{Text, if◌then◌otherwise◌, empty, every}
use Rattle.interpreter.specs.Cuts.{cut_open}
use Rattle.interpreter.specs.Box as lent
use Rattle.interpreter.specs.Box.{Box, box, raise, answer_is, power_up, blank}
use Rattle.interpreter.specs.Reply.{joined}
use Rattle.interpreter.specs.Line.{attempt, next, finished, units_of, at_newline, held, byte, newlines}
use Rattle.interpreter.specs.Events.{Event, started, received, take, condition, look, altered, mislent, Result, result_of, happens, results}
use Rattle.interpreter.specs.Histories.{is_piece, no_piece}
use Rattle.interpreter.specs.State.{Happens, Started}
use Rattle.interpreter.specs.Calls.{Calls}
use Rattle.interpreter.specs.declared.state.State.{State}

-- the first state, with a store of zeros
abbrev pub first : Box
first = power_up blank

-- ---- what the types allow: bytes, and a condition of sixteen bits

abbrev pub is_byte : ℕ → Bool
is_byte x = ltb x 256

abbrev pub typed : Event → Bool
typed started = true
typed (received xs) = every is_byte xs
typed (take buffer) = every is_byte buffer
typed (condition x n) = ltb n 65536
typed look = true
typed (altered i x) = is_byte x
typed (mislent buffer) = every is_byte buffer

-- a history, and one more event
abbrev pub Typed : List Event → Event → Type 0
Typed es e = every typed (es ++ e ∷ []) ≡ true

-- ---- a program: what it remembers at power-up, what it tells of an event, and what it remembers then

pub record Program : Type 1 where
  pub Memory : Type 0
  pub start : Memory
  pub tells : Memory → Event → Result
  pub keeps : Memory → Event → Memory

unfoldable pub told : (p : Program) → p.Memory → List Event → List Result
told p m [] = []
told p m (e ∷ es) = p.tells m e ∷ told p (p.keeps m e) es

unfoldable pub reached : (p : Program) → p.Memory → List Event → p.Memory
reached p m [] = m
reached p m (e ∷ es) = reached p (p.keeps m e) es

-- what it tells of one more event, in a history from power-up
abbrev pub tells_next : (p : Program) → List Event → Event → Result
tells_next p es e = p.tells (reached p p.start es) e

-- in every history from power-up it tells what the definition says
abbrev pub Meets : Program → Type 0
Meets p = (es : List Event) → every typed es ≡ true → told p p.start es ≡ results first es

-- the definition itself
abbrev pub the_box : Program
the_box = record { Memory = Box; start = first; tells = λ b e. (happens b e).result; keeps = λ b e. (happens b e).box }

-- the public functions, known by their promises alone
abbrev pub Does : Type 0
Does = State → lent.Memory → Event → Result × State × lent.Memory

-- they promise it of what is of their types, and hand back a state and a store that are
pub record Promised (begins : State) (does : Does) : Type 1 where
  pub Held : State → lent.Memory → Type 0
  pub at_start : Started begins
  pub first_held : Held begins blank
  pub events : (s : State) (m : lent.Memory) (e : Event) → Held s m → typed e ≡ true
      → let d = does s m e in Happens s m e d.0 d.1 d.2 × Held d.1 d.2

-- with the memory that they are lent
abbrev pub functions : State → Does → Program
functions begins does =
    record {
      Memory = State × lent.Memory;
      start = (begins, blank);
      tells = λ x e. (does x.0 x.1 e).0;
      keeps = λ x e. let d = does x.0 x.1 e in (d.1, d.2);
    }

-- ---- "one that refuses each unit": no query is obeyed, so that no take ever finds an answer

abbrev pub RefusesUnits : Program → Type 0
RefusesUnits p = (es : List Event) (buffer : Text) → Typed es (take buffer) → (tells_next p es (take buffer)).number ≡ 2

-- it is the box, but that the first unit of every line is refused by -113
unfoldable pub refusing_byte : Box → ℕ → Box
refusing_byte b x =
    let c = at_newline b in
    if eqb x 10
    then (if b.core.overlong then raise 363 c otherwise (if empty (units_of b.core.line) then c otherwise raise 113 c))
    otherwise box (held x b.core) b.trouble

unfoldable pub refusing_piece : Box → Text → Box
refusing_piece b [] = b
refusing_piece b (x ∷ xs) = refusing_piece (refusing_byte b x) xs

abbrev pub refusing : Box → Event → Box
refusing b started = power_up b.core.memory
refusing b (received xs) = refusing_piece b xs
refusing b (take buffer) = (happens b (take buffer)).box
refusing b (condition x n) = (happens b (condition x n)).box
refusing b look = b
refusing b (altered i x) = (happens b (altered i x)).box
refusing b (mislent buffer) = b

abbrev pub refuser : Program
refuser = record { Memory = Box; start = first; tells = λ b e. (happens b e).result; keeps = refusing }

-- ---- "one that ignores all pieces": of any other event it tells what it tells without them, whatever it tells of the pieces

-- a history without its pieces
unfoldable pub unheard : List Event → List Event
unheard [] = []
unheard (e ∷ es) = let more = unheard es in if is_piece e then more otherwise e ∷ more

abbrev pub IgnoresPieces : Program → Type 0
IgnoresPieces p = (es : List Event) (e : Event) → Typed es e → no_piece e ≡ true → tells_next p es e ≡ tells_next p (unheard es) e

abbrev pub ignoring : Box → Event → Box
ignoring b started = power_up b.core.memory
ignoring b (received xs) = b
ignoring b (take buffer) = (happens b (take buffer)).box
ignoring b (condition x n) = (happens b (condition x n)).box
ignoring b look = b
ignoring b (altered i x) = (happens b (altered i x)).box
ignoring b (mislent buffer) = b

abbrev pub ignorer : Program
ignorer = record { Memory = Box; start = first; tells = λ b e. (happens b e).result; keeps = ignoring }

-- ---- "one with a fixed answer": whatever one unit the first line is, the answer that is then taken is the same. So is one that answers `0` to every
-- query, and `0;0` to two

-- the history of one line
abbrev pub one_line : Text → List Event
one_line l = received (l ++ 10 ∷ []) ∷ []

abbrev pub AnswersAlike : Text → Program → Type 0
AnswersAlike a p = (l buffer : Text) → cut_open (code ";") 0 l ≡ l ∷ [] → newlines l ≡ 0 → Typed (one_line l) (take buffer) →
    let r = tells_next p (one_line l) (take buffer) in r.number ≡ 0 → L.take r.value r.buffer ≡ a

-- it is the box, but that this answer stands in the place of every other
unfoldable pub answering : Text → Box → Box
answering a b = if empty b.core.answer then b otherwise answer_is a b

abbrev pub fixed_answer : Text → Program
fixed_answer a =
    record { Memory = Box; start = first; tells = λ b e. (happens b e).result; keeps = λ b e. answering a (happens b e).box }

-- one that answers this to every query, as `0`, and `0;0` to two: it is the box, but that a unit's own answer is replaced
abbrev pub instead : Text → Box → Box → Box
instead a b c = if eqb (L.length c.core.answer) (L.length b.core.answer) then c otherwise answer_is (joined b.core.answer a) c

unfoldable pub each_unit : Text → List Text → List Text → Box → Box
each_unit a [] path b = b
each_unit a (u ∷ us) path b = next (λ p c. each_unit a us p (instead a b c)) b (attempt path b u)

unfoldable pub each_byte : Text → Box → ℕ → Box
each_byte a b x =
    let c = at_newline b in
    if eqb x 10
    then (if b.core.overlong then raise 363 c otherwise finished (each_unit a (units_of b.core.line) [] c))
    otherwise box (held x b.core) b.trouble

unfoldable pub each_piece : Text → Box → Text → Box
each_piece a b [] = b
each_piece a b (x ∷ xs) = each_piece a (each_byte a b x) xs

abbrev pub answering_each : Text → Box → Event → Box
answering_each a b started = power_up b.core.memory
answering_each a b (received xs) = each_piece a b xs
answering_each a b (take buffer) = (happens b (take buffer)).box
answering_each a b (condition x n) = (happens b (condition x n)).box
answering_each a b look = b
answering_each a b (altered i x) = (happens b (altered i x)).box
answering_each a b (mislent buffer) = b

abbrev pub each_answer : Text → Program
each_answer a = record { Memory = Box; start = first; tells = λ b e. (happens b e).result; keeps = answering_each a }

-- ---- "one that obeys the first line and afterwards only reports success": after a first line, until the next power-up, it tells of any other event
-- what it tells without the pieces, whatever it tells of those

abbrev pub no_start : Event → Bool
no_start started = false
no_start (received xs) = true
no_start (take buffer) = true
no_start (condition x n) = true
no_start look = true
no_start (altered i x) = true
no_start (mislent buffer) = true

abbrev pub OnlyFirstLine : Program → Type 0
OnlyFirstLine p = (l : Text) (es : List Event) (e : Event) → every no_start es ≡ true → Typed (one_line l ++ es) e → no_piece e ≡ true
    → tells_next p (one_line l ++ es) e ≡ tells_next p (one_line l ++ unheard es) e

-- it is the box until the first newline, which it obeys too, and drops all bytes after it
unfoldable pub first_byte : Box × Bool → ℕ → Box × Bool
first_byte m x = if m.1 then m otherwise (byte m.0 x, eqb x 10)

unfoldable pub first_piece : Box × Bool → Text → Box × Bool
first_piece m [] = m
first_piece m (x ∷ xs) = first_piece (first_byte m x) xs

abbrev pub first_only : Box × Bool → Event → Box × Bool
first_only m started = ((happens m.0 started).box, false)
first_only m (received xs) = first_piece m xs
first_only m (take buffer) = ((happens m.0 (take buffer)).box, m.1)
first_only m (condition x n) = ((happens m.0 (condition x n)).box, m.1)
first_only m look = m
first_only m (altered i x) = ((happens m.0 (altered i x)).box, m.1)
first_only m (mislent buffer) = m

abbrev pub first_liner : Program
first_liner =
    record { Memory = Box × Bool; start = (first, false); tells = λ m e. (happens m.0 e).result; keeps = first_only }

-- one that besides counts the events
abbrev pub first_counter : Program
first_counter =
    record {
      Memory = (Box × Bool) × ℕ;
      start = ((first, false), 0);
      tells = λ m e. (happens m.0.0 e).result;
      keeps = λ m e. (first_only m.0 e, suc m.1);
    }

-- ---- "one that invents the newline count (it is the piece's own count)"

abbrev pub Invents : Program → Type 0
Invents p = (es : List Event) × (xs : Text) × Typed es (received xs) × ((tells_next p es (received xs)).value ≡ newlines xs → ⊥)

-- it is the box, but that every piece has the same count
abbrev pub invented : ℕ → Box → Event → Result
invented k b started = (happens b started).result
invented k b (received xs) = result_of 0 k []
invented k b (take buffer) = (happens b (take buffer)).result
invented k b (condition x n) = (happens b (condition x n)).result
invented k b look = (happens b look).result
invented k b (altered i x) = (happens b (altered i x)).result
invented k b (mislent buffer) = (happens b (mislent buffer)).result

abbrev pub inventor : ℕ → Program
inventor k = record { Memory = Box; start = first; tells = invented k; keeps = λ b e. (happens b e).box }

-- ---- all five are rejected, and each of the programs above is one of them

pub record Rejected : Type 1 where
  -- the public functions are none of them: functions that keep their promises are there, and meet the definition, and whatever calls of them told since a power-up,
  -- each known by its own promise, is what the definition tells
  pub some_keep : (begins : State) × (does : Does) × Promised begins does
  pub functions_meet : (begins : State) (does : Does) → Promised begins does → Meets (functions begins does)
  pub calls_tell : (s t : State) (n : lent.Memory) (es : List Event) (rs : List Result) → Started s → Calls t n s blank es rs → rs ≡ results first es
  pub refusers : (p : Program) → Meets p → RefusesUnits p → ⊥
  pub ignorers : (p : Program) → Meets p → IgnoresPieces p → ⊥
  pub answerers : (p : Program) (a : Text) → Meets p → AnswersAlike a p → ⊥
  pub first_liners : (p : Program) → Meets p → OnlyFirstLine p → ⊥
  pub inventors : (p : Program) → Meets p → Invents p → ⊥

pub record AreSo : Type 0 where
  pub refuser : RefusesUnits refuser
  pub ignorer : IgnoresPieces ignorer
  pub fixed_answer : (a : Text) → AnswersAlike a (fixed_answer a)
  pub each_answer : (a : Text) → AnswersAlike (a ++ 10 ∷ []) (each_answer a)
  pub first_liner : OnlyFirstLine first_liner
  pub first_counter : OnlyFirstLine first_counter
  -- it does obey the first line, whatever that is
  pub first_obeyed : (l : Text) → newlines l ≡ 0
      → first_piece (first, false) (l ++ 10 ∷ []) ≡ ((happens first (received (l ++ 10 ∷ []))).box, true)
  pub inventor : (k : ℕ) → Invents (inventor k)
