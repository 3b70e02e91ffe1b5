-- 02, #114, "session marker": "reads a saved session, `>` before each sent line and `<` before each answer, and reports the first line whose
-- recorded answer differs from the box's (from power-up; an answer on one side only differs), or says that all agree". "At an empty line or
-- another first byte it reports a broken record with its line number and stops". Lines are counted from 1.
use Rattle.std.specs.Prelude.{◌≡◌, not, List, [], ◌∷◌, ◌++◌, map, ℕ, suc, pred, ◌+◌, ◌≤◌, eqb, length}
use Prim.Native.Char.{code}
use Rattle.registers.specs.Text.{Text, if◌then◌otherwise◌, empty, first, rest, start, same}
use Rattle.interpreter.specs.Cuts.{front}
use Rattle.interpreter.specs.Box.{Box, power_up, blank}
use Rattle.interpreter.specs.Events.{received, happens}
use Rattle.interpreter.specs.Server.{lines_of, heard_line}

-- ---- what is known as a line is read

pub record Marking : Type 0 where
  pub box : Box  -- after the lines sent so far, each answer taken
  pub sent : ℕ  -- the last line that was sent, 0 before the first
  pub answer : Text  -- the box's answer to it with its newline, until it is found in the record; empty where there is none

pub data Verdict : Type 0 where
  agree : ℕ → Verdict  -- all so many lines
  -- at the first line, which was sent; it shows at the second, the recorded answer or what stands in its place, or after the last line; and the
  -- box's answer, empty where there is none left
  differs : ℕ → ℕ → Text → Verdict
  broken : ℕ → Verdict  -- at this line

pub data Stepped : Type 0 where
  goes : Marking → Stepped
  stops : Verdict → Stepped

-- ---- one line

-- the bytes behind `>` are sent, with a newline; the answer to the line before must have been recorded
abbrev pub line_sent : Marking → ℕ → Text → Stepped
line_sent k n x =
    let l = rest x ++ 10 ∷ [] in
    if empty k.answer
    then goes (record { box = heard_line k.box l; sent = n; answer = (happens k.box (received l)).box.core.answer })
    otherwise stops (differs k.sent n k.answer)

-- the bytes behind `<` are the answer, without its newline. It differs at the line that was sent, at its own before any
abbrev pub answer_read : Marking → ℕ → Text → Stepped
answer_read k n x =
    if same k.answer (rest x ++ 10 ∷ [])
    then goes (record { box = k.box; sent = k.sent; answer = [] })
    otherwise stops (differs (if eqb k.sent 0 then n otherwise k.sent) n k.answer)

unfoldable pub line_read : Marking → ℕ → Text → Stepped
line_read k n x =
    if eqb (first x) (code ">") then line_sent k n x
    otherwise (if eqb (first x) (code "<") then answer_read k n x otherwise stops (broken n))

-- ---- all lines

-- a line without its newline, which the last may lack
abbrev pub bare : Text → Text
bare l = start (λ x. not (eqb x 10)) l

abbrev pub next_line : (Marking → Verdict) → Stepped → Verdict
next_line go (goes k) = go k
next_line go (stops v) = v

-- from the line with the number n on
unfoldable pub marked : Marking → ℕ → List Text → Verdict
marked k n [] = if empty k.answer then agree (pred n) otherwise differs k.sent n k.answer
marked k n (l ∷ ls) = next_line (λ j. marked j (suc n) ls) (line_read k n (bare l))

-- "from power-up", with a store of zeros
abbrev pub at_power_up : Box
at_power_up = power_up blank

abbrev pub verdict_on : Text → Verdict
verdict_on session = marked (record { box = at_power_up; sent = 0; answer = [] }) 1 (lines_of session)

-- ---- what a right record is

-- an answer as a session records it; none where there is none
abbrev pub as_recorded : Text → List Text
as_recorded a = if empty a then [] otherwise (code "<" ∷ front a) ∷ []

abbrev pub answer_to : Box → Text → Text
answer_to b x = (happens b (received (x ++ 10 ∷ []))).box.core.answer

-- lines sent to a box one after another, each with its answer
unfoldable pub record_of : Box → List Text → List Text
record_of b [] = []
record_of b (x ∷ xs) = (code ">" ∷ x) ∷ as_recorded (answer_to b x) ++ record_of (heard_line b (x ++ 10 ∷ [])) xs

-- a session whose lines all agree is the right record of some lines sent from power-up
abbrev pub AgreeingIsRight : Type 0
AgreeingIsRight = (session : Text) (n : ℕ) → verdict_on session ≡ agree n
    → (n ≡ length (lines_of session)) × ((xs : List Text) × (map bare (lines_of session) ≡ record_of at_power_up xs))

-- and a right record is marked as agreeing
abbrev pub RightIsAgreeing : Type 0
RightIsAgreeing = (session : Text) (xs : List Text) → map bare (lines_of session) ≡ record_of at_power_up xs → verdict_on session ≡ agree (length (lines_of session))

-- what stands behind a sent line is its answer and then no other
abbrev pub NoAnswer : List Text → Type 0
NoAnswer [] = Unit {0}
NoAnswer (l ∷ ls) = first l ≡ code "<" → ⊥

abbrev pub RightBehind : Text → List Text → Type 0
RightBehind a ls = (zs : List Text) × (ls ≡ as_recorded a ++ zs) × NoAnswer zs

-- where lines lead
unfoldable pub heard_lines : Box → List Text → Box
heard_lines b [] = b
heard_lines b (x ∷ xs) = heard_lines (heard_line b (x ++ 10 ∷ [])) xs

-- a line that differs: it was sent to the box that a right record of all lines before it leads to, and what stands behind it isn't its answer
pub record Astray (b : Box) (before : ℕ) (ls : List Text) (m : ℕ) : Type 0 where
  pub sent : List Text
  pub line : Text
  pub behind : List Text
  pub is : ls ≡ record_of b sent ++ (code ">" ∷ line) ∷ behind
  pub number : m ≡ before + length (record_of b sent) + 1
  pub wrong : RightBehind (answer_to (heard_lines b sent) line) behind → ⊥

-- or the session begins with an answer
abbrev pub DifferingIsAstray : Type 0
DifferingIsAstray = (session : Text) (m j : ℕ) (a : Text) → verdict_on session ≡ differs m j a
    → let ls = map bare (lines_of session) in (NoAnswer ls → Astray at_power_up 0 ls m) × ((NoAnswer ls → ⊥) → m ≡ 1)

-- a broken line: it is empty or has another first byte, and what stands before it is a right record, or one that lacks its last answer
pub record BrokenAt (b : Box) (ls : List Text) (m : ℕ) : Type 0 where
  pub before : List Text
  pub line : Text
  pub behind : List Text
  pub is : ls ≡ before ++ line ∷ behind
  pub number : m ≡ length before + 1
  pub neither : (first line ≡ code ">" → ⊥) × (first line ≡ code "<" → ⊥)
  pub sent : List Text
  pub missing : List Text
  pub right : before ++ missing ≡ record_of b sent
  pub one : length missing ≤ 1

abbrev pub BrokenIsBroken : Type 0
BrokenIsBroken = (session : Text) (m : ℕ) → verdict_on session ≡ broken m → BrokenAt at_power_up (map bare (lines_of session)) m

pub record MarksRight : Type 0 where
  pub agreeing : AgreeingIsRight
  pub right : RightIsAgreeing
  pub differing : DifferingIsAstray
  pub breaking : BrokenIsBroken
