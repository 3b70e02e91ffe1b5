-- "Lines and units": the units of a line left to right, the newline, and bytes as they come in. The event of a piece.
use Rattle.std.specs.Prelude.{Bool, true, false, List, [], ◌∷◌, ◌++◌, ltb, eqb, length}
use Prim.Native.Nat.{ℕ}
use Prim.Native.Char.{code}
use Rattle.registers.specs.Text.{Text, if◌then◌otherwise◌, white, every, empty}
use Rattle.registers.specs.Check.{Checked, refused, passed, ◌>>=◌, ◌>>◌}
use Rattle.interpreter.specs.Cuts.{cut_open}
use Rattle.interpreter.specs.Box.{Core, Box, box, raise, with_line, answer_is, most_line}
use Rattle.interpreter.specs.Unit.{read_unit}
use Rattle.interpreter.specs.Perform.{permitted, perform}

-- ---- one unit: checks 1 to 7, the lock and check 8, and what it does with check 9

-- an obeyed unit leaves the path for the next one, and the box
pub record Obeyed : Type 0 where
  pub path : List Text
  pub box : Box

unfoldable pub attempt : List Text → Box → Text → Checked Obeyed
attempt path b u =
    read_unit b.core.settings path u >>= λ r.
    permitted r.deed b.core >>
    perform r.deed r.text b >>= λ c.
    passed (record { path = r.path; box = c })

-- "raises one error and changes nothing else (but check 9 drops the answer)"
unfoldable pub refuse : ℕ → Box → Box
refuse n b = raise n (if eqb n 430 then answer_is [] b otherwise b)

-- ---- "Units run left to right. The first refused unit .., and the rest of the line is dropped"

abbrev pub next : (List Text → Box → Box) → Box → Checked Obeyed → Box
next go b (refused n) = refuse n b
next go b (passed o) = go o.path o.box

unfoldable pub run_units : List Text → List Text → Box → Box
run_units [] path b = b
run_units (u ∷ us) path b = next (λ p c. run_units us p c) b (attempt path b u)

-- ---- the newline

-- "a waiting answer is first discarded with -410"
unfoldable pub interrupted : Box → Box
interrupted b = if empty b.core.answer then b otherwise raise 410 (answer_is [] b)

-- "Answers of one line are joined by `;` and ended by a newline"
unfoldable pub finished : Box → Box
finished b = if empty b.core.answer then b otherwise answer_is (b.core.answer ++ 10 ∷ []) b

-- "A blank line .. does nothing else. Otherwise the line is cut at every `;`"
unfoldable pub units_of : Text → List Text
units_of line = if every white line then [] otherwise cut_open (code ";") 0 line

-- "at the newline -363 is raised and no unit runs"; "Each line starts at the root"
unfoldable pub run_line : Text → Bool → Box → Box
run_line line overlong b = if overlong then raise 363 b otherwise finished (run_units (units_of line) [] b)

-- the box in which the units of the waiting line run: its bytes are taken, and -410 comes "also of a blank or overlong line"
abbrev pub at_newline : Box → Box
at_newline b = interrupted (box (with_line [] false b.core) b.trouble)

unfoldable pub end_line : Box → Box
end_line b = run_line b.core.line b.core.overlong (at_newline b)

-- ---- bytes

-- "further bytes are dropped"
unfoldable pub held : ℕ → Core → Core
held x c = if ltb (length c.line) most_line then with_line (c.line ++ x ∷ []) c.overlong c otherwise with_line c.line true c

-- "A newline (byte 10) ends a line, always"
unfoldable pub byte : Box → ℕ → Box
byte b x = if eqb x 10 then end_line b otherwise box (held x b.core) b.trouble

-- "A piece behaves as its bytes one at a time"
unfoldable pub piece : Box → Text → Box
piece b [] = b
piece b (x ∷ xs) = piece (byte b x) xs

-- "The result is the number of newlines in the piece"
unfoldable pub newlines : Text → ℕ
newlines [] = 0
newlines (x ∷ xs) = let more = newlines xs in if eqb x 10 then Prim.Native.Nat.suc more otherwise more
