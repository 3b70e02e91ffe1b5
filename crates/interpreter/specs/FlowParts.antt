-- What the functions that take bytes in say. Nothing of 01 is defined here: see Line.antt.
use Rattle.std.specs.Prelude.{◌≡◌, ◌+◌, length, take}
use Rattle.registers.specs.Text.{index_of}
use Rattle.registers.specs.Text.{Text}
use Rattle.interpreter.specs.Box.{Memory, Box}
use Rattle.interpreter.specs.Line.{piece, newlines}
use Rattle.interpreter.specs.PresentParts.{Discarded}
use Rattle.interpreter.specs.LineParts.{LineRan, box_holding}
use Rattle.interpreter.specs.declared.flow.Flow.{Flow}

-- what the small part of a state means, with the line's array and the answer's and the lent memory
abbrev pub flow_box : Flow → Text → Text → Memory → Box
flow_box f line out m = box_holding f.present (take f.filled line) f.overlong (take f.present.answered out) m

-- the first line of a text with its newline, or all of a text that has none
unfoldable pub first_line : Text → Text
first_line l = take (index_of 10 l + 1) l

-- the answer is gone, and nothing else
pub record Untold (f r : Flow) : Type 0 where
  pub settings : r.present.settings ≡ f.present.settings
  pub status : r.present.status ≡ f.present.status
  pub answered : r.present.answered ≡ 0
  pub filled : r.filled ≡ f.filled
  pub overlong : r.overlong ≡ f.overlong
  pub read : r.read ≡ f.read

-- but for its small part a flow is as it was
pub record Alike (f r : Flow) : Type 0 where
  pub filled : r.filled ≡ f.filled
  pub overlong : r.overlong ≡ f.overlong
  pub read : r.read ≡ f.read
  pub count : r.count ≡ f.count

-- an answer is discarded, if one waits
abbrev pub Interrupted : Flow → Flow → Type 0
Interrupted f r = Discarded f.present r.present × Alike f r

-- the line that was held is run
abbrev pub HeldRan : Flow → Text → Memory → Flow → Text → Memory → Type 0
HeldRan f line m r out m' = LineRan f.present (take f.filled line) f.overlong m r.present out m' × Alike f r

-- bytes were taken in
pub record FlowFed (f : Flow) (line out : Text) (m : Memory) (bytes : Text) (r : Flow) (line' out' : Text) (m' : Memory) : Type 0 where
  pub box : flow_box r line' out' m' ≡ piece (flow_box f line out m) bytes
  pub read : r.read ≡ f.read + length bytes
  pub count : r.count ≡ f.count + newlines bytes
