-- What the functions that raise an error, refuse a unit or discard an answer say. Nothing of 01 is defined here: see Line.antt.
use Rattle.std.specs.Prelude.{◌≡◌, Bool, false, ◌&&◌, [], ◌≤◌, ◌<◌, length, take}
use Rattle.registers.specs.Text.{Text}
use Rattle.registers.specs.Error.{number_of}
use Rattle.registers.specs.Settings.{possible_settings, AsLong}
use Rattle.registers.specs.Status.{Registers, registers_of, trouble_of, raised_in, possible_status}
use Rattle.registers.specs.Queue.{most}
use Rattle.registers.specs.declared.error.Error.{Error}
use Rattle.registers.specs.declared.settings.Settings.{Settings}
use Rattle.registers.specs.declared.status.Status.{Status}
use Rattle.interpreter.specs.Box.{Memory, blank, Core, Box, box}
use Rattle.interpreter.specs.Line.{refuse, interrupted}
use Rattle.interpreter.specs.declared.present.Present.{Present}

-- ---- what settings and status mean while a line runs: its bytes are taken, a is what its units answered so far, and m the lent memory

abbrev pub core_of : Settings → Registers → Text → Memory → Core
core_of s r a m = record { settings = s; registers = r; line = []; overlong = false; answer = a; memory = m }

-- where neither the answers so far nor the memory are seen
abbrev pub core_in : Settings → Status → Core
core_in s t = core_of s (registers_of t) [] blank

abbrev pub box_in : Present → Text → Memory → Box
box_in p a m = box (core_of p.settings (registers_of p.status) a m) (trouble_of p.status)

-- with the answer's buffer
abbrev pub box_at : Present → Text → Memory → Box
box_at p out m = box_in p (take p.answered out) m

-- ---- what each function leaves

-- refusal 4 on settings and status, whose arrays are as long as the code makes them
pub record Tested (p : Present) (r : Bool) : Type 0 where
  pub is : r ≡ (possible_settings p.settings && possible_status p.status)
  pub values : AsLong p.settings
  pub errors : length p.status.errors ≡ most

unfoldable pub raised_with : Error → Present → Present
raised_with e p = record { settings = p.settings; status = raised_in (number_of e) p.status; answered = p.answered }

pub record RefusedWith (e : Error) (p r : Present) : Type 0 where
  pub box : (out : Text) (m : Memory) → box_at r out m ≡ refuse (number_of e) (box_at p out m)
  pub queued : p.status.queued ≤ most → r.status.queued ≤ most
  pub room : r.answered ≤ p.answered

-- an answer is discarded, if one waits
pub record Discarded (p r : Present) : Type 0 where
  pub queued : p.status.queued ≤ most → r.status.queued ≤ most
  pub gone : r.answered ≡ 0
  pub box : (out : Text) (m : Memory) → 0 < length out → box_in r [] m ≡ interrupted (box_at p out m)
