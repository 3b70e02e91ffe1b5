-- What the functions inside the chunk server say. Nothing of 01 is defined here: see Server.antt.
use Rattle.std.specs.Prelude.{◌≡◌, [], ℕ, ◌≤◌, length, take, drop}
use Rattle.registers.specs.Text.{Text}
use Rattle.interpreter.specs.Box.{Memory}
use Rattle.interpreter.specs.FlowParts.{flow_box}
use Rattle.interpreter.specs.declared.flow.Flow.{Flow}
use Rattle.interpreter.specs.declared.server.Progress.{Progress}
use Rattle.interpreter.specs.Server.{Service, service, serves, lines_of}

-- how far the code got means this
abbrev pub service_at : Flow → ℕ → Text → Text → Memory → Text → Service
service_at f written line out m output = service (flow_box f line out m) f.read (take written output) (drop written output)

pub record FlowServed (f : Flow) (line out : Text) (m : Memory) (input output : Text) (r : Progress) (line' out' : Text) (m' : Memory) (output' : Text) : Type 0 where
  pub within : r.written ≤ length output'
  pub service : service_at r.flow r.written line' out' m' output' ≡ serves (service (flow_box f line out m) 0 [] output) (lines_of input)
