-- The rows so far have their lines.
use mathlib.Core.Path.{◌≡◌}
use Rattle.writer.specs.Lines.{lines_to}
use Rattle.writer.specs.LinesParts.{channel_number}
use Rattle.writer.proofs.lines.Draft.of.Given as goal

abbrev pub invariant-loop-place : goal.invariant-loop-place
invariant-loop-place l = l.draft ≡ lines_to l.present l.wanted (channel_number l.channel) l.place
