-- The loop over the parts, and that over the bytes after them. Invariant of each: what was written so far is the bytes so far in hex.
use Rattle.std.proofs.Common.{take, flat_map}
use Rattle.std.specs.Fmt.{HasWritten, IsPlainFormatter}
use Rattle.player.specs.ReportParts.{hex_byte}
use Rattle.player.proofs.report.Laws.{hex_parts}
use Rattle.player.proofs.report.HexDisplay.fmt.Given as goal

abbrev pub invariant-loop-part : goal.invariant-loop-part
invariant-loop-part g l =
    IsPlainFormatter l.initial.f → HasWritten g.W.Write.write_str_gives l.initial.f (hex_parts (take l.part-index l.parts)) l.f

abbrev pub invariant-loop-b : goal.invariant-loop-b
invariant-loop-b g l =
    IsPlainFormatter l.initial.f → HasWritten g.W.Write.write_str_gives l.initial.f (flat_map hex_byte (take l.b-index l.rest)) l.f
