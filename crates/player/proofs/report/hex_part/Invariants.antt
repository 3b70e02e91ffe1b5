-- The loop over the bytes. Invariant: the pairs so far are the digits of the bytes so far.
use Rattle.std.proofs.Common.{◌≡◌, length, map, take}
use Rattle.player.specs.ReportParts.{hex_byte}
use Rattle.player.proofs.report.hex_part.Given as goal

abbrev pub invariant-loop-i : goal.invariant-loop-i
invariant-loop-i l = record { all : length l.pairs ≡ 16; so_far : take l.i l.pairs ≡ map hex_byte (take l.i l.part) }
