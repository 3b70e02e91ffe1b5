-- The loop over a header's names. Invariant: header/Entering's `Naming`, the names before i stand after the path, or after none where a
-- colon leads, and the text at i tells the rest; the path is as long as it was. Measure: the bytes of the text after i; a name that
-- another follows has at least its colon.
use mathlib.Core.Path.{◌≡◌}
use mathlib.Core.Bool.{not, ◌||◌}
use Prim.Native.Nat.{◌-◌}
use lib.ListN.{length, take}
use mir.Val.{bool_byte}
use Rattle.interpreter.specs.TableParts.{or_zero}
use Rattle.interpreter.proofs.header.Entering.{Naming}
use Rattle.interpreter.proofs.header.read_names.Given as goal

abbrev pub invariant-loop-name : goal.invariant-loop-name
invariant-loop-name l =
    record {
      named : Naming (not l.star) l.text (bool_byte (l.star || l.root)) (take (or_zero (not l.root) l.initial.path.used) l.initial.path.names) l.path.names l.count l.i;
      kept : l.path.used ≡ l.initial.path.used;
    }

abbrev pub decreases-loop-name : goal.decreases-loop-name
decreases-loop-name l = length l.text - l.i
