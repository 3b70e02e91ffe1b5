-- Eight bytes of the table, low byte first, are the number of a word's form (`key-read`, table/Cells).
use mathlib.Core.Path.{◌≡◌, ◌∙◌}
use Prim.Native.Nat.{◌+◌, ◌*◌, ◌-◌}
use native.Mathlib.Omega.{arith}
use Rattle.interpreter.specs.TableParts.{first_key, keys_size}
use Rattle.interpreter.proofs.table.Cells.{key-read, eight-worth}
use Rattle.interpreter.proofs.table.Table.key_cell.Goals as goal

pub returns : goal.returns
returns c =
    let a = c.args in
    let wide : first_key + a.word * keys_size + a.i * 8 + 8 - (first_key + a.word * keys_size + a.i * 8) ≡ 8 = omega arith in
    (rw (wide, a.self.now.has_01s_rows, key-read a.word c.requires.0 a.i c.requires.1) at c.from_le_bytes.ensures) ∙ eight-worth _
