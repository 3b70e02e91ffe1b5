-- What a row is for, as the code tells it. Nothing of 01 is defined here: see Rows.antt.
use Rattle.std.specs.Prelude.{◌&&◌, ◌++◌, map, ℕ, ◌+◌, ◌-◌, leb, ltb, eqb, get_or}
use Rattle.registers.specs.Text.{if◌then◌otherwise◌}
use Rattle.registers.specs.Check.{Checked, refused, passed}
use Rattle.registers.specs.Settings.{count, table_count, slots}
use Rattle.interpreter.specs.Rows.{Row, rows, setting_rows, other_rows, monitor, brightness}
use Rattle.interpreter.specs.declared.deed.Role.{Role}
use Rattle.interpreter.specs.declared.deed.Role.TheVariants.{Setting}

-- how many rows there are
abbrev pub row_count : ℕ
row_count = 47

-- what a row is for
unfoldable pub row_role : ℕ → Role
row_role i = get_or (map (λ (r : Row). r.role) rows) i (Setting i)

-- a header's place: its setting's slot, or after the slots its row among the others. -113 where it has no row, and -114 where its row
-- doesn't take its suffix
abbrev pub place_count : ℕ
place_count = 60

unfoldable pub place_of : ℕ → ℕ → Checked ℕ
place_of row x =
    if leb row_count row then refused 113
    otherwise (if ltb x 2 then passed (if ltb row table_count then row otherwise row + (count - table_count))
    otherwise (if eqb x 2 && ltb row monitor then passed (row + table_count)
    otherwise (if eqb x 2 && (ltb monitor row && ltb row brightness) then passed (row + (table_count - 1)) otherwise refused 114)))

unfoldable pub role_at : ℕ → Role
role_at i = get_or (map (λ (r : Row). r.role) (setting_rows 0 slots ++ other_rows)) i (Setting i)
