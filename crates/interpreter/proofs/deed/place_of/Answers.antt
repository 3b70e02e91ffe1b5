use borrow.Author.Tests.{lt-leb, lt-ltb, le-ltb}
use Rattle.registers.specs.Text.{if◌then◌otherwise◌}
use Rattle.registers.specs.Settings.{table_count}
use Rattle.interpreter.specs.DeedParts.{row_count, place_of}
use Rattle.interpreter.proofs.deed.place_of.Goals as goal

pub returns-then-row-lt-ROWS : goal.returns-then-row-lt-ROWS
unfolding place_of if◌then◌otherwise◌
returns-then-row-lt-ROWS c = let a = c.args in rw (lt-leb row_count a.row c.requires, lt-ltb a.suffix 2 c.if-suffix-lt2.true, lt-ltb a.row table_count c.if-row-lt-ROWS.true)

pub returns-then-suffix-lt2 : goal.returns-then-suffix-lt2
unfolding place_of if◌then◌otherwise◌
returns-then-suffix-lt2 c = let a = c.args in rw (lt-leb row_count a.row c.requires, lt-ltb a.suffix 2 c.if-suffix-lt2.true, le-ltb a.row table_count c.if-row-lt-ROWS.false)

pub returns-then-suffix-row : goal.returns-then-suffix-row
unfolding place_of if◌then◌otherwise◌
returns-then-suffix-row c = let a = c.args in rw (lt-leb row_count a.row c.requires, le-ltb a.suffix 2 c.if-suffix-lt2.false, c.if-suffix-row.true)

pub returns-then-suffix-row-2 : goal.returns-then-suffix-row-2
unfolding place_of if◌then◌otherwise◌
returns-then-suffix-row-2 c = let a = c.args in rw (lt-leb row_count a.row c.requires, le-ltb a.suffix 2 c.if-suffix-lt2.false, c.if-suffix-row.false, c.if-suffix-row-2.true)

pub returns : goal.returns
unfolding place_of if◌then◌otherwise◌
returns c = let a = c.args in rw (lt-leb row_count a.row c.requires, le-ltb a.suffix 2 c.if-suffix-lt2.false, c.if-suffix-row.false, c.if-suffix-row-2.false)
