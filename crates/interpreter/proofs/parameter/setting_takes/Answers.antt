use Rattle.registers.specs.Text.{if◌then◌otherwise◌}
use Rattle.interpreter.proofs.parameter.setting_takes.Goals as goal

pub of_setting-words-requires : goal.of_setting-words-requires
of_setting-words-requires c = c.requires

pub returns-then-takes_numbers-asked : goal.returns-then-takes_numbers-asked
unfolding if◌then◌otherwise◌
returns-then-takes_numbers-asked c =
    let w = c.of_setting-words.ensures in
    record { words = w.words; numbers = rw (← c.takes_numbers.ensures, c.if-takes_numbers-asked.true, c.quantity_of.ensures); room = w.room }

pub returns-else-takes_numbers-asked : goal.returns-else-takes_numbers-asked
unfolding if◌then◌otherwise◌
returns-else-takes_numbers-asked c =
    let w = c.of_setting-words.ensures in
    record { words = w.words; numbers = rw (← c.takes_numbers.ensures, c.if-takes_numbers-asked.false); room = w.room }
