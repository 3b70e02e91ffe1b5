-- The array is what `WordsParts` computes from the settings' words, read at the row.
use Rattle.registers.specs.Text.{if◌then◌otherwise◌, bytes, same}
use Rattle.registers.specs.Settings.{table, slots}
use Rattle.interpreter.specs.WordsParts.{word_list, place_in, words_taken}
use Rattle.interpreter.proofs.words.Taken.{taken_of}
use Rattle.interpreter.proofs.words.of_setting.Goals as goal

pub returns : goal.returns
unfolding words_taken place_in word_list slots table same bytes if◌then◌otherwise◌
returns c = taken_of c.args.row c.requires
