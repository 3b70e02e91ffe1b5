use mathlib.Core.Path.{refl}
use Rattle.registers.specs.Settings.{table}
use Rattle.registers.specs.Text.{if◌then◌otherwise◌, bytes, same, letter, small, digit, word_byte, capital}
use Rattle.registers.specs.Words.{short_form, long_form}
use Rattle.interpreter.specs.Rows.{rows, setting_rows, other_rows}
use Rattle.interpreter.specs.NameParts.{code_of, with_code, key_from, word_key}
use Rattle.interpreter.specs.TableParts.{command_table, search_table, row_table, row_table_of, row_row, form_byte, node_byte, node_list, key_table, key_table_of, key_row, code_table, list_from, start_table, start_of, first_fit, can_mark}
use Rattle.interpreter.specs.WordsParts.{place_in}
use Rattle.interpreter.specs.WordsParts.{word_table, word_table_of, word_row, word_list}
use Rattle.interpreter.proofs.table.Table.commands.Goals as goal

pub invariant_of-result : goal.invariant_of-result
unfolding command_table word_table word_table_of word_row word_list search_table row_table row_table_of row_row form_byte node_byte place_in node_list key_table key_table_of key_row code_table list_from start_table start_of first_fit can_mark word_key key_from with_code code_of short_form long_form rows setting_rows other_rows table bytes same letter small digit word_byte capital if◌then◌otherwise◌
invariant_of-result c = record { has_01s_rows = refl }
