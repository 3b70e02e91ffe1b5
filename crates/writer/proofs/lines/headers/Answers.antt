-- Computed over the whole table.
use mathlib.Core.Path.{refl}
use Rattle.registers.specs.Text.{if◌then◌otherwise◌, bytes, small, same}
use Rattle.registers.specs.Words.{short_form}
use Rattle.registers.specs.Settings.{table, slots, setting_at}
use Rattle.interpreter.specs.Header.{numbered}
use Rattle.writer.specs.Lines.{short_names, joined_names, header_for}
use Rattle.writer.specs.LinesParts.{headers_to}
use Rattle.writer.proofs.lines.headers.Goals as goal

pub returns : goal.returns
unfolding if◌then◌otherwise◌ bytes same small short_form table slots setting_at numbered short_names joined_names header_for headers_to
returns c = refl
