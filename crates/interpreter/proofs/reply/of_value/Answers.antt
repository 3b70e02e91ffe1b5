-- By what the setting's values are (`named`): a word by its place, tenths, or a whole number (reply/Values).
use mathlib.Core.Path.{refl}
use Rattle.registers.specs.Settings.{kind_of}
use Rattle.registers.proofs.settings.Laws.{values-is}
use Rattle.interpreter.specs.ReplyParts.{text_of}
use Rattle.interpreter.proofs.reply.Values.{told-value, told-whole, word-row}
use Rattle.interpreter.proofs.reply.of_value.Goals as goal

pub of_word-requires : goal.of_word-requires
of_word-requires c = word-row c.args.row (values-is _ (kind_of c.args.row) c.values_of-values.ensures) c.in-Word.is

pub returns-in-Word : goal.returns-in-Word
unfolding text_of
returns-in-Word c =
    told-value (kind_of c.args.row) c.ranges.value (values-is _ (kind_of c.args.row) c.values_of-values.ensures) c.in-Word.is
    (λ label. record { is = c.of_word.ensures })

pub returns-in-Tenths : goal.returns-in-Tenths
unfolding text_of
returns-in-Tenths c =
    told-value (kind_of c.args.row) c.ranges.value (values-is _ (kind_of c.args.row) c.values_of-values.ensures) c.in-Tenths.is
    (λ label. record { is = refl })

pub returns-in-Whole : goal.returns-in-Whole
returns-in-Whole c =
    told-whole (kind_of c.args.row) c.ranges.value (values-is _ (kind_of c.args.row) c.values_of-values.ensures) c.in-Whole.in-Whole-own.keys3
