-- What a query answers, and check 9: the answer stands after those of the line's earlier units, if there is room for it.
use Rattle.std.specs.Prelude.{Bool, not, ◌∷◌, ◌++◌, ltb, length}
use Prim.Native.Char.{code}
use Rattle.registers.specs.Text.{Text, if◌then◌otherwise◌, bytes, empty, first}
use Rattle.registers.specs.Check.{Checked, passed, ◌>>◌, check}
use Rattle.registers.specs.Answer.{decimal}
use Rattle.registers.specs.Error.{error_text}
use Rattle.registers.specs.Settings.{kind_of, value_at, displayed, answer_of}
use Rattle.registers.specs.Label.{quoted_text}
use Rattle.registers.specs.Status.{Registers, Trouble, group_in, register_in, status_byte}
use Rattle.interpreter.specs.Box.{Core, Box, with_answer, most_answer}
use Rattle.interpreter.specs.declared.deed.Query as queries
use Rattle.interpreter.specs.declared.deed.Query.TheVariants.{Identity, SelfTest, Completed, Limit, Value, Stored, Condition, SetEvents, Label}
use Rattle.interpreter.specs.declared.deed.Inquiry as inquiries
use Rattle.interpreter.specs.declared.deed.Inquiry.TheVariants.{StandardEvents, StatusByte, NextError}

-- ---- queries that see the core alone: "*IDN? answers `COURSE,BENCH24,0,4.00`; *TST? `0`; *OPC? `1`", "Register answers are decimal"; the
-- display's text (02, #109) "always uses double quotes"

abbrev pub identity : Text
identity = bytes "COURSE,BENCH24,0,4.00"

unfoldable pub reply_to : queries.Query → Core → Text
reply_to Identity c = identity
reply_to SelfTest c = bytes "0"
reply_to Completed c = bytes "1"
reply_to (Limit i v) c = answer_of (kind_of i) v
reply_to (Value i) c = answer_of (kind_of i) (value_at c.settings i)
reply_to (Stored r) c = decimal (register_in r c.registers)
reply_to (Condition x) c = decimal (group_in x c.registers).condition
reply_to (SetEvents x) c = decimal (group_in x c.registers).event
reply_to Label c = quoted_text (displayed c.settings)

-- ---- the three that see the trouble: *ESR?, *STB? and SYSTem:ERRor?, which answers the oldest error. Of the answer
-- *STB? sees whether it "has bytes, earlier ones of this line counted"

unfoldable pub inquiry_text : inquiries.Inquiry → Registers → Trouble → Bool → Text
inquiry_text StandardEvents r t answers = decimal t.events
inquiry_text StatusByte r t answers = decimal (status_byte r t answers)
inquiry_text NextError r t answers = error_text (first t.queue)

abbrev pub inquiry_reply : inquiries.Inquiry → Box → Text
inquiry_reply q b = inquiry_text q b.core.registers b.trouble (not (empty b.core.answer))

-- ---- check 9

-- "Answers of one line are joined by `;`"
unfoldable pub joined : Text → Text → Text
joined a t = if empty a then t otherwise a ++ code ";" ∷ t

-- -430 where "the answer with its separator and the final newline would pass 1,024 bytes", by 02 (#106) 4,096
unfoldable pub fits_answer : Text → Text → Bool
fits_answer a t = ltb (length (joined a t)) most_answer

-- refused, "the query isn't performed": Line.refuse then drops the whole answer
unfoldable pub reply : Text → Core → Checked Core
reply t c = check 430 (fits_answer c.answer t) >> passed (with_answer (joined c.answer t) c)
