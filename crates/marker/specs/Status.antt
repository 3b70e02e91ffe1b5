-- The digit before a session's line, which the head of main.rt lists: "0 all agree, 1 one differs, 2 broken or unreadable".
use Rattle.std.specs.Prelude.{ℕ}
use Rattle.writer.specs.declared.session.Report.{Report}
use Rattle.writer.specs.declared.session.Report.TheVariants.{Agree, Differs, Broken, Refused}

abbrev pub digit_of : Report → ℕ
digit_of (Agree lines) = 0
digit_of (Differs line shown waiting) = 1
digit_of (Broken line) = 2
digit_of Refused = 2
