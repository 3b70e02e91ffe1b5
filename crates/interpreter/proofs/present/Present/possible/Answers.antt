use borrow.Author.Rules.{rules}
use Rattle.interpreter.proofs.present.Present.possible.Goals as goal

pub returns : goal.returns
returns c =
    record {
      is = rw (c.possible.ensures, c.possible-2.ensures);
      values = record { values = search rules; text = search rules };
      errors = search rules;
    }
