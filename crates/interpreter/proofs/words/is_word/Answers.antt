use Rattle.interpreter.proofs.words.Spelling.{whole_word}
use Rattle.interpreter.proofs.words.is_word.Goals as goal

pub agreed_letters-n-requires : goal.agreed_letters-n-requires
agreed_letters-n-requires c = c.requires

pub has_length-requires : goal.has_length-requires
has_length-requires c = c.requires

pub returns : goal.returns
returns c = rw c.has_length.ensures (whole_word c.args.name.now c.args.word c.agreed_letters-n.result c.requires c.agreed_letters-n.ensures)
