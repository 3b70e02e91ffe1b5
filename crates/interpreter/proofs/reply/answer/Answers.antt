-- The answer stands where it ends, or check 9 refuses it (reply/Performed).
use Rattle.interpreter.proofs.reply.Performed.{told}
use Rattle.interpreter.proofs.reply.answer.Goals as goal

pub shape_of-out : goal.shape_of-out
shape_of-out c = c.append.auto.out

pub returns : goal.returns
returns c = λ t. told c.args.deed t c.args.present _ c.args.out.now c.requires.0 c.requires.1 c.requires.2 c.of_deed-reply.ensures c.append.result _ c.append.ensures
