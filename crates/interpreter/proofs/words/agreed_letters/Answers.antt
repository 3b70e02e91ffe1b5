use mathlib.Core.Path.{◌≡◌, sym, ◌∙◌}
use lib.ListN.{length}
use native.Mathlib.Omega.{arith}
use Rattle.interpreter.proofs.words.Letters.{agreeing-none, agreeing-on, agreeing-miss, agreeing-end, agreeing-full}
use Rattle.interpreter.proofs.words.agreed_letters.Goals as goal

pub word_cell-long-requires : goal.word_cell-long-requires
word_cell-long-requires c = (c.requires, omega arith)

pub loop-n-init : goal.loop-n-init
loop-n-init c = agreeing-none _ _ c.requires

pub returns-then-long-n : goal.returns-then-long-n
returns-then-long-n c = agreeing-full c.loop-n.invariant (omega arith)

pub returns-then-in_capitals-word_cell : goal.returns-then-in_capitals-word_cell
returns-then-in_capitals-word_cell c = agreeing-miss c.loop-n.invariant (omega arith) (omega arith) (λ e. c.if-in_capitals-word_cell.true (c.in_capitals.ensures ∙ e ∙ sym c.word_cell.ensures))

pub loop-n-preserved : goal.loop-n-preserved
loop-n-preserved c = agreeing-on c.loop-n.invariant (omega arith) (omega arith) (sym c.in_capitals.ensures ∙ c.if-in_capitals-word_cell.false ∙ c.word_cell.ensures)

pub returns : goal.returns
returns c =
    let e : length c.args.text.now ≡ c.loop-n.n = omega arith in
    e ∙ agreeing-end c.loop-n.invariant c.loop-n-test.false
