-- Demand 3: after a newline no byte of a line waits, so the next line of any history begins there. The newline empties the line first, and
-- no unit of it, obeyed or refused, touches the line again (`FreshBox`; proofs/Kept).
use mathlib.Core.Path.{refl, subst, sym}
use Prim.Native.Nat.{ℕ}
use Rattle.registers.specs.Text.{Text, empty}
use Rattle.registers.specs.Queue.{may_be_queued, queueable}
use Rattle.interpreter.specs.Box.{Core, Box, power_up}
use Rattle.interpreter.specs.Perform.{changed, after_query, set_up, perform}
use Rattle.interpreter.specs.Reply.{reply}
use Rattle.interpreter.specs.Line.{interrupted, end_line}
use Rattle.interpreter.specs.Events.{after}
use Rattle.interpreter.specs.Demand3.{Fresh, LinesBegin}
use Rattle.interpreter.specs.declared.deed.Saving as savings
use Rattle.interpreter.specs.declared.deed.Saving.TheVariants.{Save, Recall}
use Rattle.interpreter.specs.declared.deed.Deed.{Deed}
use Rattle.interpreter.specs.declared.deed.Deed.TheVariants.{Change, Complete, Clear, Query, Inquire, Saving}
use Rattle.interpreter.specs.declared.deed.Change as changes
use Rattle.interpreter.specs.declared.deed.Change.TheVariants.{Nothing, Put, Reset, Store, Label as labelled}
use Rattle.interpreter.specs.declared.deed.Query as queries
use Rattle.interpreter.specs.declared.deed.Query.TheVariants.{Identity, SelfTest, Completed, Limit, Value, Stored, Condition, SetEvents, Label as label_asked}
use Rattle.interpreter.proofs.Choices.{if-elim}
use Rattle.interpreter.proofs.Kept.{line-keeps}
use Rattle.interpreter.proofs.Checks.{Holds, passes, hold-bind, hold-check}
use Rattle.interpreter.proofs.demands.histories.Pieces.{newline-after}

abbrev FreshBox : Box → Type 0
FreshBox b = Fresh b.core

changed-fresh : (x : changes.Change) (t : Text) (c : Core) → Fresh c → Fresh (changed x t c)
unfolding changed
changed-fresh Nothing t c f = f
changed-fresh (Put i v side) t c f = f
changed-fresh Reset t c f = f
changed-fresh (Store r n side) t c f = f
changed-fresh labelled t c f = f

query-fresh : (q : queries.Query) (c : Core) → Fresh c → Fresh (after_query q c)
query-fresh Identity c f = f
query-fresh SelfTest c f = f
query-fresh Completed c f = f
query-fresh (Limit i v) c f = f
query-fresh (Value i) c f = f
query-fresh (Stored x) c f = f
query-fresh (Condition x) c f = f
query-fresh (SetEvents x) c f = f
query-fresh label_asked c f = f

reply-fresh : (t : Text) (c : Core) → Fresh c → Holds Fresh (reply t c)
unfolding reply may_be_queued queueable
reply-fresh t c f = hold-check Fresh 430 _ _ refl (λ _. passes f)

setup-fresh : (x : savings.Saving) (p : ℕ) (c : Core) → Fresh c → Holds Fresh (set_up x p c)
unfolding set_up may_be_queued queueable
setup-fresh Save p c f = passes f
setup-fresh Recall p c f = hold-check Fresh 314 _ _ refl (λ _. passes f)

perform-fresh : (d : Deed) (t : Text) (b : Box) → FreshBox b → Holds FreshBox (perform d t b)
unfolding perform
perform-fresh (Change x) t b f = passes (changed-fresh x t b.core f)
perform-fresh Complete t b f = passes f
perform-fresh Clear t b f = passes f
perform-fresh (Query q) t b f = hold-bind Fresh FreshBox _ _ (reply-fresh _ _ (query-fresh q b.core f)) (λ c g. passes g)
perform-fresh (Inquire q) t b f = hold-bind Fresh FreshBox _ _ (reply-fresh _ _ f) (λ c g. passes g)
perform-fresh (Saving x p) t b f = hold-bind Fresh FreshBox _ _ (setup-fresh x p b.core f) (λ c g. passes g)

pub newline-fresh : (b : Box) → FreshBox (end_line b)
unfolding interrupted
newline-fresh b =
    line-keeps FreshBox (λ d t b a x l f. perform-fresh d t b f) (λ n b e f. f) (λ b f. f) (λ a b f. f) b
    (if-elim FreshBox (empty b.core.answer) (λ _. (refl, refl)) (λ _. (refl, refl)))

pub lines-begin : LinesBegin
unfolding power_up
lines-begin m = ((refl, refl), λ es. subst FreshBox (sym (newline-after (power_up m) es)) (newline-fresh (after (power_up m) es)))
