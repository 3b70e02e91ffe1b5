-- One way for each stage.
use mathlib.Core.Path.{refl}
use mathlib.Core.Logic.{inl, inr}
use borrow.Author.Tests.{eq-eqb, ne_eqb}
use Rattle.registers.specs.Text.{if◌then◌otherwise◌}
use Rattle.writer.specs.Marking.{report_of}
use Rattle.writer.proofs.session.Place.report.Goals as goal

pub returns-in-Fresh : goal.returns-in-Fresh
unfolding report_of if◌then◌otherwise◌
returns-in-Fresh c = rw (c.in-Fresh.is, eq-eqb c.args.self.waiting 0 c.if-waiting-eq0.true) refl

pub returns-in-Fresh-2 : goal.returns-in-Fresh-2
unfolding report_of if◌then◌otherwise◌
returns-in-Fresh-2 c = rw (c.in-Fresh.is, ne_eqb c.args.self.waiting 0 c.if-waiting-eq0.false, c.unwrap_or.ensures) refl

pub returns-in-Differing : goal.returns-in-Differing
unfolding report_of
returns-in-Differing c = rw (c.in-Differing.is, c.unwrap_or-in-Differing.ensures) refl

pub returns-in-Sending : goal.returns-in-Sending
unfolding report_of
returns-in-Sending c = elim c.in-Sending.is [ inl e ↦ rw e refl | inr r ↦ elim r [ inl f ↦ rw f.1 refl | inr g ↦ rw g refl ] ]
