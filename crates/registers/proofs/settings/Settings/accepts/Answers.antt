use mathlib.Core.Path.{◌≡◌, refl, sym, ◌∙◌}
use mathlib.Core.Bool.{not, false≢true}
use lib.IntN.{pos}
use mir.Syntax.{w32}
use mir.Facts.{to_z-of_z}
use borrow.Author.Rules.{rules}
use Rattle.registers.specs.Settings.{accepted, examined, exam, value_at}
use Rattle.registers.specs.declared.rounding.Side.{Side}
use Rattle.registers.specs.declared.rounding.Side.TheVariants.{On, Below, Above}
use Rattle.registers.specs.declared.settings.Settings.{Settings}
use Rattle.registers.proofs.Tests.{lt_z-not}
use Rattle.registers.proofs.settings.Settings.accepts.Goals.{in-On, in_default}
use Rattle.registers.proofs.settings.Settings.accepts.Goals as goal

-- Off its step a number passes where exam mode is off.
unmatched : (s : Settings) (x : Side) → (x ≡ On → ⊥) → not (examined s) ≡ accepted s x
unfolding accepted
unmatched s On other = absurd (other refl)
unmatched s Below other = refl
unmatched s Above other = refl

pub returns-then-matches : goal.returns-then-matches
unfolding accepted
returns-then-matches c = elim c.match-matches.branch [ in-On w ↦ rw (w.matches-is, w.in-On.is) | in_default w ↦ absurd (false≢true (sym w.matches-is ∙ c.if-matches.true)) ]

pub returns-else-matches : goal.returns-else-matches
unfolding examined
returns-else-matches c =
    let back = to_z-of_z {w = w32} {z = c.value.result} (search rules) in
    elim c.match-matches.branch [
      | in-On w ↦ absurd (false≢true (sym c.if-matches.false ∙ w.matches-is))
      | in_default w ↦ rw (back, c.value.ensures) (lt_z-not (value_at c.args.self exam) (pos 1) ∙ unmatched c.args.self c.args.side w.in_default.not-On)
    ]
