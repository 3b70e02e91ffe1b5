-- Laws of an error: what one that is raised leaves of the box, what a refused unit leaves, and what is left of an answer that waits.
use mathlib.Core.Path.{◌≡◌}
use mathlib.Core.List.{[]}
use Prim.Native.Nat.{◌≤◌, ◌<◌}
use lib.ListN.{length, take}
use borrow.Author.Tests.{eq-eqb, ne_eqb}
use Rattle.registers.specs.Text.{Text, if◌then◌otherwise◌}
use Rattle.registers.specs.Error.{number_of}
use Rattle.registers.specs.declared.error.Error.{Error}
use Rattle.registers.specs.declared.error.Error.TheVariants.{QueryInterrupted}
use Rattle.registers.proofs.status.Meaning.{raised-trouble, raised-registers, raised-queued}
use Rattle.registers.specs.Queue.{most}
use Rattle.registers.proofs.Tests.{front-empty}
use Rattle.interpreter.specs.Box.{Memory, raise}
use Rattle.interpreter.specs.Line.{refuse, interrupted}
use Rattle.interpreter.specs.PresentParts.{box_in, box_at, raised_with}
use Rattle.interpreter.specs.declared.present.Present.{Present}

module _ (e : Error) (p : Present) (long : length p.status.errors ≡ most) where
  pub raised-short : p.status.queued ≤ most → (raised_with e p).status.queued ≤ most
  unfolding raised_with
  raised-short h = raised-queued (number_of e) p.status long h

module _ (e : Error) (p : Present) (m : Memory) (long : length p.status.errors ≡ most) where
  pub raised-box : (a : Text) → box_in (raised_with e p) a m ≡ raise (number_of e) (box_in p a m)
  unfolding raised_with
  raised-box a = rw (raised-trouble (number_of e) p.status long, raised-registers (number_of e) p.status long)

  -- check 9's error drops the answer, any other leaves it
  pub refused-dropped : number_of e ≡ 430 → (a out : Text) → box_in (raised_with e p) (take 0 out) m ≡ refuse (number_of e) (box_in p a m)
  unfolding refuse if◌then◌otherwise◌
  refused-dropped h a out = rw (raised-box [], eq-eqb (number_of e) 430 h)

  pub refused-kept : (number_of e ≡ 430 → ⊥) → (a : Text) → box_in (raised_with e p) a m ≡ refuse (number_of e) (box_in p a m)
  unfolding refuse if◌then◌otherwise◌
  refused-kept h a = rw (raised-box a, ne_eqb (number_of e) 430 h)

-- ---- an answer that waits

module _ (p : Present) (out : Text) (m : Memory) where
  pub none-waits : p.answered ≡ 0 → box_in p [] m ≡ interrupted (box_at p out m)
  unfolding interrupted if◌then◌otherwise◌
  none-waits e = rw e

  pub one-waits : length p.status.errors ≡ most → 0 < length out → (p.answered ≡ 0 → ⊥)
      → box_in (raised_with QueryInterrupted p) [] m ≡ interrupted (box_at p out m)
  unfolding interrupted if◌then◌otherwise◌
  one-waits long room ne = rw (front-empty out p.answered room, ne_eqb p.answered 0 ne, raised-box QueryInterrupted p m long [])
