-- A setting that is put has to pass the lock and check 8; *RST, the display's text, *SAV and *RCL the lock; and nothing else is barred: each
-- way is a law of perform/Permitted.
use mathlib.Core.Path.{◌≡◌, refl}
use mathlib.Core.Bool.{Bool, true, false}
use mathlib.Core.Logic.{◌⊎◌, inl, inr}
use Prim.Native.Nat.{ℕ}
use mir.Facts.{to_z-of_z}
use mir.Val.{SFits}
use mir.Syntax.{w32}
use borrow.Author.Rules.{rules}
use borrow.Author.Tests.{ne_eqb}
use borrow.Enum.Refused.{opened}
use Rattle.interpreter.specs.Perform.{is_output}
use Rattle.interpreter.proofs.perform.Permitted.{put-permitted, only-locked, free-change, free_other}
use Rattle.interpreter.proofs.perform.is_permitted.Goals as goal
use Rattle.interpreter.proofs.perform.is_permitted.Goals.{in-0, in_default-matches}

-- a row is one of the two outputs, or neither
one_of : {row : ℕ} {m : Bool} → m ≡ true → (row ≡ 0) ⊎ (row ≡ 17) → m ≡ is_output row
one_of is (inl e) = rw (is, e)
one_of is (inr e) = rw (is, e)

neither : {row : ℕ} {m : Bool} → m ≡ false → ((row ≡ 0) ⊎ (row ≡ 17) → ⊥) → m ≡ is_output row
neither {row} is h = rw (is, ne_eqb row 0 (λ e. h (inl e)), ne_eqb row 17 (λ e. h (inr e)))

pub returns-after-matches : goal.returns-after-matches
returns-after-matches c =
    let p = c.in-Change-Put in
    let output : c.match-matches.matches ≡ is_output p.row =
    elim c.match-matches.branch [ in-0 w ↦ one_of w.matches-is w.in-0.is | in_default-matches w ↦ neither w.matches-is w.in_default-matches.in_default-matches-own.rest.1 ] in
    let put = rw p.is at p.field-0-is in
    let h : SFits w32 p.value = record { sfits = search rules } in
    rw (output, c.is_locked-open.ensures, c.conflicts.ensures, p.is, put, to_z-of_z {w = w32} h) (put-permitted p.row p.value _ _)

pub returns-in_default : goal.returns-in_default
returns-in_default c =
    let free = rw c.in_default.is at c.in_default.in_default-own.keys4 in
    rw c.in_default.is (free-change c.in_default.field-0 free _)

pub returns-in_default-2 : goal.returns-in_default-2
returns-in_default-2 c = free_other c.args.deed (opened c.in_default.in_default-own.keys3) _

pub returns-in-Change-Reset : goal.returns-in-Change-Reset
returns-in-Change-Reset c =
    let reset = rw c.in-Change-Reset.is at c.in-Change-Reset.field-0-is in
    rw (c.in-Change-Reset.is, reset, c.is_locked-open.ensures) (only-locked _ _ refl refl)

pub returns-in-Change-Label : goal.returns-in-Change-Label
returns-in-Change-Label c =
    let label = rw c.in-Change-Label.is at c.in-Change-Label.field-0-is in
    rw (c.in-Change-Label.is, label, c.is_locked-open.ensures) (only-locked _ _ refl refl)

pub returns-in-Saving : goal.returns-in-Saving
returns-in-Saving c = rw (c.in-Saving.is, c.is_locked-open.ensures) (only-locked _ _ refl refl)
