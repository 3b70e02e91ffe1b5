-- The lock and check 8: what they let pass, as the definition says and as the code asks.
use mathlib.Core.Path.{◌≡◌, refl}
use mathlib.Core.Bool.{Bool, true, false, not, ◌&&◌, ◌||◌}
use mathlib.Core.List.{[], ◌∷◌}
use Prim.Native.Nat.{ℕ}
use native.Mathlib.Omega.{arith}
use types.Run.{OneOf, miss}
use lib.IntN.{ℤ, pos}
use lib.Signed.{le_z}
use denote.Enum.Declared.{tag_of}
use borrow.Author.Tests.{not-true, not-false}
use Rattle.registers.specs.Check.{Checked, refused, passed, ◌>>◌, check}
use Rattle.registers.specs.Queue.{may_be_queued, queueable}
use Rattle.registers.specs.Settings.{conflict}
use Rattle.registers.specs.Status.{locked}
use Rattle.registers.specs.declared.rounding.Side.{Side}
use Rattle.interpreter.specs.Box.{Core}
use Rattle.interpreter.specs.Perform.{is_output, blocked, conflicting, permitted}
use Rattle.interpreter.specs.declared.deed.Deed.{Deed}
use Rattle.interpreter.specs.declared.deed.Deed.TheVariants.{Change, Complete, Clear, Query, Inquire, Saving}
use Rattle.interpreter.specs.declared.deed.Change as changes
use Rattle.interpreter.specs.declared.deed.Change.TheVariants.{Nothing, Put, Reset, Store, Label as labelled}
use Rattle.interpreter.specs.contracts.deed.Deed as deeds
use Rattle.interpreter.specs.contracts.deed.Change as orders
use Rattle.interpreter.proofs.Checks.{Holds, refuses-by}

-- ---- what is let pass is not blocked under the lock, and makes no conflict

pub record Lets (d : Deed) (c : Core) : Type 0 where
  pub free : (blocked d && locked c.registers) ≡ false
  pub clear : conflicting d c.settings ≡ false

module _ (d : Deed) (c : Core) where
  pub lets : permitted d c ≡ passed tt → Lets d c
  unfolding permitted check ◌>>◌
  lets e = go (blocked d && locked c.registers) refl (conflicting d c.settings) refl e
    where
      never : ◌≡◌ {A = ℕ} 0 1 → Lets d c
      never z = absurd (omega arith)

      go : (t : Bool) → (blocked d && locked c.registers) ≡ t → (f : Bool) → conflicting d c.settings ≡ f
          → (check 221 (not t) >> check 221 (not f)) ≡ passed tt → Lets d c
      go false t false f e = record { free = t; clear = f }
      go false t true f e = never cc
      go true t f q e = never cc

  -- a chain of checks after them: they refuse by a number of 01, or let pass
  pub hold-permitted : {A : Type 0} (Q : A → Type 0) (m : Checked A) → (Lets d c → Holds Q m) → Holds Q (permitted d c >> m)
  unfolding permitted may_be_queued queueable check ◌>>◌
  hold-permitted Q m k = go (blocked d && locked c.registers) refl (conflicting d c.settings) refl
    where
      go : (t : Bool) → (blocked d && locked c.registers) ≡ t → (f : Bool) → conflicting d c.settings ≡ f
          → Holds Q ((check 221 (not t) >> check 221 (not f)) >> m)
      go false t false f = k (record { free = t; clear = f })
      go false t true f = refuses-by refl
      go true t f q = refuses-by refl

-- ---- as the code asks: its answer is true where they let pass

module _ (d : Deed) (c : Core) (r : Bool) (is : permitted d c ≡ check 221 r) where
  pub barred : not r ≡ true → permitted d c ≡ refused 221
  unfolding check
  barred e = rw (not-true r e) at is

  pub let_through : not r ≡ false → permitted d c ≡ passed tt
  unfolding check
  let_through e = rw (not-false r e) at is

-- a setting: its value is the output's off or the lock is open, and nothing conflicts
pub put-permitted : (i : ℕ) (v : ℤ) (side : Side) (c : Core)
    → permitted (Change (Put i v side)) c
    ≡ check 221 (((is_output i && le_z v (pos 0)) || not (locked c.registers)) && not (conflict c.settings i v))
unfolding permitted check ◌>>◌
put-permitted i v side c = go (is_output i && le_z v (pos 0)) (locked c.registers) (conflict c.settings i v)
  where
    go : (off locks conflicts : Bool)
        → (check 221 (not (not off && locks)) >> check 221 (not conflicts)) ≡ check 221 ((off || not locks) && not conflicts)
    go true locks conflicts = refl
    go false true conflicts = refl
    go false false conflicts = refl

-- *RST, the display's text, *SAV and *RCL: the lock is open
pub only-locked : (d : Deed) (c : Core) → blocked d ≡ true → conflicting d c.settings ≡ false → permitted d c ≡ check 221 (not (locked c.registers))
unfolding permitted check ◌>>◌
only-locked d c b e = rw (b, e) (go (locked c.registers))
  where
    go : (locks : Bool) → (check 221 (not locks) >> check 221 true) ≡ check 221 (not locks)
    go true = refl
    go false = refl

-- all else passes
pub free-change : (x : changes.Change) → OneOf (0 ∷ 3 ∷ []) (tag_of orders.the_type x) → (c : Core) → permitted (Change x) c ≡ check 221 true
unfolding permitted check ◌>>◌
free-change Nothing h c = refl
free-change (Put i v side) h c = absurd (miss (0 ∷ 3 ∷ []) 1 tt h)
free-change Reset h c = absurd (miss (0 ∷ 3 ∷ []) 2 tt h)
free-change (Store x n side) h c = refl
free-change labelled h c = absurd (miss (0 ∷ 3 ∷ []) 4 tt h)

pub free_other : (d : Deed) → OneOf (1 ∷ 2 ∷ 3 ∷ 4 ∷ []) (tag_of deeds.the_type d) → (c : Core) → permitted d c ≡ check 221 true
unfolding permitted check ◌>>◌
free_other (Change x) h c = absurd (miss (1 ∷ 2 ∷ 3 ∷ 4 ∷ []) 0 tt h)
free_other Complete h c = refl
free_other Clear h c = refl
free_other (Query q) h c = refl
free_other (Inquire q) h c = refl
free_other (Saving x p) h c = absurd (miss (1 ∷ 2 ∷ 3 ∷ 4 ∷ []) 5 tt h)
