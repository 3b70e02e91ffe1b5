-- Only a report changes a condition register: commands, reading and *CLS leave every set's condition as it is.
use mathlib.Core.Path.{◌≡◌, refl, ap}
use mathlib.Core.List.{List, [], ◌∷◌, map}
use Prim.Native.Nat.{ℕ, zero, suc}
use lib.ListN.{get_or, set}
use Rattle.registers.specs.Group.{event_read, no_group}
use Rattle.registers.specs.Status.{Registers, place_of, group_in, with_group, stored_in, set_read, all_read, set_reported}
use Rattle.registers.specs.declared.group.Group.{Group}
use Rattle.registers.specs.declared.status.Register.{Register}
use Rattle.registers.specs.declared.status.Register.TheVariants.{Ese, Sre, Enable, Ntr, Ptr}
use Rattle.registers.specs.declared.status.RegisterSet.{RegisterSet}
use Rattle.registers.proofs.status.Possible.{others-stay}

abbrev pub condition_in : RegisterSet → Registers → ℕ
condition_in x r = (group_in x r).condition

-- ---- over the groups in their places

set-kept : (l : List Group) (i j : ℕ) (g : Group) → g.condition ≡ (get_or l i no_group).condition
    → (get_or (set l i g) j no_group).condition ≡ (get_or l j no_group).condition
set-kept [] i j g e = refl
set-kept (a ∷ l) zero zero g e = e
set-kept (a ∷ l) zero (suc j) g e = refl
set-kept (a ∷ l) (suc i) zero g e = refl
set-kept (a ∷ l) (suc i) (suc j) g e = set-kept l i j g e

read_kept : (l : List Group) (j : ℕ) → (get_or (map event_read l) j no_group).condition ≡ (get_or l j no_group).condition
unfolding event_read
read_kept [] j = refl
read_kept (a ∷ l) zero = refl
read_kept (a ∷ l) (suc j) = read_kept l j

-- ---- over what can happen to the registers

module _ (x : RegisterSet) (r : Registers) where
  -- another group in the place of one with the same condition
  group-kept : (y : RegisterSet) (g : Group) → g.condition ≡ condition_in y r → condition_in x (with_group y g r) ≡ condition_in x r
  group-kept y g e = set-kept r.groups (place_of y) (place_of x) g e

  pub stored-kept : (y : Register) (n : ℕ) → condition_in x (stored_in y n r) ≡ condition_in x r
  unfolding stored_in
  stored-kept Ese n = refl
  stored-kept Sre n = refl
  stored-kept (Enable y) n = group-kept y _ refl
  stored-kept (Ntr y) n = group-kept y _ refl
  stored-kept (Ptr y) n = group-kept y _ refl

  pub event-kept : (y : RegisterSet) → condition_in x (set_read y r) ≡ condition_in x r
  unfolding event_read
  event-kept y = group-kept y _ refl

  pub clear_kept : condition_in x (all_read r) ≡ condition_in x r
  clear_kept = read_kept r.groups (place_of x)

  pub report-kept : (y : RegisterSet) (n : ℕ) → (place_of x ≡ place_of y → ⊥) → condition_in x (set_reported y n r) ≡ condition_in x r
  report-kept y n apart = ap (λ (g : Group). g.condition) (others-stay y n r x apart)
