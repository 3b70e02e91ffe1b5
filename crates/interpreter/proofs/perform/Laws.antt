-- What a deed that leaves the settings alone, or the status, says of them, and what storing in a register leaves.
use mathlib.Core.Path.{◌≡◌, refl}
use mathlib.Core.Bool.{Bool, true, false}
use mathlib.Core.List.{[], ◌∷◌}
use Prim.Native.Nat.{ℕ, ◌≤◌}
use native.Mathlib.Omega.{arith}
use lib.Dec.{leb}
use types.Run.{OneOf, miss}
use denote.Enum.Declared.{tag_of}
use borrow.Author.Tests.{leb-true, leb-false}
use Rattle.registers.specs.Text.{Text, if◌then◌otherwise◌, every}
use Rattle.registers.specs.Label.{most_text, may_stand, padded}
use Rattle.registers.specs.Settings.{with_text, text_stored}
use Rattle.registers.proofs.label.Record.{padded-possible}
use Rattle.registers.specs.Queue.{most}
use Rattle.registers.specs.Status.{register_set, widest}
use Rattle.registers.specs.declared.rounding.Side.{Side}
use Rattle.registers.specs.declared.settings.Settings.{Settings}
use Rattle.registers.specs.declared.status.Status.{Status}
use Rattle.registers.specs.declared.status.Register.{Register}
use Rattle.registers.proofs.status.Laws.{set-yes, set-no}
use Rattle.interpreter.specs.PerformParts.{settings_changed, settings_left, StatusLeft}
use Rattle.interpreter.specs.declared.deed.Deed.{Deed}
use Rattle.interpreter.specs.declared.deed.Deed.TheVariants.{Change, Complete, Clear, Query, Inquire, Saving}
use Rattle.interpreter.specs.declared.deed.Change as changes
use Rattle.interpreter.specs.declared.deed.Change.TheVariants.{Nothing as no_change, Put, Reset, Store, Label as labelled}
use Rattle.interpreter.specs.declared.deed.Query as queries
use Rattle.interpreter.specs.declared.deed.Query.TheVariants.{Identity, SelfTest, Completed, Limit, Value, Stored, Condition, SetEvents, Label as label_asked}
use Rattle.interpreter.specs.contracts.deed.Deed as deeds
use Rattle.interpreter.specs.contracts.deed.Change as orders
use Rattle.interpreter.specs.contracts.deed.Query as asked

-- ---- what leaves the settings alone

pub same-settings : (x : changes.Change) → OneOf (0 ∷ 3 ∷ []) (tag_of orders.the_type x) → (t : Text) (s : Settings) → s ≡ settings_changed x t s
same-settings no_change h t s = refl
same-settings (Put i v side) h t s = absurd (miss (0 ∷ 3 ∷ []) 1 tt h)
same-settings Reset h t s = absurd (miss (0 ∷ 3 ∷ []) 2 tt h)
same-settings (Store x n side) h t s = refl
same-settings labelled h t s = absurd (miss (0 ∷ 3 ∷ []) 4 tt h)

pub no-change : (d : Deed) → OneOf (1 ∷ 2 ∷ 3 ∷ 4 ∷ 5 ∷ []) (tag_of deeds.the_type d) → (t : Text) (s : Settings) → s ≡ settings_left d t s
no-change (Change x) h t s = absurd (miss (1 ∷ 2 ∷ 3 ∷ 4 ∷ 5 ∷ []) 0 tt h)
no-change Complete h t s = refl
no-change Clear h t s = refl
no-change (Query q) h t s = refl
no-change (Inquire q) h t s = refl
no-change (Saving x p) h t s = refl

-- ---- a text that is within its limits is stored

pub label-stored : (s : Settings) (t bytes : Text) → every may_stand t ≡ true → bytes ≡ padded most_text t → text_stored bytes s ≡ with_text t s
unfolding text_stored if◌then◌otherwise◌
label-stored s t bytes a e = rw (e, padded-possible most_text t a)

-- ---- what leaves the status alone

module _ (s : Status) (k : s.queued ≤ most) where
  pub same-status : (x : changes.Change) → OneOf (0 ∷ 1 ∷ 2 ∷ 4 ∷ []) (tag_of orders.the_type x) → StatusLeft (Change x) s s
  same-status no_change h = record { registers = λ _ _. refl; trouble = refl; queued = k }
  same-status (Put i v side) h = record { registers = λ _ _. refl; trouble = refl; queued = k }
  same-status Reset h = record { registers = λ _ _. refl; trouble = refl; queued = k }
  same-status (Store x n side) h = absurd (miss (0 ∷ 1 ∷ 2 ∷ 4 ∷ []) 3 tt h)
  same-status labelled h = record { registers = λ _ _. refl; trouble = refl; queued = k }

  pub only-asked : (q : queries.Query) → OneOf (0 ∷ 1 ∷ 2 ∷ 3 ∷ 4 ∷ 5 ∷ 6 ∷ 8 ∷ []) (tag_of asked.the_type q) → StatusLeft (Query q) s s
  only-asked Identity h = record { registers = λ _ _. refl; trouble = refl; queued = k }
  only-asked SelfTest h = record { registers = λ _ _. refl; trouble = refl; queued = k }
  only-asked Completed h = record { registers = λ _ _. refl; trouble = refl; queued = k }
  only-asked (Limit i v) h = record { registers = λ _ _. refl; trouble = refl; queued = k }
  only-asked (Value i) h = record { registers = λ _ _. refl; trouble = refl; queued = k }
  only-asked (Stored x) h = record { registers = λ _ _. refl; trouble = refl; queued = k }
  only-asked (Condition y) h = record { registers = λ _ _. refl; trouble = refl; queued = k }
  only-asked (SetEvents y) h = absurd (miss (0 ∷ 1 ∷ 2 ∷ 3 ∷ 4 ∷ 5 ∷ 6 ∷ 8 ∷ []) 7 tt h)
  only-asked label_asked h = record { registers = λ _ _. refl; trouble = refl; queued = k }

pub stored-left : (x : Register) (n : ℕ) (side : Side) (s : Status) → s.queued ≤ most → StatusLeft (Change (Store x n side)) s (register_set x n s)
stored-left x n side s k = go (leb n (widest x)) refl
  where
    go : (b : Bool) → leb n (widest x) ≡ b → StatusLeft (Change (Store x n side)) s (register_set x n s)
    go true e = rw (set-yes s n x (leb-true n (widest x) e)) (record { registers = λ _ _. refl; trouble = refl; queued = k })
    go false e =
        let h = leb-false n (widest x) e in
        rw (set-no s n x h) (record { registers = λ _ a. absurd (omega arith); trouble = refl; queued = k })
