-- The status record by cases: an error raised, the oldest removed, a condition reported, a register set, the status byte, and
-- refusal 4.
use mathlib.Core.Path.{◌≡◌, refl}
use mathlib.Core.Bool.{Bool, true, false, not, ◌&&◌}
use mathlib.Core.List.{List, [], ◌∷◌, ◌++◌}
use Prim.Native.Nat.{ℕ, zero, suc, ◌+◌, ◌-◌, ◌^◌, ◌≤◌, ◌<◌}
use native.Mathlib.Omega.{arith}
use lib.Bits.{bit_or, bit_and}
use lib.Dec.{leb, eqb}
use lib.ListN.{length, take, drop, get_or, set}
use borrow.Author.Tests.{lt-ltb, le-ltb, le-leb, lt-leb, eq-eqb, ne_eqb, eqb-true}
use Rattle.registers.specs.Text.{if◌then◌otherwise◌, first, every, below}
use Rattle.registers.specs.Error.{event_bit, overflow}
use Rattle.registers.specs.Queue.{may_be_queued, most, last_place}
use Rattle.registers.specs.Group.{meet, widest_group}
use Rattle.registers.specs.Status.{Registers, registers_of, trouble_of, group_in, raised_in, oldest_read_in, reported_in, register_set, stored_in, with_trouble, with_registers, set_reported, set_bits, summed_up, bit_of, widest_byte, widest, bit_if, summary, status_byte, possible_registers, possible_trouble, possible_status}
use Rattle.registers.specs.declared.status.Register.{Register}
use Rattle.registers.specs.declared.status.RegisterSet.{RegisterSet}
use Rattle.registers.specs.declared.status.RegisterSet.TheVariants.{Operation, Lock, Warning}
use Rattle.registers.specs.declared.status.Status.{Status}
use Rattle.registers.proofs.Tests.{front-empty, front-within, below_at}

-- ---- an error raised, by the room in the queue

module _ (n : ℕ) (s : Status) where
  pub raised-more : s.queued < most
      → raised_in n s ≡ with_trouble (bit_or s.events (event_bit n)) (s.queued + 1) (set s.errors s.queued n) s
  unfolding raised_in if◌then◌otherwise◌
  raised-more h = rw (lt-ltb s.queued most h)

  pub raised-full : most ≤ s.queued
      → raised_in n s ≡ with_trouble (bit_or (bit_or s.events (event_bit n)) (event_bit overflow)) s.queued (set s.errors last_place overflow) s
  unfolding raised_in if◌then◌otherwise◌
  raised-full h = rw (le-ltb s.queued most h)

-- ---- the oldest error

pub first_of : (l : List ℕ) (q : ℕ) → (q ≡ 0 → ⊥) → get_or l 0 0 ≡ first (take q l)
first_of l zero h = absurd (h refl)
first_of [] (suc q) h = refl
first_of (x ∷ l) (suc q) h = refl

module _ (s : Status) where
  pub oldest-none : s.queued ≡ 0 → oldest_read_in s ≡ s
  unfolding oldest_read_in if◌then◌otherwise◌
  oldest-none e = rw (eq-eqb s.queued 0 e)

  pub oldest-some : (s.queued ≡ 0 → ⊥) → oldest_read_in s ≡ with_trouble s.events (s.queued - 1) (drop 1 s.errors ++ 0 ∷ []) s
  unfolding oldest_read_in if◌then◌otherwise◌
  oldest-some e = rw (ne_eqb s.queued 0 e)

-- ---- a condition reported and a register set, by the width

module _ (s : Status) (n : ℕ) where
  pub reported-yes : (x : RegisterSet) → n ≤ widest_group → reported_in x n s ≡ with_registers (set_reported x n (registers_of s)) s
  unfolding reported_in if◌then◌otherwise◌
  reported-yes x h = rw (le-leb n widest_group h)

  pub reported-no : (x : RegisterSet) → widest_group < n → reported_in x n s ≡ s
  unfolding reported_in if◌then◌otherwise◌
  reported-no x h = rw (lt-leb n widest_group h)

  pub set-yes : (x : Register) → n ≤ widest x → register_set x n s ≡ with_registers (stored_in x n (registers_of s)) s
  unfolding register_set if◌then◌otherwise◌
  set-yes x h = rw (le-leb n (widest x) h)

  pub set-no : (x : Register) → widest x < n → register_set x n s ≡ s
  unfolding register_set if◌then◌otherwise◌
  set-no x h = rw (lt-leb n (widest x) h)

-- by a width that is known
module _ (s : Status) (n : ℕ) (x : Register) (w : ℕ) (e : w ≡ widest x) where
  pub set-within : n ≤ w → register_set x n s ≡ with_registers (stored_in x n (registers_of s)) s
  set-within h = set-yes s n x (rw e at h)

  pub set-above : w < n → register_set x n s ≡ s
  set-above h = set-no s n x (rw e at h)

-- bit 6 taken out of a byte, by a mask and by a difference
each-cleared : below 256 (λ n. eqb (bit_and n 65471) (n - bit_and n 64)) ≡ true
each-cleared = refl

pub bit6-cleared : (n : ℕ) → n < 256 → bit_and n (65535 - 64) ≡ n - bit_and n 64
bit6-cleared n h = eqb-true _ _ (below_at 256 (λ k. eqb (bit_and k 65471) (k - bit_and k 64)) each-cleared n h)

-- ---- the status byte

-- a bit that is on has its weight
pub bit_is : (on : Bool) (k : ℕ) → (if on then 2 ^ k otherwise 0) ≡ bit_if on k
unfolding if◌then◌otherwise◌
bit_is true k = refl
bit_is false k = refl

module _ (s : Status) (answers : Bool) (long : length s.errors ≡ most) where
  pub summary-is :
      set_bits s.groups
      + (if meet s.events s.ese then 2 ^ 5 otherwise 0)
      + (if answers then 2 ^ 4 otherwise 0)
      + (if not (eqb s.queued 0) then 2 ^ 2 otherwise 0)
      ≡ summary (registers_of s) (trouble_of s) answers
  unfolding summary
  summary-is =
      rw (front-empty s.errors s.queued (omega arith), bit_is (meet s.events s.ese) 5, bit_is answers 4, bit_is (not (eqb s.queued 0)) 2)

  pub byte-is : (n : ℕ) → n ≡ summary (registers_of s) (trouble_of s) answers
      → n + (if meet n s.sre then 2 ^ 6 otherwise 0) ≡ status_byte (registers_of s) (trouble_of s) answers
  unfolding status_byte
  byte-is n e = rw (e, bit_is (meet (summary (registers_of s) (trouble_of s) answers) s.sre) 6)

-- ---- refusal 4 on the status

module _ (s : Status) where
  pub queue-above : most < s.queued → false ≡ possible_status s
  unfolding possible_status
  queue-above h = rw (lt-leb s.queued most h)

  pub queue-within : s.queued ≤ most
      → possible_registers (registers_of s) && (leb s.events widest_byte && every may_be_queued (take s.queued s.errors)) ≡ possible_status s
  unfolding possible_status possible_trouble
  queue-within h = rw (le-leb s.queued most h, front-within s.errors s.queued most h)

-- ---- the three groups

-- the weight of a set's bit
weight_is : (x : RegisterSet) (r : Registers) → (if meet (group_in x r).event (group_in x r).enable then 2 ^ bit_of x otherwise 0) ≡ summed_up x r.groups
weight_is x r = bit_is (meet (group_in x r).event (group_in x r).enable) (bit_of x)

-- the weights of the three bits
pub bits_are : (r : Registers) → let bit : RegisterSet → ℕ = λ x. if meet (group_in x r).event (group_in x r).enable then 2 ^ bit_of x otherwise 0 in
    bit Operation + bit Lock + bit Warning ≡ set_bits r.groups
unfolding set_bits
bits_are r = rw (weight_is Operation r, weight_is Lock r, weight_is Warning r)
