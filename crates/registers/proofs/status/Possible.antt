-- Refusal 4 never comes by what the box does: the facts of its test (`Good`, `Fit`) are kept by each method. And 01's transition rule
-- over the three sets (`transition`, `others-stay`).
use mathlib.Core.Path.{◌≡◌, refl}
use mathlib.Core.Bool.{Bool, true, false, not, ◌&&◌, ◌||◌}
use mathlib.Core.List.{List, [], ◌∷◌, ◌++◌, map}
use Prim.Native.Nat.{ℕ, zero, suc, ◌+◌, ◌^◌, ◌≤◌, ◌<◌, zero-le}
use native.Mathlib.Omega.{arith}
use lib.Bits.{bit_and, bit_or}
use lib.Dec.{leb, ltb, eqb, lit≤}
use lib.ListN.{length, take, set, get_or, length-append, length-take}
use lib.Seq.{get_or-set_same, get_or-set_other}
use borrow.Author.Tests.{le-leb, leb-true, ltb-true, eqb-true}
use Rattle.registers.specs.Text.{if◌then◌otherwise◌, every, rest, below}
use Rattle.registers.specs.Error.{event_bit, overflow}
use Rattle.registers.specs.Queue.{may_be_queued, queueable, most, last_place}
use Rattle.registers.specs.Group.{widest_group, condition_is, event_read, possible_group, no_group}
use Rattle.registers.specs.Status.{Trouble, Registers, raised, no_trouble, completed, events_read, oldest_read, group_in, with_group, set_read, all_read, set_reported, place_of, stored_in, without_bit6, widest_byte, widest, possible_registers, possible_trouble}
use Rattle.registers.specs.declared.status.Register.{Register}
use Rattle.registers.specs.declared.status.Register.TheVariants.{Ese, Sre, Enable, Ntr, Ptr}
use Rattle.registers.specs.declared.status.RegisterSet.{RegisterSet}
use Rattle.registers.specs.declared.group.Group.{Group}
use Rattle.registers.proofs.Tests.{and_both, and-true, every_append, every_take, every_rest, below_at}
use Rattle.registers.proofs.group.Laws.{has, transition-bit, or-within, Widths, widths-from, widths-to, condition-widths, read-widths}

-- ---- trouble

bit_byte : (n : ℕ) → event_bit n ≤ widest_byte
unfolding event_bit if◌then◌otherwise◌
bit_byte n = go (ltb n 200) (ltb n 300) (ltb n 400)
  where
    go : (a b c : Bool) → (if a then 2 ^ 5 otherwise (if b then 2 ^ 4 otherwise (if c then 2 ^ 3 otherwise 2 ^ 2))) ≤ widest_byte
    go true b c = omega arith
    go false true c = omega arith
    go false false true = omega arith
    go false false false = omega arith

-- the three facts of the test
pub record Good (t : Trouble) : Type 0 where
  pub queue : length t.queue ≤ most
  pub events : t.events ≤ widest_byte
  pub numbers : every may_be_queued t.queue ≡ true

pub good-from : (t : Trouble) → possible_trouble t ≡ true → Good t
unfolding possible_trouble
good-from t e =
    let a = and_both (leb (length t.queue) most) _ e in
    let b = and_both (leb t.events widest_byte) _ a.1 in
    record { queue = leb-true (length t.queue) most a.0; events = leb-true t.events widest_byte b.0; numbers = b.1 }

pub good-to : (t : Trouble) → Good t → possible_trouble t ≡ true
unfolding possible_trouble
good-to t g = rw (le-leb (length t.queue) most g.queue, le-leb t.events widest_byte g.events, g.numbers)

length_rest : (l : List ℕ) (n : ℕ) → length l ≤ n → length (rest l) ≤ n
length_rest [] n h = zero-le
length_rest (x ∷ l) n h = omega arith

module _ (t : Trouble) (g : Good t) where
  pub raised-good : (n : ℕ) → may_be_queued n ≡ true → Good (raised n t)
  unfolding raised if◌then◌otherwise◌ may_be_queued queueable
  raised-good n k = go (ltb (length t.queue) most) refl
    where
      go : (b : Bool) → ltb (length t.queue) most ≡ b
          → Good (if b then record { events = bit_or t.events (event_bit n); queue = t.queue ++ n ∷ [] }
          otherwise record { events = bit_or (bit_or t.events (event_bit n)) (event_bit overflow); queue = take last_place t.queue ++ overflow ∷ [] })
      go true e =
          record {
            queue = let h = ltb-true (length t.queue) most e in simp length-append (omega arith);
            events = or-within 8 t.events _ g.events (bit_byte n);
            numbers = every_append may_be_queued t.queue (n ∷ []) g.numbers (rw k refl);
          }
      go false e =
          record {
            queue = simp (length-append, length-take) (omega arith);
            events = or-within 8 _ _ (or-within 8 t.events _ g.events (bit_byte n)) (bit_byte overflow);
            numbers = every_append may_be_queued (take last_place t.queue) (overflow ∷ []) (every_take may_be_queued last_place t.queue g.numbers) refl;
          }

  pub completed-good : Good (completed t)
  unfolding completed
  completed-good = record { queue = g.queue; events = or-within 8 t.events 1 g.events (lit≤ tt); numbers = g.numbers }

  pub events-good : Good (events_read t)
  unfolding events_read
  events-good = record { queue = g.queue; events = zero-le; numbers = g.numbers }

  pub oldest-good : Good (oldest_read t)
  unfolding oldest_read
  oldest-good =
      record {
        queue = length_rest t.queue most g.queue;
        events = g.events;
        numbers = every_rest may_be_queued t.queue g.numbers;
      }

pub none-good : Good no_trouble
none-good = record { queue = zero-le; events = zero-le; numbers = refl }

-- ---- registers

pub record Fit (r : Registers) : Type 0 where
  pub ese : r.ese ≤ widest_byte
  pub sre : r.sre ≤ widest_byte
  pub bit6 : bit_and r.sre (2 ^ 6) ≡ 0
  pub groups : every possible_group r.groups ≡ true

pub fit-from : (r : Registers) → possible_registers r ≡ true → Fit r
unfolding possible_registers
fit-from r e =
    let a = and_both _ (every possible_group r.groups) e in
    let b = and_both _ (eqb (bit_and r.sre (2 ^ 6)) 0) a.0 in
    let c = and_both (leb r.ese widest_byte) (leb r.sre widest_byte) b.0 in
    record {
      ese = leb-true r.ese widest_byte c.0;
      sre = leb-true r.sre widest_byte c.1;
      bit6 = eqb-true (bit_and r.sre (2 ^ 6)) 0 b.1;
      groups = a.1;
    }

pub fit-to : (r : Registers) → Fit r → possible_registers r ≡ true
unfolding possible_registers
fit-to r f =
    rw (le-leb r.ese widest_byte f.ese, le-leb r.sre widest_byte f.sre, f.bit6, f.groups)

-- every group by its place, and with another at a place
every_set : (gs : List Group) (i : ℕ) (g : Group) → every possible_group gs ≡ true → possible_group g ≡ true → every possible_group (set gs i g) ≡ true
every_set [] i g e f = refl
every_set (x ∷ gs) zero g e f = and-true f (and_both (possible_group x) (every possible_group gs) e).1
every_set (x ∷ gs) (suc i) g e f =
    let p = and_both (possible_group x) (every possible_group gs) e in
    and-true p.0 (every_set gs i g p.1 f)

every_get : (gs : List Group) (i : ℕ) → every possible_group gs ≡ true → possible_group (get_or gs i no_group) ≡ true
unfolding possible_group
every_get [] i e = refl
every_get (x ∷ gs) zero e = (and_both (possible_group x) (every possible_group gs) e).0
every_get (x ∷ gs) (suc i) e = every_get gs i (and_both (possible_group x) (every possible_group gs) e).1

every-read : (gs : List Group) → every possible_group gs ≡ true → every possible_group (map event_read gs) ≡ true
every-read [] e = refl
every-read (x ∷ gs) e =
    let p = and_both (possible_group x) (every possible_group gs) e in
    and-true (widths-to _ (read-widths x (widths-from x p.0))) (every-read gs p.1)

pub widths-in : (x : RegisterSet) (r : Registers) → Fit r → Widths (group_in x r)
widths-in x r f = widths-from _ (every_get r.groups (place_of x) f.groups)

pub group-fit : (x : RegisterSet) (g : Group) (r : Registers) → Widths g → Fit r → Fit (with_group x g r)
group-fit x g r w f = record { ese = f.ese; sre = f.sre; bit6 = f.bit6; groups = every_set r.groups (place_of x) g f.groups (widths-to g w) }

-- *SRE without bit 6, at each of its values
sre-table : below (widest_byte + 1) (λ n. leb (without_bit6 n) widest_byte && eqb (bit_and (without_bit6 n) (2 ^ 6)) 0) ≡ true
unfolding without_bit6
sre-table = refl

sre-stored : (n : ℕ) → n ≤ widest_byte → (without_bit6 n ≤ widest_byte) × (bit_and (without_bit6 n) (2 ^ 6) ≡ 0)
sre-stored n h =
    let t = below_at (widest_byte + 1) (λ n. leb (without_bit6 n) widest_byte && eqb (bit_and (without_bit6 n) (2 ^ 6)) 0) sre-table n (omega arith) in
    let p = and_both (leb (without_bit6 n) widest_byte) _ t in
    (leb-true (without_bit6 n) widest_byte p.0, eqb-true (bit_and (without_bit6 n) (2 ^ 6)) 0 p.1)

pub stored-fit : (x : Register) (n : ℕ) (r : Registers) → n ≤ widest x → Fit r → Fit (stored_in x n r)
unfolding stored_in
stored-fit Ese n r h f = record { ese = h; sre = f.sre; bit6 = f.bit6; groups = f.groups }
stored-fit Sre n r h f = record { ese = f.ese; sre = (sre-stored n h).0; bit6 = (sre-stored n h).1; groups = f.groups }
stored-fit (Enable x) n r h f = let w = widths-in x r f in group-fit x _ r (record { condition = w.condition; event = w.event; enable = h; ptr = w.ptr; ntr = w.ntr }) f
stored-fit (Ntr x) n r h f = let w = widths-in x r f in group-fit x _ r (record { condition = w.condition; event = w.event; enable = w.enable; ptr = w.ptr; ntr = h }) f
stored-fit (Ptr x) n r h f = let w = widths-in x r f in group-fit x _ r (record { condition = w.condition; event = w.event; enable = w.enable; ptr = h; ntr = w.ntr }) f

pub condition-fit : (x : RegisterSet) (n : ℕ) (r : Registers) → n ≤ widest_group → Fit r → Fit (set_reported x n r)
condition-fit x n r h f = group-fit x _ r (condition-widths (group_in x r) (widths-in x r f) n h) f

pub read-fit : (x : RegisterSet) (r : Registers) → Fit r → Fit (set_read x r)
read-fit x r f = group-fit x _ r (read-widths (group_in x r) (widths-in x r f)) f

pub cleared-fit : (r : Registers) → Fit r → Fit (all_read r)
cleared-fit r f = record { ese = f.ese; sre = f.sre; bit6 = f.bit6; groups = every-read r.groups f.groups }

-- 01's transition rule, once over the three sets: a report of one sets its event bits, and leaves the others alone
module _ (x : RegisterSet) (n : ℕ) (r : Registers) where
  pub transition : place_of x < length r.groups → (k : ℕ) → let g = group_in x r in
      has k (group_in x (set_reported x n r)).event
      ≡ (has k g.event || (not (has k g.condition) && has k n && has k g.ptr || has k g.condition && not (has k n) && has k g.ntr))
  transition h k =
      rw (get_or-set_same r.groups (place_of x) (condition_is n (group_in x r)) no_group h) (transition-bit k n (group_in x r))

  pub others-stay : (y : RegisterSet) → (place_of y ≡ place_of x → ⊥) → group_in y (set_reported x n r) ≡ group_in y r
  others-stay y ne = get_or-set_other r.groups (place_of x) (place_of y) (condition_is n (group_in x r)) no_group ne
