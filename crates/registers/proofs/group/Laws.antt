-- Laws of a register group: the transition rule, bit by bit, and no register ever above its width.
use mathlib.Core.Path.{◌≡◌, refl}
use mathlib.Core.Bool.{Bool, true, not, ◌&&◌, ◌||◌}
use Prim.Native.Nat.{ℕ, zero, suc, ◌-◌, ◌/◌, ◌%◌, ◌^◌, min, max, ◌≤◌, ◌<◌}
use native.Mathlib.Omega.{arith}
use native.Mathlib.Nat.{le_trans}
use lib.Pow.{pow_pos}
use lib.Dec.{eqb, leb}
use lib.Bits.{bit_and, bit_or, bit_xor, differ, or_lt, and_le_r, and_shr, or_shr, xor_shr, and_step, or_step, xor_step}
use borrow.Author.Tests.{le-leb, leb-true}
use Rattle.registers.specs.Group.{rises, falls, events_after, condition_is, event_read, possible_group, widest_group}
use Rattle.registers.specs.declared.group.Group.{Group}
use Rattle.registers.proofs.Tests.{and_both}

-- ---- bits

abbrev bit_at : ℕ → ℕ → ℕ
bit_at k x = x / 2 ^ k % 2

-- a number has a bit
abbrev pub has : ℕ → ℕ → Bool
has k x = eqb (x / 2 ^ k % 2) 1

differ-max : (x y : ℕ) → differ x y ≤ max x y
differ-max zero y = omega arith
differ-max (suc x) zero = omega arith
differ-max (suc x) (suc y) = let h = differ-max x y in omega arith

module _ (k a b : ℕ) where
  bit-and : bit_at k (bit_and a b) ≡ min (bit_at k a) (bit_at k b)
  bit-and = rw and_shr (let e = and_step (a / 2 ^ k) (b / 2 ^ k) in omega arith)

  bit-or : bit_at k (bit_or a b) ≡ max (bit_at k a) (bit_at k b)
  bit-or = rw or_shr (let e = or_step (a / 2 ^ k) (b / 2 ^ k) in omega arith)

  bit-xor : bit_at k (bit_xor a b) ≡ differ (bit_at k a) (bit_at k b)
  bit-xor =
      rw xor_shr
      (let e = xor_step (a / 2 ^ k) (b / 2 ^ k) in let d = differ-max (a / 2 ^ k % 2) (b / 2 ^ k % 2) in omega arith)

-- the same as tests: a bit is 0 or 1
two : (P : ℕ → Type 0) (x : ℕ) → P 0 → P 1 → P (x % 2)
two P x p q = go (x % 2) (omega arith)
  where
    go : (m : ℕ) → m < 2 → P m
    go zero h = p
    go (suc zero) h = q
    go (suc (suc m)) h = absurd (omega arith)

module _ (k a b : ℕ) where
  has-and : has k (bit_and a b) ≡ (has k a && has k b)
  has-and =
      rw bit-and
      (two (λ m. eqb (min m (bit_at k b)) 1 ≡ (eqb m 1 && has k b)) (a / 2 ^ k)
      (two (λ m. eqb (min 0 m) 1 ≡ (eqb 0 1 && eqb m 1)) (b / 2 ^ k) refl refl)
      (two (λ m. eqb (min 1 m) 1 ≡ (eqb 1 1 && eqb m 1)) (b / 2 ^ k) refl refl))

  has-or : has k (bit_or a b) ≡ (has k a || has k b)
  has-or =
      rw bit-or
      (two (λ m. eqb (max m (bit_at k b)) 1 ≡ (eqb m 1 || has k b)) (a / 2 ^ k)
      (two (λ m. eqb (max 0 m) 1 ≡ (eqb 0 1 || eqb m 1)) (b / 2 ^ k) refl refl)
      (two (λ m. eqb (max 1 m) 1 ≡ (eqb 1 1 || eqb m 1)) (b / 2 ^ k) refl refl))

-- a bit rises: it is not in the old and is in the new; it falls: the other way round
module _ (k old new : ℕ) where
  pub rises-bit : has k (rises old new) ≡ (not (has k old) && has k new)
  unfolding rises
  rises-bit =
      rw (bit-and, bit-xor)
      (two (λ m. eqb (min (differ m (bit_at k new)) (bit_at k new)) 1 ≡ (not (eqb m 1) && has k new)) (old / 2 ^ k)
      (two (λ m. eqb (min (differ 0 m) m) 1 ≡ (not (eqb 0 1) && eqb m 1)) (new / 2 ^ k) refl refl)
      (two (λ m. eqb (min (differ 1 m) m) 1 ≡ (not (eqb 1 1) && eqb m 1)) (new / 2 ^ k) refl refl))

  pub falls-bit : has k (falls old new) ≡ (has k old && not (has k new))
  unfolding falls
  falls-bit =
      rw (bit-and, bit-xor)
      (two (λ m. eqb (min (differ m (bit_at k new)) m) 1 ≡ (eqb m 1 && not (has k new))) (old / 2 ^ k)
      (two (λ m. eqb (min (differ 0 m) 0) 1 ≡ (eqb 0 1 && not (eqb m 1))) (new / 2 ^ k) refl refl)
      (two (λ m. eqb (min (differ 1 m) 1) 1 ≡ (eqb 1 1 && not (eqb m 1))) (new / 2 ^ k) refl refl))

-- 01's transition rule, for any bit k of any group: an event bit is set where it was set, where its condition bit rises
-- and PTR has it, or where it falls and NTR has it
pub transition-bit : (k new : ℕ) (g : Group)
    → has k (condition_is new g).event
    ≡ (has k g.event
    || (not (has k g.condition) && has k new && has k g.ptr || has k g.condition && not (has k new) && has k g.ntr))
unfolding condition_is events_after
transition-bit k new g = simp (has-or, has-and, rises-bit, falls-bit)

-- ---- no register above its width

pub or-within : (k a b : ℕ) → a ≤ 2 ^ k - 1 → b ≤ 2 ^ k - 1 → bit_or a b ≤ 2 ^ k - 1
or-within k a b ha hb = let p = pow_pos k in let h = or_lt k a b (omega arith) (omega arith) in omega arith

-- the five facts of the test
pub record Widths (g : Group) : Type 0 where
  pub condition : g.condition ≤ widest_group
  pub event : g.event ≤ widest_group
  pub enable : g.enable ≤ widest_group
  pub ptr : g.ptr ≤ widest_group
  pub ntr : g.ntr ≤ widest_group

pub widths-from : (g : Group) → possible_group g ≡ true → Widths g
unfolding possible_group
widths-from g e =
    let a = and_both _ (leb g.ntr widest_group) e in
    let b = and_both _ (leb g.ptr widest_group) a.0 in
    let c = and_both _ (leb g.enable widest_group) b.0 in
    let d = and_both (leb g.condition widest_group) (leb g.event widest_group) c.0 in
    record {
      condition = leb-true g.condition widest_group d.0;
      event = leb-true g.event widest_group d.1;
      enable = leb-true g.enable widest_group c.1;
      ptr = leb-true g.ptr widest_group b.1;
      ntr = leb-true g.ntr widest_group a.1;
    }

pub widths-to : (g : Group) → Widths g → possible_group g ≡ true
unfolding possible_group
widths-to g w =
    rw (le-leb g.condition widest_group w.condition, le-leb g.event widest_group w.event, le-leb g.enable widest_group w.enable, le-leb g.ptr widest_group w.ptr, le-leb g.ntr widest_group w.ntr)

module _ (g : Group) (w : Widths g) where
  pub condition-widths : (n : ℕ) → n ≤ widest_group → Widths (condition_is n g)
  unfolding condition_is events_after
  condition-widths n h =
      let r = le_trans (and_le_r (rises g.condition n) g.ptr) w.ptr in
      let f = le_trans (and_le_r (falls g.condition n) g.ntr) w.ntr in
      record {
        condition = h;
        event = or-within 15 g.event _ w.event (or-within 15 _ _ r f);
        enable = w.enable;
        ptr = w.ptr;
        ntr = w.ntr;
      }

  pub read-widths : Widths (event_read g)
  unfolding event_read
  read-widths = record { condition = w.condition; event = omega arith; enable = w.enable; ptr = w.ptr; ntr = w.ntr }
