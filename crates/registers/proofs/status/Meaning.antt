-- What each method of the status record does to the registers and the trouble that the record means.
use mathlib.Core.Path.{◌≡◌, refl, sym, ◌∙◌}
use mathlib.Core.Bool.{Bool, true, false}
use mathlib.Core.List.{List, [], ◌∷◌, ◌++◌}
use Prim.Native.Nat.{ℕ, zero, suc, ◌+◌, ◌≤◌, ◌<◌}
use native.Mathlib.Omega.{arith}
use native.Mathlib.Numerals.{add-one, sub-one}
use lib.Bits.{bit_or}
use lib.Dec.{ltb, eqb}
use lib.ListN.{length, take, drop, set, length-take, length-set}
use lib.Seq.{take-suc-set, take_all, take-take, take-append-le}
use borrow.Author.Tests.{lt-ltb, le-ltb, ltb-true, ltb-false, eqb-true, eqb-false}
use Rattle.registers.specs.Text.{if◌then◌otherwise◌, rest}
use Rattle.registers.specs.Error.{overflow}
use Rattle.registers.specs.Status.{registers_of, trouble_of, raised, no_trouble, completed, events_read, oldest_read, all_read, raised_in, cleared_in, events_in, oldest_read_in}
use Rattle.registers.specs.Queue.{most, last_place}
use Rattle.registers.specs.declared.status.Status.{Status}
use Rattle.registers.proofs.status.Laws.{raised-more, raised-full, oldest-none, oldest-some}

-- ---- a queue that is the front of an array

module _ (l : List ℕ) (q : ℕ) (long : length l ≡ most) where
  front-more : (x : ℕ) → q < most → take (q + 1) (set l q x) ≡ take q l ++ x ∷ []
  front-more x h = rw add-one (take-suc-set l q x (omega arith))

  full-last : (x : ℕ) → most ≤ q → take q (set l last_place x) ≡ take last_place (take q l) ++ x ∷ []
  full-last x h =
      rw (take-take last_place q l (omega arith), take_all q (set l last_place x) (rw length-set (omega arith)))
      (sym (take_all most (set l last_place x) (rw length-set (omega arith))) ∙ take-suc-set l last_place x (omega arith))

moved_up : (l : List ℕ) (q : ℕ) → length l ≡ most → q < most → take q (drop 1 l ++ 0 ∷ []) ≡ rest (take (suc q) l)
moved_up [] q long h = absurd (omega arith)
moved_up (x ∷ l) q long h = take-append-le q l (0 ∷ []) (omega arith)

module _ (n : ℕ) (s : Status) (long : length s.errors ≡ most) where
  pub raised-trouble : trouble_of (raised_in n s) ≡ raised n (trouble_of s)
  unfolding raised if◌then◌otherwise◌
  raised-trouble = go (ltb s.queued most) refl
    where
      go : (t : Bool) → ltb s.queued most ≡ t → trouble_of (raised_in n s) ≡ raised n (trouble_of s)
      go true e =
          let h = ltb-true s.queued most e in
          let k : ltb (length (take s.queued s.errors)) most ≡ true = lt-ltb (length (take s.queued s.errors)) most (rw length-take (omega arith)) in
          rw (raised-more n s h, k, front-more s.errors s.queued long n h)
      go false e =
          let h = ltb-false s.queued most e in
          let k : ltb (length (take s.queued s.errors)) most ≡ false = le-ltb (length (take s.queued s.errors)) most (rw length-take (omega arith)) in
          rw (raised-full n s h, k, full-last s.errors s.queued long overflow h)

  pub raised-registers : registers_of (raised_in n s) ≡ registers_of s
  raised-registers = go (ltb s.queued most) refl
    where
      go : (t : Bool) → ltb s.queued most ≡ t → registers_of (raised_in n s) ≡ registers_of s
      go true e = rw (raised-more n s (ltb-true s.queued most e))
      go false e = rw (raised-full n s (ltb-false s.queued most e))

  -- the queue stays within its array
  pub raised-queued : s.queued ≤ most → (raised_in n s).queued ≤ most
  raised-queued q = go (ltb s.queued most) refl
    where
      go : (t : Bool) → ltb s.queued most ≡ t → (raised_in n s).queued ≤ most
      go true e = let h = ltb-true s.queued most e in rw (raised-more n s h) (omega arith)
      go false e = rw (raised-full n s (ltb-false s.queued most e)) q

module _ (s : Status) where
  pub cleared-trouble : trouble_of (cleared_in s) ≡ no_trouble
  unfolding cleared_in
  cleared-trouble = refl

  pub cleared-registers : registers_of (cleared_in s) ≡ all_read (registers_of s)
  unfolding cleared_in
  cleared-registers = refl

  pub completed-trouble : trouble_of (events_in (bit_or s.events 1) s) ≡ completed (trouble_of s)
  unfolding events_in completed
  completed-trouble = refl

  pub events-trouble : trouble_of (events_in 0 s) ≡ events_read (trouble_of s)
  unfolding events_in events_read
  events-trouble = refl

  pub events-registers : (n : ℕ) → registers_of (events_in n s) ≡ registers_of s
  unfolding events_in
  events-registers n = refl

module _ (s : Status) (long : length s.errors ≡ most) (short : s.queued ≤ most) where
  pub oldest-trouble : trouble_of (oldest_read_in s) ≡ oldest_read (trouble_of s)
  unfolding oldest_read
  oldest-trouble = go s.queued refl
    where
      go : (q : ℕ) → s.queued ≡ q → trouble_of (oldest_read_in s) ≡ record { events = s.events; queue = rest (take s.queued s.errors) }
      go zero e = rw (oldest-none s e, e)
      go (suc q) e =
          rw (oldest-some s (λ z. omega arith), e, sub-one (suc q), moved_up s.errors q long (omega arith))

  pub oldest-registers : registers_of (oldest_read_in s) ≡ registers_of s
  oldest-registers = go (eqb s.queued 0) refl
    where
      go : (t : Bool) → eqb s.queued 0 ≡ t → registers_of (oldest_read_in s) ≡ registers_of s
      go true e = rw (oldest-none s (eqb-true s.queued 0 e))
      go false e = rw (oldest-some s (eqb-false s.queued 0 e))

  pub oldest-queued : (oldest_read_in s).queued ≤ most
  oldest-queued = go (eqb s.queued 0) refl
    where
      go : (t : Bool) → eqb s.queued 0 ≡ t → (oldest_read_in s).queued ≤ most
      go true e = rw (oldest-none s (eqb-true s.queued 0 e)) short
      go false e = rw (oldest-some s (eqb-false s.queued 0 e)) (omega arith)
