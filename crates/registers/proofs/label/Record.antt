-- The text in the settings' record. Refusal 4's test is of two parts: the bytes before the first zero may stand, and from it on all are zeros. A
-- text that is accepted is held as it is and passes the test; and a record that passes it is its text with zeros after it.
use mathlib.Core.Path.{◌≡◌, refl, sym, ◌∙◌, ap}
use mathlib.Core.Bool.{Bool, true, false, not, ◌&&◌, false≢true}
use mathlib.Core.List.{[], ◌∷◌}
use Prim.Native.Nat.{ℕ, zero, suc, ◌+◌, ◌≤◌}
use native.Mathlib.Nat.{zero-add}
use native.Mathlib.Omega.{arith}
use lib.Dec.{eqb}
use lib.ListN.{length, take, drop}
use borrow.Author.Tests.{eqb-true, ne_eqb}
use Rattle.registers.specs.Text.{Text, if◌then◌otherwise◌, every, after, index_of}
use Rattle.registers.specs.Label.{may_stand, padded, of_text, held_in, possible_text}
use Rattle.registers.proofs.Tests.{and_both, and_assoc}
use Rattle.registers.proofs.text.Laws.{take-start, drop-start, index-start}

-- ---- refusal 4's test, in its two parts

abbrev pub is_zero : ℕ → Bool
is_zero b = eqb b 0

pub possible-parts : (t : Text) → (every may_stand (held_in t) && every is_zero (after of_text t)) ≡ possible_text t
unfolding possible_text if◌then◌otherwise◌
possible-parts [] = refl
possible-parts (b ∷ t) = go (eqb b 0) refl (possible-parts t)
  where
    go : (z : Bool) → eqb b 0 ≡ z → (every may_stand (held_in t) && every is_zero (after of_text t)) ≡ possible_text t
        → (every may_stand (if not z then b ∷ held_in t otherwise []) && every is_zero (if not z then after of_text t otherwise b ∷ t))
        ≡ (if z then every is_zero t otherwise may_stand b && possible_text t)
    go true q ih = rw q
    go false q ih = and_assoc (may_stand b) _ _ ∙ ap (λ (p : Bool). may_stand b && p) ih

-- ---- its text, as the part of the record before the first zero

module _ (t : Text) (n : ℕ) (is : n ≡ 0 + index_of 0 t) where
  pub end_is : n ≡ length (held_in t)
  end_is = is ∙ zero-add (index_of 0 t) ∙ sym (index-start 0 t)

  pub front : take n t ≡ held_in t
  front = rw end_is (take-start of_text t)

  parts : (every may_stand (take n t) && every is_zero (drop n t)) ≡ possible_text t
  parts = rw (front, end_is, drop-start of_text t) (possible-parts t)

  -- refusal 4's test as it is made: of the text, and then of what stands after it
  module _ {a : Bool} (e : a ≡ every may_stand (take n t)) where
    pub possible_is : a ≡ true → {z : Bool} → z ≡ every is_zero (drop n t) → z ≡ possible_text t
    possible_is k f = f ∙ rw (← e, k) at parts

    pub impossible_is : a ≡ false → a ≡ possible_text t
    impossible_is k = k ∙ rw (← e, k) at parts

-- ---- a text that is accepted

stands-there : (b : ℕ) → may_stand b ≡ true → eqb b 0 ≡ false
unfolding may_stand
stands-there b e = ne_eqb b 0 (λ z. false≢true (rw z at e))

zeros-possible : (n : ℕ) → every is_zero (padded n []) ≡ true
unfolding padded
zeros-possible zero = refl
zeros-possible (suc n) = zeros-possible n

pub padded-possible : (n : ℕ) (t : Text) → every may_stand t ≡ true → possible_text (padded n t) ≡ true
unfolding padded possible_text if◌then◌otherwise◌
padded-possible zero t e = refl
padded-possible (suc n) [] e = zeros-possible n
padded-possible (suc n) (b ∷ t) e =
    let p = and_both (may_stand b) (every may_stand t) e in rw (stands-there b p.0, p.0) (padded-possible n t p.1)

zeros-none : (n : ℕ) → held_in (padded n []) ≡ []
unfolding padded if◌then◌otherwise◌
zeros-none zero = refl
zeros-none (suc n) = refl

-- it is held as it is
pub padded-held : (n : ℕ) (t : Text) → every may_stand t ≡ true → length t ≤ n → held_in (padded n t) ≡ t
unfolding padded if◌then◌otherwise◌
padded-held n [] e h = zeros-none n
padded-held zero (b ∷ t) e h = absurd (omega arith)
padded-held (suc n) (b ∷ t) e h =
    let p = and_both (may_stand b) (every may_stand t) e in
    rw (stands-there b p.0) (ap (λ (l : Text). b ∷ l) (padded-held n t p.1 (omega arith)))

pub padded-length : (n : ℕ) (t : Text) → length (padded n t) ≡ n
unfolding padded
padded-length zero t = refl
padded-length (suc n) [] = ap suc (padded-length n [])
padded-length (suc n) (b ∷ t) = ap suc (padded-length n t)

-- ---- a record that passes the test: its text's bytes are accepted, it is as short as the record, and with zeros after it, it is the record

zeros-padded : (t : Text) → every is_zero t ≡ true → padded (length t) [] ≡ t
unfolding padded
zeros-padded [] e = refl
zeros-padded (b ∷ t) e =
    let p = and_both (is_zero b) (every is_zero t) e in
    ap (λ (l : Text). 0 ∷ l) (zeros-padded t p.1) ∙ ap (λ (x : ℕ). x ∷ t) (sym (eqb-true b 0 p.0))

pub record HeldRight (t : Text) : Type 0 where
  pub accepted : every may_stand (held_in t) ≡ true
  pub short : length (held_in t) ≤ length t
  pub whole : padded (length t) (held_in t) ≡ t

pub held-right : (t : Text) → possible_text t ≡ true → HeldRight t
unfolding possible_text padded if◌then◌otherwise◌
held-right [] e = record { accepted = refl; short = omega arith; whole = refl }
held-right (b ∷ t) e = go (eqb b 0) refl e (λ k. held-right t k)
  where
    go : (z : Bool) → eqb b 0 ≡ z → (if z then every is_zero t otherwise may_stand b && possible_text t) ≡ true → (possible_text t ≡ true → HeldRight t)
        → HeldRight (b ∷ t)
    go true q k ih =
        record {
          accepted = rw q;
          short = rw q (omega arith);
          whole = rw q (ap (λ (l : Text). 0 ∷ l) (zeros-padded t k) ∙ ap (λ (x : ℕ). x ∷ t) (sym (eqb-true b 0 q)));
        }
    go false q k ih =
        let p = and_both (may_stand b) (possible_text t) k in
        let w = ih p.1 in
        let s = w.short in
        record {
          accepted = rw (q, p.0) w.accepted;
          short = rw q (omega arith);
          whole = rw q (ap (λ (l : Text). b ∷ l) w.whole);
        }
