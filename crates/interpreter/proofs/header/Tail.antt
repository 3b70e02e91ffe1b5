-- What comes after a header's last name: a `?` or none, and then white space or the text's end. What the tests that look for it say of the
-- text.
use mathlib.Core.Path.{◌≡◌, refl, sym, ◌∙◌, ap}
use mathlib.Core.Bool.{Bool, true, false, not, ◌||◌, false≢true}
use Prim.Native.Nat.{ℕ, ◌+◌, ◌≤◌, ◌<◌}
use native.Mathlib.Omega.{arith}
use lib.Dec.{eqb}
use lib.ListN.{length, get_or, drop}
use borrow.Author.Tests.{eq-eqb, eqb-true, not-false}
use mir.Val.{bool_byte}
use Rattle.std.specs.Prelude.{Some, None}
use Rattle.registers.specs.Text.{Text, if◌then◌otherwise◌, white, visible, empty, first, rest, start}
use Rattle.registers.proofs.text.Laws.{rest_at, first-within, start-more, start-stop, start-end}
use Prim.Native.Char.{code}
use Rattle.interpreter.specs.HeaderParts.{unasked, TailRead}

-- a colon joins another name, or none does
module _ (b : ℕ) where
  pub is_last : (star : Bool) → (star || not (eqb b (code ":"))) ≡ true → {x : ℕ} → b ≡ x → not star ≡ true → x ≡ code ":" → ⊥
  is_last true e q j c = false≢true j
  is_last false e q j c = false≢true (rw (eq-eqb b (code ":") (q ∙ c)) at e)

  pub is-joined : (star : Bool) → (star || not (eqb b (code ":"))) ≡ false → (not star ≡ true) × (b ≡ code ":")
  is-joined true e = absurd (false≢true (sym e))
  is-joined false e = (refl, eqb-true b (code ":") (not-false _ e))

-- the byte that was read at a place
module _ (t : Text) (at b : ℕ) (is : b ≡ first (drop at t)) where
  pub colon-within : b ≡ code ":" → at < length t
  colon-within e = first-within (λ x. eqb x (code ":")) t at refl (eq-eqb (first (drop at t)) (code ":") (sym is ∙ e))

  -- a `?` stands in the text
  pub tail-fits : (n : ℕ) → at ≤ n → length t ≤ n → at + bool_byte (eqb b (code "?")) ≤ n
  tail-fits n h l = go (eqb b (code "?")) refl
    where
      go : (q : Bool) → eqb b (code "?") ≡ q → at + bool_byte q ≤ n
      go true q =
          let w = first-within (λ x. eqb x (code "?")) t at refl (eq-eqb (first (drop at t)) (code "?") (sym is ∙ eqb-true b (code "?") q)) in
          omega arith
      go false q = omega arith

  after-mark : drop (at + bool_byte (eqb b (code "?"))) t ≡ unasked (drop at t)
  unfolding unasked if◌then◌otherwise◌
  after-mark = rw (sym is) (go (eqb b (code "?")))
    where
      go : (q : Bool) → drop (at + bool_byte q) t ≡ (if q then rest (drop at t) otherwise drop at t)
      go true = sym (rest_at t at)
      go false = let z : at + 0 ≡ at = omega arith in rw z

  module _ (held e : ℕ) (to : e ≡ at + bool_byte (eqb b (code "?"))) where
    after : empty (start visible (drop e t)) ≡ empty (start visible (unasked (drop at t)))
    after = ap (λ (u : Text). empty (start visible u)) (ap (λ (n : ℕ). drop n t) to ∙ after-mark)

    read : empty (start visible (drop e t)) ≡ true → TailRead t at held (Some (record { asked = eqb b (code "?"); end = e; count = held }))
    read k =
        record {
          ends = sym after ∙ k;
          asked = ap (λ (x : ℕ). eqb x (code "?")) is;
          end = to ∙ ap (λ (x : ℕ). at + bool_byte (eqb x (code "?"))) is;
          count = refl;
        }

    pub tail-end : length t ≤ e → TailRead t at held (Some (record { asked = eqb b (code "?"); end = e; count = held }))
    tail-end h = read (rw (start-end visible t e h))

    module _ (h : e < length t) where
      pub tail_white : white (get_or t e 0) ≡ true → TailRead t at held (Some (record { asked = eqb b (code "?"); end = e; count = held }))
      tail_white q = read (rw (start-stop visible t e h (ap not q)))

      pub tail_more : white (get_or t e 0) ≡ false → TailRead t at held None
      tail_more q = sym after ∙ rw (start-more visible t e h (ap not q))
