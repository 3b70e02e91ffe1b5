-- On which side of the rounded size the exact one lies: by comparison, over a common factor. `Lowering` is the invariant of the loop
-- that divides: y is x without its last digits, and `exact` says that these are all 0.
use mathlib.Core.Path.{◌≡◌, refl, ap, sym, ◌∙◌}
use mathlib.Core.Bool.{Bool, true, false, ◌&&◌}
use Prim.Native.Nat.{ℕ, zero, suc, ◌+◌, ◌-◌, ◌*◌, ◌/◌, ◌%◌, ◌^◌, min, ◌≤◌, ◌<◌}
use native.Mathlib.Omega.{arith}
use native.Mathlib.Numerals.{add-one}
use native.Mathlib.Nat.{pow-suc, mul-le-mul_right}
use lib.Dec.{eqb, ltb}
use lib.Pow.{pow-add}
use borrow.Author.Tests.{eqb-true, eqb-false, ltb-true, ltb-false, eq-eqb, ne_eqb, lt-ltb, le-ltb}
use Rattle.registers.specs.Text.{if◌then◌otherwise◌}
use Rattle.registers.specs.Rounding.{nearest, size_side}
use Rattle.registers.specs.RoundingParts.{beyond, sized_over, held_over}
use Rattle.registers.specs.declared.rounding.Side.{Side}
use Rattle.registers.specs.declared.rounding.Side.TheVariants.{On, Below, Above}
use Rattle.registers.specs.declared.rounding.Stepped.{Stepped}
use Rattle.registers.proofs.rounding.Laws.{nearest-only}
use Rattle.registers.proofs.rounding.Tens.{ten-positive, tens-add, nearest-up, nearest-down}

abbrev pub sized : ℕ → Side → Stepped ℕ
sized n x = record { count = n; side = x }

-- ---- the three cases

module _ (num den r : ℕ) where
  pub side-on : num ≡ r * den → size_side num den r ≡ On
  unfolding size_side if◌then◌otherwise◌
  side-on e = rw (eq-eqb num (r * den) e)

  pub side-below : num < r * den → size_side num den r ≡ Below
  unfolding size_side if◌then◌otherwise◌
  side-below h = rw (ne_eqb num (r * den) (λ e. omega arith), lt-ltb num (r * den) h)

  pub side-above : r * den < num → size_side num den r ≡ Above
  unfolding size_side if◌then◌otherwise◌
  side-above h = rw (ne_eqb num (r * den) (λ e. omega arith), le-ltb num (r * den) (omega arith))

-- a common factor changes nothing
pub side-scaled : (num den r c : ℕ) → 0 < c → size_side num den r ≡ size_side (num * c) (den * c) r
side-scaled num den r c h = go (ltb num (r * den)) refl (ltb (r * den) num) refl
  where
    go : (a : Bool) → ltb num (r * den) ≡ a → (b : Bool) → ltb (r * den) num ≡ b → size_side num den r ≡ size_side (num * c) (den * c) r
    go true e b f =
        let q = ltb-true num (r * den) e in
        let m = mul-le-mul_right c q in
        side-below num den r q ∙ sym (side-below (num * c) (den * c) r (omega arith))
    go false e true f =
        let q = ltb-true (r * den) num f in
        let m = mul-le-mul_right c q in
        side-above num den r q ∙ sym (side-above (num * c) (den * c) r (omega arith))
    go false e false f =
        let s = ltb-false num (r * den) e in
        let t = ltb-false (r * den) num f in
        let q : num ≡ r * den = omega arith in
        let m : num * c ≡ r * (den * c) = ap (λ (x : ℕ). x * c) q ∙ omega arith in
        side-on num den r q ∙ sym (side-on (num * c) (den * c) r m)

-- ---- one digit more is cut off

module _ (x y q : ℕ) (some : 0 < q) (low : y * q ≤ x) (high : x < (y + 1) * q) where
  split : y * q ≡ y / 10 * (10 * q) + y % 10 * q
  split = let e : y ≡ y / 10 * 10 + y % 10 = omega arith in ap (λ (z : ℕ). z * q) e ∙ omega arith

  cut_low : y / 10 * (10 * q) ≤ x
  cut_low = let s = split in omega arith

  cut_high : x < (y / 10 + 1) * (10 * q)
  cut_high = let s = split in let m = mul-le-mul_right q (let k : y % 10 ≤ 9 = omega arith in k) in omega arith

  cut-told : (a : Bool) → eqb (y * q) x ≡ a → (b : Bool) → eqb (y % 10) 0 ≡ b → a && b ≡ eqb (y / 10 * (10 * q)) x
  cut-told true e true f =
      let s = split in
      let k = eqb-true (y * q) x e in
      let z : y % 10 * q ≡ 0 * q = ap (λ (l : ℕ). l * q) (eqb-true (y % 10) 0 f) in
      sym (eq-eqb (y / 10 * (10 * q)) x (omega arith))
  cut-told true e false f =
      let s = split in
      let k = eqb-true (y * q) x e in
      let m = mul-le-mul_right q (let k : 1 ≤ y % 10 = positive (y % 10) (eqb-false (y % 10) 0 f) in k) in
      sym (ne_eqb (y / 10 * (10 * q)) x (λ i. omega arith))
    where
      positive : (n : ℕ) → (n ≡ 0 → ⊥) → 1 ≤ n
      positive zero h = absurd (h refl)
      positive (suc n) h = omega arith
  cut-told false e b f =
      let s = split in
      sym (ne_eqb (y / 10 * (10 * q)) x (λ i. eqb-false (y * q) x e (omega arith)))

  cut_up : 5 ≤ y % 10 → sized (y / 10 + 1) Below ≡ sized_over x (10 * q)
  unfolding sized_over
  cut_up h =
      let s = split in
      let l = mul-le-mul_right q h in
      let m = cut_high in
      let n : nearest x (10 * q) ≡ y / 10 + 1 = nearest-only (record { low = omega arith; high = omega arith }) in
      rw (n, side-below x (10 * q) (y / 10 + 1) m)

  near : y % 10 < 5 → nearest x (10 * q) ≡ y / 10
  near h =
      let s = split in
      let l = mul-le-mul_right q (let k : y % 10 ≤ 4 = omega arith in k) in
      nearest-only (record { low = omega arith; high = omega arith })

  cut_on : eqb (y / 10 * (10 * q)) x ≡ true → y % 10 < 5 → sized (y / 10) On ≡ sized_over x (10 * q)
  unfolding sized_over
  cut_on e h = rw (near h, side-on x (10 * q) (y / 10) (sym (eqb-true (y / 10 * (10 * q)) x e)))

  cut-above : eqb (y / 10 * (10 * q)) x ≡ false → y % 10 < 5 → sized (y / 10) Above ≡ sized_over x (10 * q)
  unfolding sized_over
  cut-above e h = rw (near h, side-above x (10 * q) (y / 10) (less (y / 10 * (10 * q)) cut_low (eqb-false (y / 10 * (10 * q)) x e)))
    where
      less : (m : ℕ) → m ≤ x → (m ≡ x → ⊥) → m < x
      less m l n = go (ltb m x) refl
        where
          go : (t : Bool) → ltb m x ≡ t → m < x
          go true t = ltb-true m x t
          go false t = let g = ltb-false m x t in absurd (n (omega arith))

-- ---- what the loop that lowers keeps: y is x without its last k digits, and exact says that these are all 0

pub record Lowering (x y k : ℕ) (exact : Bool) : Type 0 where
  pub low : y * 10 ^ k ≤ x
  pub high : x < (y + 1) * 10 ^ k
  pub told : exact ≡ eqb (y * 10 ^ k) x

pub lower-start : (x : ℕ) → Lowering x x 0 true
lower-start x = record { low = omega arith; high = omega arith; told = sym (eq-eqb (x * 1) x (omega arith)) }

module _ {x y k : ℕ} {exact : Bool} (l : Lowering x y k exact) where
  tens : 10 ^ (k + 1) ≡ 10 * 10 ^ k
  tens = rw (add-one k) (pow-suc 10 k ∙ omega arith)

  pub lower-turn : Lowering x (y / 10) (k + 1) (exact && eqb (y % 10) 0)
  lower-turn =
      let t = ten-positive k in
      record {
        low = rw tens (cut_low x y (10 ^ k) t l.low l.high);
        high = rw tens (cut_high x y (10 ^ k) t l.low l.high);
        told = rw (tens, l.told) (cut-told x y (10 ^ k) t l.low l.high (eqb (y * 10 ^ k) x) refl (eqb (y % 10) 0) refl);
      }

  pub lower-small : y ≤ x
  lower-small = let h = l.low in let m = mul-le-mul_right y (ten-positive k) in omega arith

  -- where it ends, the last digit that is cut off decides
  told : exact && eqb (y % 10) 0 ≡ eqb (y / 10 * (10 * 10 ^ k)) x
  told = rw tens at lower-turn.told

  module _ {n : ℕ} (done : k ≡ n) where
    pub lower-up : 5 ≤ y % 10 → sized (y / 10 + 1) Below ≡ sized_over x (10 ^ (n + 1))
    lower-up h = rw (← done, tens) (cut_up x y (10 ^ k) (ten-positive k) l.low l.high h)

    pub lower-on : y % 10 < 5 → exact && eqb (y % 10) 0 ≡ true → sized (y / 10) On ≡ sized_over x (10 ^ (n + 1))
    lower-on h e = rw (← done, tens) (cut_on x y (10 ^ k) (ten-positive k) l.low l.high (sym told ∙ e) h)

    pub lower-above : y % 10 < 5 → exact && eqb (y % 10) 0 ≡ false → sized (y / 10) Above ≡ sized_over x (10 ^ (n + 1))
    lower-above h e = rw (← done, tens) (cut-above x y (10 ^ k) (ten-positive k) l.low l.high (sym told ∙ e) h)

-- ---- a power of ten over another

pub held_up : (x up down n : ℕ) → down ≤ up → n ≡ min beyond (x * 10 ^ (up - down)) → sized n On ≡ held_over (x * 10 ^ up) (10 ^ down)
unfolding held_over
held_up x up down n h e =
    let near = nearest-up x up down h in
    let u : up ≡ up - down + down = omega arith in
    let p : x * 10 ^ up ≡ x * 10 ^ (up - down) * 10 ^ down = ap (λ (m : ℕ). x * 10 ^ m) u ∙ tens-add x (up - down) down in
    rw (near, side-on (x * 10 ^ up) (10 ^ down) (x * 10 ^ (up - down)) p, e)

pub held_down : (x up down n : ℕ) (s : Stepped ℕ) → up < down → s ≡ sized_over x (10 ^ (down - up - 1 + 1)) → n ≡ min beyond s.count
    → sized n s.side ≡ held_over (x * 10 ^ up) (10 ^ down)
unfolding held_over sized_over
held_down x up down n s h e f =
    let near = nearest-down x up down h in
    let u : down ≡ down - up - 1 + 1 + up = omega arith in
    let p = ap (λ (m : ℕ). 10 ^ m) u ∙ pow-add 10 (down - up - 1 + 1) up in
    let m = 10 ^ (down - up - 1 + 1) in
    let side : s.side ≡ size_side (x * 10 ^ up) (10 ^ down) (nearest (x * 10 ^ up) (10 ^ down)) =
    rw e (side-scaled x m (nearest x m) (10 ^ up) (ten-positive up) ∙ rw (near, p)) in
    let size : n ≡ min beyond (nearest (x * 10 ^ up) (10 ^ down)) = f ∙ ap (min beyond) (ap (λ (r : Stepped ℕ). r.count) e ∙ near) in
    rw (size, side)
