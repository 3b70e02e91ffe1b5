-- Rounding over powers of ten, held at a bound: what raising keeps and leaves, and a power of ten over another.
use mathlib.Core.Path.{◌≡◌, ap, sym, ◌∙◌}
use Prim.Native.Nat.{ℕ, ◌+◌, ◌-◌, ◌*◌, ◌^◌, min, ◌≤◌, ◌<◌}
use native.Mathlib.Omega.{arith}
use native.Mathlib.Numerals.{add-one}
use native.Mathlib.Nat.{pow-suc, pow-le-pow_right, mul-div-mul_right, one-le-pow, mul-le-mul_right, mul_assoc}
use lib.Pow.{pow-add}
use Rattle.registers.specs.Rounding.{nearest}
use Rattle.registers.specs.RoundingParts.{beyond}
use Rattle.registers.proofs.rounding.Laws.{nearest-only}

pub ten-positive : (n : ℕ) → 0 < 10 ^ n
ten-positive n = one-le-pow n 10 (omega arith)

-- ---- raising

pub raise-turn : (x k : ℕ) → x * 10 ^ k * 10 ≡ x * 10 ^ (k + 1)
raise-turn x k = rw (add-one k, pow-suc 10 k) (omega arith)

-- once a size is beyond every limit, it stays there
pub raise-beyond : (x k n : ℕ) {y : ℕ} → y ≡ x * 10 ^ k → beyond ≤ y → k ≤ n → beyond ≡ min beyond (x * 10 ^ n)
raise-beyond x k n e b h = let p = pow-le-pow_right {n = 10} (omega arith) {i = k} {j = n} h in let m = mul-le-mul_right x p in omega arith

-- ---- a power of ten over another

pub tens-add : (x i j : ℕ) → x * 10 ^ (i + j) ≡ x * 10 ^ i * 10 ^ j
tens-add x i j = rw (pow-add 10 i j) (sym (mul_assoc x (10 ^ i) (10 ^ j)))

pub nearest-up : (x up down : ℕ) → down ≤ up → nearest (x * 10 ^ up) (10 ^ down) ≡ x * 10 ^ (up - down)
nearest-up x up down h =
    let e : up ≡ up - down + down = omega arith in
    let p : x * 10 ^ up ≡ x * 10 ^ (up - down) * 10 ^ down = ap (λ (n : ℕ). x * 10 ^ n) e ∙ tens-add x (up - down) down in
    let c = ten-positive down in
    rw p (nearest-only (record { low = omega arith; high = omega arith }))

pub nearest-down : (x up down : ℕ) → up < down → nearest x (10 ^ (down - up - 1 + 1)) ≡ nearest (x * 10 ^ up) (10 ^ down)
unfolding nearest
nearest-down x up down h =
    let e : down ≡ down - up - 1 + 1 + up = omega arith in
    let p = ap (λ (n : ℕ). 10 ^ n) e ∙ pow-add 10 (down - up - 1 + 1) up in
    let c = 10 ^ up in
    let m = 10 ^ (down - up - 1 + 1) in
    let num : 2 * (x * c) + m * c ≡ (2 * x + m) * c = omega arith in
    let den : 2 * (m * c) ≡ 2 * m * c = omega arith in
    rw (p, num, den, mul-div-mul_right {m = c} (2 * x + m) (2 * m) (ten-positive up))
