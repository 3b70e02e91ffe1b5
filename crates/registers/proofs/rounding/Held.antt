-- A rounded value held at a bound, with its sign in 64 bits: limits of 32 bits cannot tell it from the value itself.
use mathlib.Core.Path.{◌≡◌, refl, sym, ◌∙◌}
use mathlib.Core.Bool.{Bool, true, false, ◌&&◌, and-false}
use Prim.Native.Nat.{ℕ, zero, suc, ◌+◌, ◌*◌, ◌^◌, min, ◌≤◌}
use native.Mathlib.Omega.{arith}
use lib.Dec.{T, leb, eqb, leb→le}
use lib.IntN.{ℤ, pos, negsuc, ◌-ℤ◌}
use lib.Signed.{le_z}
use mir.Syntax.{w32, w64}
use mir.Val.{SFits, to_z, of_z}
use mir.Facts.{to_z_pos, to_z-of_z, and_yes}
use borrow.Author.Tests.{leb-true, leb-false, lt-leb, ne_eqb}
use Rattle.registers.specs.Check.{Checked, passed, ◌>>◌, check}
use Rattle.registers.specs.Rounding.{nearest, signed, size_in, rounded, fitted, turned, side_in, exactly, wholly, Stands, RoundedIn}
use Rattle.registers.specs.RoundingParts.{beyond, held_over, held_in}
use Rattle.registers.specs.declared.number.Decimal.{Decimal}
use Rattle.std.specs.Prelude.{Option, Some, None}
use Rattle.registers.specs.declared.rounding.Rounded.{Rounded}
use Rattle.registers.specs.declared.rounding.Side.{Side}
use Rattle.registers.specs.declared.rounding.Stepped.{Stepped}
use Rattle.registers.proofs.answer.Signs.{minus_is, widened}
use Rattle.registers.proofs.rounding.Tens.{tens-add}
use Rattle.registers.proofs.rounding.Exact.{tells}

-- ---- a size with its sign

pub signed-fits : (m : Bool) (n : ℕ) → n ≤ beyond → SFits w64 (signed m n)
signed-fits true zero h = record { sfits = omega arith }
signed-fits true (suc n) h = record { sfits = omega arith }
signed-fits false n h = record { sfits = omega arith }

pub held_fits : (k : ℕ) (d : Decimal) → SFits w64 (held_in k d).count
unfolding held_in
held_fits k d = signed-fits d.minus (min beyond (size_in k d)) (omega arith)

abbrev pub stepped : ℤ → Side → Stepped ℤ
stepped z x = record { count = z; side = x }

-- a size that is held, r, becomes the value
module _ (tens : ℕ) (d : Decimal) {up : ℕ} (e : up ≡ d.up + tens) (r : Stepped ℕ) (is : r ≡ held_over (d.digits * 10 ^ up) (10 ^ d.down)) where
  low : r.count ≤ beyond
  unfolding held_over
  low = rw is (omega arith)

  minus_bits : pos 0 -ℤ to_z w64 r.count ≡ signed true r.count
  minus_bits = let l = low in rw (to_z_pos w64 {n = r.count} (omega arith)) (minus_is (pos r.count))

  pub size_fits : SFits w64 (pos r.count)
  size_fits = signed-fits false r.count low

  pub minus_fits : SFits w64 (pos 0 -ℤ to_z w64 r.count)
  minus_fits = rw minus_bits (signed-fits true r.count low)

  pub held-minus : d.minus ≡ true → {x : Side} → x ≡ turned true r.side
      → stepped (to_z w64 (of_z w64 (pos 0 -ℤ to_z w64 r.count))) x ≡ held_in (10 ^ tens) d
  unfolding held_in held_over size_in side_in
  held-minus m s =
      rw (minus_bits, to_z-of_z {w = w64} {z = signed true r.count} (signed-fits true r.count low), s)
      (rw (is, e, tens-add d.digits d.up tens, m))

  pub held-plus : d.minus ≡ false → stepped (to_z w64 r.count) r.side ≡ held_in (10 ^ tens) d
  unfolding held_in held_over size_in side_in
  held-plus m = let l = low in rw (to_z_pos w64 {n = r.count} (omega arith)) (rw (is, e, tens-add d.digits d.up tens, m))

-- ---- limits of 32 bits

abbrev pub inside : ℤ → ℤ → ℤ → Bool
inside low high z = le_z low z && le_z z high

-- what is inside has 32 bits
pub inside-fits : (low high z : ℤ) → SFits w32 low → SFits w32 high → T (inside low high z) → SFits w32 z
inside-fits low (pos b) (pos n) l h t =
    let k = leb→le n b (and_yes (le_z low (pos n)) (leb n b) t).1 in
    record { sfits = omega arith }
inside-fits low (negsuc b) (pos n) l h t = absurd (and_yes (le_z low (pos n)) false t).1
inside-fits (pos a) high (negsuc n) l h t = absurd t
inside-fits (negsuc a) high (negsuc n) l h t =
    let k = leb→le n a (and_yes (leb n a) (le_z (negsuc n) high) t).0 in
    record { sfits = omega arith }

-- a size of `beyond` or more is outside
far : (low high : ℤ) → SFits w32 low → SFits w32 high → (m : Bool) (n : ℕ) → beyond ≤ n
    → inside low high (signed m n) ≡ false
far low (pos b) l h false n k = rw (lt-leb n b (omega arith)) (and-false (le_z low (pos n)))
far low (negsuc b) l h false n k = and-false (le_z low (pos n))
far low high l h true zero k = absurd (omega arith)
far (pos a) high l h true (suc n) k = refl
far (negsuc a) high l h true (suc n) k = rw (lt-leb n a (omega arith))

abbrev outcome : Option ℤ → Side → Rounded
outcome f x = record { fit = f; side = x }

-- so a held value is within such limits exactly where the value itself is, and is then that value
module _ (k : ℕ) (d : Decimal) (low high : ℤ) (l : SFits w32 low) (h : SFits w32 high) (r : Stepped ℤ) (is : r ≡ held_in k d) where
  chosen : ℤ → Checked ℤ
  chosen z = check 222 (inside low high z) >> passed z

  fitted-held : fitted k low high d ≡ chosen r.count
  unfolding fitted rounded held_in chosen check ◌>>◌
  fitted-held = rw is (go (size_in k d) (leb (size_in k d) beyond) refl)
    where
      go : (n : ℕ) (b : Bool) → leb n beyond ≡ b → chosen (signed d.minus n) ≡ chosen (signed d.minus (min beyond n))
      go n true q = let e = leb-true n beyond q in let z : min beyond n ≡ n = omega arith in rw z
      go n false q =
          let e = leb-false n beyond q in
          let z : min beyond n ≡ beyond = omega arith in
          rw (z, far low high l h d.minus n (omega arith), far low high l h d.minus beyond (omega arith))

  -- and its side is the value's
  side-held : Stands r.side (exactly k d) (wholly (rounded k d) d)
  unfolding held_in
  side-held = rw is (tells k d).stands

  abbrev back : ℤ → ℤ
  back z = to_z w64 (of_z w64 z)

  same : back r.count ≡ r.count
  same = to_z-of_z {w = w64} {z = r.count} (rw is (held_fits k d))

  -- what the code compares: the limits widened to 64 bits
  module _ {a b : ℤ} (p : a ≡ to_z w32 (of_z w32 low)) (q : b ≡ to_z w32 (of_z w32 high)) where
    tested : inside (back a) (back b) (back r.count) ≡ inside low high r.count
    tested = rw (p, q, widened l, widened h, same)

    pub fit-yes : inside (back a) (back b) (back r.count) ≡ true
        → RoundedIn k low high d (outcome (Some (to_z w32 (of_z w32 (back r.count)))) r.side)
    unfolding chosen check ◌>>◌
    fit-yes e =
        let in_limits = sym tested ∙ e in
        let fits = inside-fits low high r.count l h (rw in_limits tt) in
        rw (same, to_z-of_z {w = w32} fits) (record { fit = rw (fitted-held, in_limits); side = side-held })

    pub fit-no : inside (back a) (back b) (back r.count) ≡ false → RoundedIn k low high d (outcome None r.side)
    unfolding chosen check ◌>>◌
    fit-no e = record { fit = rw (fitted-held, sym tested ∙ e); side = side-held }

-- a size is held at zero exactly where it is zero: for a bool
pub held-zero : (d : Decimal) (r : Stepped ℕ) → r ≡ held_over (d.digits * 10 ^ d.up) (10 ^ d.down) → eqb r.count 0 ≡ eqb (size_in 1 d) 0
unfolding size_in held_over
held-zero d r e =
    let one : d.digits * 10 ^ d.up * 1 ≡ d.digits * 10 ^ d.up = omega arith in
    rw (e, one) (go (nearest (d.digits * 10 ^ d.up) (10 ^ d.down)))
  where
    go : (m : ℕ) → eqb (min beyond m) 0 ≡ eqb m 0
    go zero = refl
    go (suc m) = ne_eqb (min beyond (suc m)) 0 (λ q. omega arith) ∙ sym (ne_eqb (suc m) 0 (λ q. omega arith))
