-- Laws of lists by the place: what a test of all members, or an equation of two lists, says of one member, and a table of bytes
-- whose rows stand one after the other.
use mathlib.Core.Path.{◌≡◌, refl, sym, ◌∙◌, ap, ap₂}
use mathlib.Core.Bool.{Bool, true, false, false≢true}
use mathlib.Core.List.{List, [], ◌∷◌, map, append_assoc}
use Prim.Native.Nat.{ℕ, zero, suc, ◌+◌, ◌-◌, ◌≤◌, ◌<◌}
use native.Mathlib.Omega.{arith}
use lib.Dec.{eqb}
use lib.ListN.{length, get_or, take, drop, length-drop}
use lib.Seq.{take_all, drop-drop, paste}
use borrow.Rule.Slice.PartMut.{put_mid}
use borrow.Author.Tests.{eqb-true, eqb-false, eq-eqb}
use Rattle.registers.specs.Text.{Text, every, empty, same}
use Rattle.registers.proofs.Tests.{and_both, and-true}
pub use Rattle.registers.proofs.Tables.{table_at, cell_at, table-length}

pub is-empty : (t : Text) → empty t ≡ true → t ≡ []
is-empty [] q = refl
is-empty (x ∷ xs) q = absurd (false≢true q)

pub no_bytes : (t : Text) → length t ≡ 0 → t ≡ []
no_bytes [] e = refl
no_bytes (x ∷ xs) e = absurd (omega arith)

pub some_bytes : (t : Text) → (length t ≡ 0 → ⊥) → empty t ≡ false
some_bytes [] h = absurd (h refl)
some_bytes (x ∷ xs) h = refl

-- ---- the same bytes

pub same-eq : (x y : Text) → same x y ≡ true → x ≡ y
unfolding same
same-eq [] [] e = refl
same-eq [] (y ∷ ys) e = absurd (false≢true e)
same-eq (x ∷ xs) [] e = absurd (false≢true e)
same-eq (x ∷ xs) (y ∷ ys) e =
    let p = and_both (eqb x y) (same xs ys) e in
    ap₂ (λ (a : ℕ) (b : Text). a ∷ b) (eqb-true x y p.0) (same-eq xs ys p.1)

pub same_refl : (x y : Text) → x ≡ y → same x y ≡ true
unfolding same
same_refl x y e = rw e (go y)
  where
    go : (y : Text) → same y y ≡ true
    go [] = refl
    go (b ∷ bs) = and-true (eq-eqb b b refl) (go bs)

-- ---- places

-- a loop that goes on by one place
pub fewer : {k n : ℕ} → k < n → n - (k + 1) < n - k
fewer h = omega arith

-- what is lent of a text, from a place to its end
pub rest-is : (l : Text) (at : ℕ) → at ≤ length l → take (length l - at) (drop at l) ≡ drop at l
rest-is l at h = take_all (length l - at) (drop at l) (rw length-drop (omega arith))

-- what is lent of a list, from a place to another
pub part-is : (l : List ℕ) (from to : ℕ) → take (to - from) (drop from l) ≡ drop from (take to l)
part-is l zero to = let e : to - 0 ≡ to = omega arith in rw e
part-is l (suc from) zero = let e : 0 - suc from ≡ 0 = omega arith in rw e
part-is [] (suc from) (suc to) = take_all (suc to - suc from) [] (omega arith)
part-is (x ∷ l) (suc from) (suc to) = let e : suc to - suc from ≡ to - from = omega arith in rw e (part-is l from to)

-- ---- one member

pub every-at {ℓ} : {A : Type ℓ} (p : A → Bool) (l : List A) (k : ℕ) (d : A) → every p l ≡ true → k < length l → p (get_or l k d) ≡ true
every-at p [] k d e h = absurd (omega arith)
every-at p (x ∷ l) zero d e h = (and_both (p x) (every p l) e).0
every-at p (x ∷ l) (suc k) d e h = every-at p l k d (and_both (p x) (every p l) e).1 (omega arith)

-- what passes one test passes another
pub every_map : (p q : ℕ → Bool) → ((b : ℕ) → p b ≡ true → q b ≡ true) → (t : Text) → every p t ≡ true → every q t ≡ true
every_map p q f [] h = refl
every_map p q f (b ∷ bs) h = let e = and_both (p b) (every p bs) h in and-true (f b e.0) (every_map p q f bs e.1)

pub get_d_map {ℓ κ} : {A : Type ℓ} {B : Type κ} (f : A → B) (l : List A) (k : ℕ) (d : A) (e : B) → k < length l
    → get_or (map f l) k e ≡ f (get_or l k d)
get_d_map f [] k d e h = absurd (omega arith)
get_d_map f (x ∷ l) zero d e h = refl
get_d_map f (x ∷ l) (suc k) d e h = get_d_map f l k d e (omega arith)

-- two functions that agree all over a list agree at each member
pub map_at {ℓ κ} : {A : Type ℓ} {B : Type κ} (f g : A → B) (l : List A) → map f l ≡ map g l → (k : ℕ) (d : A) → k < length l
    → f (get_or l k d) ≡ g (get_or l k d)
map_at {B = B} f g l e k d h = sym (get_d_map f l k d (f d) h) ∙ ap (λ (m : List B). get_or m k (f d)) e ∙ get_d_map g l k d (f d) h

-- ---- two functions agree on the numbers below n, where their lists do
unfoldable pub listed : {A : Type 0} → ℕ → (ℕ → A) → List A
listed zero f = []
listed (suc n) f = f n ∷ listed n f

pub agree : {A : Type 0} (n : ℕ) (f g : ℕ → A) → listed n f ≡ listed n g → (i : ℕ) → i < n → f i ≡ g i
unfolding listed
agree zero f g e i h = absurd (omega arith)
agree (suc n) f g e i h = go (eqb i n) refl (agree n f g (cc) i)
  where
    go : (t : Bool) → eqb i n ≡ t → (i < n → f i ≡ g i) → f i ≡ g i
    go true q ih = rw (eqb-true i n q) cc
    go false q ih = ih (omega (arith, eqb-false i n q))

-- ---- a text laid over another at a place: the kit's copy over a part makes the kit's `paste` of the whole

pub pasted : (d : Text) (at : ℕ) (s : Text) (n : ℕ) (ys : Text) → ys ≡ take n s → put_mid at (at + n - at) d ys ≡ paste d at s n
pasted d at s n ys is =
    let k : at + n - at ≡ n = omega arith in
    rw (is, k, drop-drop n at d, append_assoc)
