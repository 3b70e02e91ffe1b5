-- A saved setup: what is saved is recalled, an altered byte is noticed, and the other blocks stay.
use mathlib.Core.Path.{◌≡◌, refl, sym, ◌∙◌, ap, ap₂}
use mathlib.Core.Bool.{Bool, true, false, not, ◌&&◌, false≢true}
use mathlib.Core.List.{List, [], ◌∷◌, ◌++◌, append_assoc, append-nil}
use Prim.Native.Nat.{ℕ, zero, suc, ◌+◌, ◌-◌, ◌*◌, ◌/◌, ◌%◌, ◌≤◌, ◌<◌, zero-le}
use native.Mathlib.Nat.{add_right_cancel, add_left_cancel, eq_of_mul-eq-mul_left, zero-lt-suc, mul-le-mul}
use native.Mathlib.Omega.{arith}
use lib.Dec.{eqb, ltb, leb}
use lib.ListN.{length, take, drop, set, get_or, replicate, length-drop, length-take, length-append, length-replicate}
use lib.Seq.{take-set-lt, take-set-le, drop-set-lt, drop-set-add, get_or-take, get_or-drop, take_at, drop_at, take_all, take-suc, length-take-le, drop-drop, get_or-append-add}
use lib.IntN.{ℤ, pos, negsuc}
use lib.Signed.{le_z}
use borrow.Author.Tests.{eqb-true, eqb-false, eq-eqb, ltb-true, ltb-false, le-leb, lt-leb, leb-true}
use Rattle.registers.specs.Text.{Text, if◌then◌otherwise◌, every, below, between}
use Rattle.registers.specs.Label.{most_text, may_stand, forbidden, padded, held_in, possible_text}
use Rattle.registers.specs.Settings.{table, slots, table_count, setting_at, count, kind_of, highest_of, twelve_volts, narrow, at_reset, value_at, displayed, AsLong, within, lowest, highest, possible_values, possible_settings}
use Rattle.registers.specs.Setup.{block_size, checked_size, weighted, low_first, in_bytes, checks, shifted, unshifted, value_in, values_in, saved_text, read_in, mark_byte, mark_size, marked, settings_in, bytes_of, unused, body, contents, block_of, recallable, block_at, saved_at, said_in}
use Rattle.registers.specs.declared.settings.Settings.{Settings}
use Rattle.registers.proofs.Tests.{and_both, and-true, and-fails, below_at}
use Rattle.registers.proofs.settings.Possible.{good-from, text-from}
use Rattle.registers.proofs.label.Record.{padded-length}

-- ---- "Any single altered byte in a block is noticed"

-- another byte at a place makes another sum, and another number
weigh-set : (k : ℕ) (l : Text) (i x : ℕ) → i < length l → weighted (suc k) (set l i x) ≡ weighted (suc k) l → x ≡ get_or l i 0
unfolding weighted
weigh-set k [] i x h e = absurd (omega arith)
weigh-set k (b ∷ l) zero x h e = eq_of_mul-eq-mul_left (suc k) (zero-lt-suc k) x b (add_right_cancel (weighted (suc (suc k)) l) e)
weigh-set k (b ∷ l) (suc i) x h e = weigh-set (suc k) l i x (omega arith) (add_left_cancel (suc k * b) e)

number-set : (l : Text) (i x : ℕ) → i < length l → low_first (set l i x) ≡ low_first l → x ≡ get_or l i 0
unfolding low_first
number-set [] i x h e = absurd (omega arith)
number-set (b ∷ l) zero x h e = omega (arith, e)
number-set (b ∷ l) (suc i) x h e = number-set l i x (omega arith) (omega (arith, e))

module _ (b : Text) (i x : ℕ) (h : i < block_size) (other : x ≡ get_or b i 0 → ⊥) (good : checks b ≡ true) where
  long : length b ≡ block_size
  unfolding checks
  long = eqb-true (length b) block_size (and_both (eqb (length b) block_size) _ good).0

  sum_is : weighted 1 (take checked_size b) ≡ low_first (drop checked_size b)
  unfolding checks
  sum_is = eqb-true _ _ (and_both (eqb (length b) block_size) _ good).1

  altered-is : checks (set b i x) ≡ true → weighted 1 (take checked_size (set b i x)) ≡ low_first (drop checked_size (set b i x))
  unfolding checks
  altered-is e = eqb-true _ _ (and_both (eqb (length (set b i x)) block_size) _ e).1

  differs : checks (set b i x) ≡ true → ⊥
  differs e = go (ltb i checked_size) refl
    where
      go : (t : Bool) → ltb i checked_size ≡ t → ⊥
      go true q =
          let k = ltb-true i checked_size q in
          let l = long in
          let n : length (take checked_size b) ≡ checked_size = rw length-take (omega arith) in
          let s : weighted 1 (set (take checked_size b) i x) ≡ weighted 1 (take checked_size b) =
          ap (weighted 1) (sym (take-set-lt checked_size b i x k)) ∙ altered-is e ∙ ap low_first (drop-set-lt checked_size b i x k) ∙ sym sum_is in
          other (weigh-set 0 (take checked_size b) i x (omega arith) s ∙ get_or-take checked_size b i 0 k)
      go false q =
          let k = ltb-false i checked_size q in
          let l = long in
          let j = i - checked_size in
          let p : checked_size + j ≡ i = omega arith in
          let d : drop checked_size (set b i x) ≡ set (drop checked_size b) j x =
          ap (λ (m : ℕ). drop checked_size (set b m x)) (sym p) ∙ drop-set-add checked_size b j x in
          let n : length (drop checked_size b) ≡ 4 = rw length-drop (omega arith) in
          let s : low_first (set (drop checked_size b) j x) ≡ low_first (drop checked_size b) =
          ap low_first (sym d) ∙ sym (altered-is e) ∙ ap (weighted 1) (take-set-le checked_size b i x k) ∙ sum_is in
          other (number-set (drop checked_size b) j x (omega arith) s ∙ get_or-drop checked_size b j 0 ∙ ap (λ (m : ℕ). get_or b m 0) p)

  pub noticed : checks (set b i x) ≡ false
  noticed = go (checks (set b i x)) refl
    where
      go : (t : Bool) → checks (set b i x) ≡ t → checks (set b i x) ≡ false
      go true q = absurd (differs q)
      go false q = q

  -- so *RCL doesn't take it
  pub not-recalled : recallable (set b i x) ≡ false
  unfolding recallable
  not-recalled = rw noticed

-- nor does it take a block that is all zero
pub zeros-not-recalled : recallable (replicate block_size 0) ≡ false
unfolding recallable checks weighted low_first marked settings_in read_in values_in value_in unshifted possible_settings possible_values within lowest highest narrow setting_at slots table if◌then◌otherwise◌
zeros-not-recalled = refl

-- ---- lengths

pub bytes-long : (s : Settings) (i : ℕ) → length (bytes_of s i) ≡ 2 * i
unfolding bytes_of in_bytes
bytes-long s zero = refl
bytes-long s (suc i) = let ih = bytes-long s i in simp length-append (omega arith)

pub body-long : (s : Settings) → length (body s) ≡ 506
unfolding body
body-long s =
    length-append (bytes_of s count) (padded most_text s.text ++ replicate unused 0)
    ∙ ap₂ ◌+◌ (bytes-long s count) (length-append (padded most_text s.text) (replicate unused 0) ∙ ap₂ ◌+◌ (padded-length most_text s.text) (length-replicate {A = ℕ} unused 0))

pub contents-long : (s : Settings) → length (contents s) ≡ checked_size
unfolding contents
contents-long s = let n = body-long s in omega arith

pub block-long : (s : Settings) → length (block_of s) ≡ block_size
unfolding block_of in_bytes
block-long s = let n = contents-long s in rw length-append (omega arith)

-- ---- the sum of a block's bytes fits its four bytes

abbrev byte_sized : ℕ → Bool
byte_sized x = leb x 255

every_append : (xs ys : Text) → every byte_sized xs ≡ true → every byte_sized ys ≡ true → every byte_sized (xs ++ ys) ≡ true
every_append [] ys p q = q
every_append (x ∷ xs) ys p q = let a = and_both (byte_sized x) (every byte_sized xs) p in and-true a.0 (every_append xs ys a.1 q)

zeros-sized : (n : ℕ) → every byte_sized (replicate n 0) ≡ true
zeros-sized zero = refl
zeros-sized (suc n) = zeros-sized n

two_sized : (n : ℕ) → every byte_sized (in_bytes 2 n) ≡ true
unfolding in_bytes
two_sized n = and-true (le-leb (n % 256) 255 (omega arith)) (and-true (le-leb (n / 256 % 256) 255 (omega arith)) refl)

bytes-sized : (s : Settings) (i : ℕ) → every byte_sized (bytes_of s i) ≡ true
unfolding bytes_of
bytes-sized s zero = refl
bytes-sized s (suc i) = every_append (bytes_of s i) _ (bytes-sized s i) (two_sized (shifted (value_at s i)))

stands-sized : (b : ℕ) → may_stand b ≡ true → byte_sized b ≡ true
unfolding may_stand
stands-sized b e =
    let s = (and_both (between 32 126 b) (not (forbidden b)) e).0 in
    let h = leb-true b 126 (and_both (leb 32 b) (leb b 126) s).1 in
    le-leb b 255 (omega arith)

nothing-sized : (t : Text) → every (λ x. eqb x 0) t ≡ true → every byte_sized t ≡ true
nothing-sized [] e = refl
nothing-sized (b ∷ t) e =
    let p = and_both (eqb b 0) (every (λ x. eqb x 0) t) e in
    let z = eqb-true b 0 p.0 in
    and-true (le-leb b 255 (omega arith)) (nothing-sized t p.1)

text-sized : (t : Text) → possible_text t ≡ true → every byte_sized t ≡ true
unfolding possible_text if◌then◌otherwise◌
text-sized [] e = refl
text-sized (b ∷ t) e = go (eqb b 0) refl e (λ k. text-sized t k)
  where
    go : (z : Bool) → eqb b 0 ≡ z → (if z then every (λ x. eqb x 0) t otherwise may_stand b && possible_text t) ≡ true
        → (possible_text t ≡ true → every byte_sized t ≡ true) → every byte_sized (b ∷ t) ≡ true
    go true q k more = let z = eqb-true b 0 q in and-true (le-leb b 255 (omega arith)) (nothing-sized t k)
    go false q k more = let p = and_both (may_stand b) (possible_text t) k in and-true (stands-sized b p.0) (more p.1)

padded-sized : (n : ℕ) (t : Text) → every byte_sized t ≡ true → every byte_sized (padded n t) ≡ true
unfolding padded
padded-sized zero t e = refl
padded-sized (suc n) [] e = padded-sized n [] refl
padded-sized (suc n) (b ∷ t) e = let p = and_both (byte_sized b) (every byte_sized t) e in and-true p.0 (padded-sized n t p.1)

contents-sized : (s : Settings) → possible_text s.text ≡ true → every byte_sized (contents s) ≡ true
unfolding contents body
contents-sized s p =
    every_append (bytes_of s count) _ (bytes-sized s count)
    (every_append (padded most_text s.text) _ (padded-sized most_text s.text (text-sized s.text p)) (zeros-sized unused))

-- the term of a place
pub term : (k b : ℕ) → k ≤ checked_size → b ≤ 255 → k * b ≤ 129540
term k b h g = mul-le-mul {n₁ = k} {m₁ = b} {n₂ = 508} {m₂ = 255} h g

weigh-most : (k : ℕ) (l : Text) → k + length l ≤ 509 → every byte_sized l ≡ true → weighted k l ≤ 129540 * length l
unfolding weighted
weigh-most k [] h s = zero-le
weigh-most k (b ∷ l) h s =
    let a = and_both (byte_sized b) (every byte_sized l) s in
    let t = term k b (omega arith) (leb-true b 255 a.0) in
    let more = weigh-most (suc k) l (omega arith) a.1 in
    omega (arith, t, more)

-- a number in bytes that hold it is that number
four-back : (n : ℕ) → n < 4294967296 → low_first (in_bytes 4 n) ≡ n
unfolding low_first in_bytes
four-back n h = omega arith

pub block-checks : (s : Settings) → possible_text s.text ≡ true → checks (block_of s) ≡ true
unfolding checks block_of
block-checks s p =
    let n = contents-long s in
    let few = weigh-most 1 (contents s) (omega arith) (contents-sized s p) in
    rw (eq-eqb (length (block_of s)) block_size (block-long s), take_at (contents s) (in_bytes 4 (weighted 1 (contents s))) checked_size n, drop_at (contents s) (in_bytes 4 (weighted 1 (contents s))) checked_size n, four-back (weighted 1 (contents s)) (omega arith))
    (eq-eqb (weighted 1 (contents s)) (weighted 1 (contents s)) refl)

-- ---- what is saved is recalled

-- the two bytes of a row
row-bytes : (s : Settings) (n i : ℕ) → i < n → (rest : Text)
    → (get_or (bytes_of s n ++ rest) (2 * i) 0 ≡ shifted (value_at s i) % 256) × (get_or (bytes_of s n ++ rest) (2 * i + 1) 0 ≡ shifted (value_at s i) / 256 % 256)
unfolding bytes_of in_bytes
row-bytes s zero i h rest = absurd (omega arith)
row-bytes s (suc n) i h rest = go (eqb i n) refl (λ k l. row-bytes s n i k l)
  where
    two : Text
    two = shifted (value_at s n) % 256 ∷ shifted (value_at s n) / 256 % 256 ∷ []

    whole : bytes_of s (suc n) ++ rest ≡ bytes_of s n ++ (two ++ rest)
    whole = append_assoc (bytes_of s n) two rest

    go : (t : Bool) → eqb i n ≡ t
        → (i < n → (l : Text) → (get_or (bytes_of s n ++ l) (2 * i) 0 ≡ shifted (value_at s i) % 256) × (get_or (bytes_of s n ++ l) (2 * i + 1) 0 ≡ shifted (value_at s i) / 256 % 256))
        → (get_or (bytes_of s (suc n) ++ rest) (2 * i) 0 ≡ shifted (value_at s i) % 256)
        × (get_or (bytes_of s (suc n) ++ rest) (2 * i + 1) 0 ≡ shifted (value_at s i) / 256 % 256)
    go true q more =
        let e = eqb-true i n q in
        let l = bytes-long s n in
        let a : 2 * i ≡ length (bytes_of s n) + 0 = omega arith in
        let b : 2 * i + 1 ≡ length (bytes_of s n) + 1 = omega arith in
        (rw (whole, a, get_or-append-add (bytes_of s n) (two ++ rest) 0 0, e), rw (whole, b, get_or-append-add (bytes_of s n) (two ++ rest) 1 0, e))
    go false q more = let k = eqb-false i n q in rw whole (more (omega (arith, k)) (two ++ rest))

-- a value that two bytes hold
pub record Held (v : ℤ) : Type 0 where
  pub low : le_z (negsuc 255) v ≡ true
  pub high : le_z v (pos 65279) ≡ true

shift_back : (v : ℤ) → Held v → (shifted v < 65536) × (unshifted (shifted v) ≡ v)
unfolding shifted unshifted if◌then◌otherwise◌
shift_back (pos n) h =
    let k = leb-true n 65279 h.high in
    (omega arith, rw (le-leb 256 (n + 256) (omega arith)) (ap pos (omega arith)))
shift_back (negsuc n) h =
    let k = leb-true n 255 h.low in
    let m : 256 - (256 - suc n) ≡ suc n = omega arith in
    (omega arith, rw (lt-leb 256 (256 - suc n) (omega arith), m))

two_back : (n : ℕ) → n < 65536 → n % 256 + 256 * (n / 256 % 256) ≡ n
two_back n h = omega arith

module _ (s : Settings) (i : ℕ) (h : i < count) (held : Held (value_at s i)) where
  pub value-back : value_in (drop mark_size (block_of s)) i ≡ value_at s i
  unfolding value_in block_of contents body
  value-back =
      let behind : Text = padded most_text s.text ++ replicate unused 0 in
      let rest = behind ++ in_bytes 4 (weighted 1 (contents s)) in
      let whole : drop mark_size (block_of s) ≡ bytes_of s count ++ rest = append_assoc (bytes_of s count) behind (in_bytes 4 (weighted 1 (contents s))) in
      let two = row-bytes s count i h rest in
      let back = shift_back (value_at s i) held in
      ap₂ (λ (x y : ℕ). unshifted (x + 256 * y)) (ap (λ (b : Text). get_or b (2 * i) 0) whole ∙ two.0) (ap (λ (b : Text). get_or b (2 * i + 1) 0) whole ∙ two.1)
      ∙ ap unshifted (two_back (shifted (value_at s i)) back.0) ∙ back.1

-- the limits of every row are held
limits-held : below count (λ i. le_z (negsuc 255) (lowest i) && le_z (highest_of (kind_of i)) (pos 65279)) ≡ true
unfolding lowest setting_at slots table
limits-held = refl

le_z-trans : (x y z : ℤ) → le_z x y ≡ true → le_z y z ≡ true → le_z x z ≡ true
le_z-trans (pos a) (pos b) (pos c) p q = let h = leb-true a b p in let k = leb-true b c q in le-leb a c (omega arith)
le_z-trans (pos a) (pos b) (negsuc c) p q = q
le_z-trans (pos a) (negsuc b) z p q = absurd (false≢true p)
le_z-trans (negsuc a) (pos b) (pos c) p q = refl
le_z-trans (negsuc a) (pos b) (negsuc c) p q = absurd (false≢true q)
le_z-trans (negsuc a) (negsuc b) (pos c) p q = refl
le_z-trans (negsuc a) (negsuc b) (negsuc c) p q = let h = leb-true b a p in let k = leb-true c b q in le-leb c a (omega arith)

highest-held : (s : Settings) (i : ℕ) → le_z (highest_of (kind_of i)) (pos 65279) ≡ true → le_z (highest s i) (pos 65279) ≡ true
unfolding highest if◌then◌otherwise◌
highest-held s i e = go (narrow s i)
  where
    go : (t : Bool) → le_z (if t then twelve_volts otherwise highest_of (kind_of i)) (pos 65279) ≡ true
    go true = refl
    go false = e

good-held : (s : Settings) → possible_settings s ≡ true → (i : ℕ) → i < count → Held (value_at s i)
unfolding within
good-held s p i h =
    let limits = and_both _ _ (below_at count (λ j. le_z (negsuc 255) (lowest j) && le_z (highest_of (kind_of j)) (pos 65279)) limits-held i h) in
    let inside = and_both _ _ (good-from s p i h) in
    record {
      low = le_z-trans (negsuc 255) (lowest i) (value_at s i) limits.0 inside.0;
      high = le_z-trans (value_at s i) (highest s i) (pos 65279) inside.1 (highest-held s i limits.1);
    }

values-back : (s : Settings) → length s.values ≡ count → ((i : ℕ) → i < count → Held (value_at s i)) → (n : ℕ) → n ≤ count
    → values_in (drop mark_size (block_of s)) n ≡ take n s.values
unfolding values_in
values-back s long held zero h = refl
values-back s long held (suc n) h =
    rw (values-back s long held n (omega arith), value-back s n (omega arith) (held n (omega arith)))
    (sym (take-suc s.values n (pos 0) (omega arith)))

pub padded-whole : (t : Text) → padded (length t) t ≡ t
unfolding padded
padded-whole [] = refl
padded-whole (b ∷ t) = ap (λ (l : Text). b ∷ l) (padded-whole t)

-- the text of the record, as it is
pub text-back : (s : Settings) → length s.text ≡ most_text → saved_text count (drop mark_size (block_of s)) ≡ s.text
unfolding saved_text block_of contents body
text-back s long =
    let zeros = replicate {A = ℕ} unused 0 in
    let sum = in_bytes 4 (weighted 1 (contents s)) in
    let text = padded most_text s.text in
    let n = bytes-long s count in
    let behind : drop (2 * count) (drop mark_size (block_of s)) ≡ text ++ (zeros ++ sum) =
    ap (drop (2 * count)) (append_assoc (bytes_of s count) (text ++ zeros) sum) ∙ drop_at (bytes_of s count) ((text ++ zeros) ++ sum) (2 * count) (omega arith) ∙ append_assoc text zeros sum in
    let whole : text ≡ s.text = ap (λ (k : ℕ). padded k s.text) (sym long) ∙ padded-whole s.text in
    ap (take most_text) behind ∙ take_at text (zeros ++ sum) most_text (padded-length most_text s.text) ∙ whole

-- no slot comes after the last
after_last : (l : List ℤ) → l ++ drop count at_reset.values ≡ l
unfolding at_reset slots table
after_last l = append-nil l

-- what *SAV writes has the mark
pub block-marked : (s : Settings) → marked (block_of s) ≡ true
unfolding marked block_of contents
block-marked s = refl

said-of-both : (b : Text) → marked b ≡ true → settings_in b ≡ record { values = values_in (drop mark_size b) count ++ drop count at_reset.values; text = saved_text count (drop mark_size b) }
unfolding settings_in read_in if◌then◌otherwise◌
said-of-both b e = rw e

pub saved-back : (s : Settings) → AsLong s → possible_settings s ≡ true → (recallable (block_of s) ≡ true) × (settings_in (block_of s) ≡ s)
unfolding recallable
saved-back s long p =
    let n = long.values in
    let values = after_last (values_in (drop mark_size (block_of s)) count) ∙ values-back s n (good-held s p) count (omega arith) ∙ take_all count s.values (omega arith) in
    let same : settings_in (block_of s) ≡ s = said-of-both (block_of s) (block-marked s) ∙ ap₂ (λ (l : List ℤ) (t : Text). record { values = l; text = t }) values (text-back s long.text) in
    (and-true (block-checks s (text-from s p)) (ap possible_settings same ∙ p), same)

-- ---- blocks that were saved before there were two channels

-- OUTPut's value, which they have first, is within its limits
first-low : (b : Text) → possible_settings (read_in table_count b) ≡ true → le_z (unshifted (get_or b 0 0 + 256 * get_or b 1 0)) (pos 1) ≡ true
unfolding within highest narrow setting_at slots table read_in values_in value_in if◌then◌otherwise◌
first-low b p =
    let v = unshifted (get_or b 0 0 + 256 * get_or b 1 0) in
    (and_both (le_z (lowest 0) v) (le_z v (pos 1)) (good-from (read_in table_count b) p 0 (omega arith))).1

too-high : (x y : ℕ) → y ≡ mark_byte → le_z (unshifted (x + 256 * y)) (pos 1) ≡ true → ⊥
unfolding unshifted if◌then◌otherwise◌
too-high x y e t =
    let h : leb (x + 256 * y - 256) 1 ≡ true = rw (le-leb 256 (x + 256 * y) (omega arith)) at t in
    let k = leb-true (x + 256 * y - 256) 1 h in
    omega (arith, k)

-- none of them has the mark
pub older-unmarked : (b : Text) → possible_settings (read_in table_count b) ≡ true → marked b ≡ false
unfolding marked
older-unmarked b p = and-fails (eqb (get_or b 0 0) mark_byte) (eqb (get_or b 1 0) mark_byte) (go (eqb (get_or b 1 0) mark_byte) refl)
  where
    go : (t : Bool) → eqb (get_or b 1 0) mark_byte ≡ t → t ≡ false
    go false q = refl
    go true q = absurd (too-high (get_or b 0 0) (get_or b 1 0) (eqb-true (get_or b 1 0) mark_byte q) (first-low b p))

-- so they mean what they meant, with channel 2 as at *RST
pub unmarked-means : (b : Text) → marked b ≡ false → settings_in b ≡ read_in table_count b
unfolding settings_in if◌then◌otherwise◌
unmarked-means b e = rw e

pub older-means : (b : Text) → possible_settings (read_in table_count b) ≡ true → settings_in b ≡ read_in table_count b
older-means b p = unmarked-means b (older-unmarked b p)

-- and one that was saved before there was a text has an empty one
pub older-empty : (b : Text) → marked b ≡ false → saved_text table_count b ≡ replicate most_text 0 → displayed (settings_in b) ≡ []
unfolding read_in if◌then◌otherwise◌
older-empty b m e = ap displayed (unmarked-means b m) ∙ ap held_in e

-- ---- "*SAV touches only its own block"

module _ (p : ℕ) (s : Settings) (t : Text) (h : block_size * p + block_size ≤ length t) where
  front_long : length (take (block_size * p) t) ≡ block_size * p
  front_long = length-take-le (block_size * p) t (omega arith)

  abbrev new : Text
  new = block_of s ++ drop (block_size * p + block_size) t

  pub saved-long : length (saved_at p s t) ≡ length t
  unfolding saved_at
  saved-long =
      let a = front_long in
      let b = block-long s in
      let c = length-drop (block_size * p + block_size) t in
      rw (length-append, length-append) (omega arith)

  pub saved-here : block_at p (saved_at p s t) ≡ block_of s
  unfolding block_at saved_at
  saved-here = rw (drop_at (take (block_size * p) t) new (block_size * p) front_long) (take_at (block_of s) (drop (block_size * p + block_size) t) block_size (block-long s))

  pub saved-before : (j : ℕ) → j < block_size * p → get_or (saved_at p s t) j 0 ≡ get_or t j 0
  unfolding saved_at
  saved-before j k =
      sym (get_or-take (block_size * p) (take (block_size * p) t ++ new) j 0 k)
      ∙ ap (λ (l : Text). get_or l j 0) (take_at (take (block_size * p) t) new (block_size * p) front_long)
      ∙ get_or-take (block_size * p) t j 0 k

  rest : drop (block_size * p + block_size) (saved_at p s t) ≡ drop (block_size * p + block_size) t
  unfolding saved_at
  rest =
      sym (drop-drop block_size (block_size * p) (take (block_size * p) t ++ new))
      ∙ ap (drop block_size) (drop_at (take (block_size * p) t) new (block_size * p) front_long)
      ∙ drop_at (block_of s) (drop (block_size * p + block_size) t) block_size (block-long s)

  pub saved_after : (j : ℕ) → block_size * p + block_size ≤ j → get_or (saved_at p s t) j 0 ≡ get_or t j 0
  saved_after j k =
      let n = block_size * p + block_size in
      let e : n + (j - n) ≡ j = omega arith in
      ap (λ (i : ℕ). get_or (saved_at p s t) i 0) (sym e) ∙ sym (get_or-drop n (saved_at p s t) (j - n) 0)
      ∙ ap (λ (l : Text). get_or l (j - n) 0) rest ∙ get_or-drop n t (j - n) 0 ∙ ap (λ (i : ℕ). get_or t i 0) e

-- ---- a block has as many values as there are settings

values-long : (b : Text) (n : ℕ) → length (values_in b n) ≡ n
unfolding values_in
values-long b zero = refl
values-long b (suc n) = let ih = values-long b n in rw length-append (omega arith)

pub reset-long : length at_reset.values ≡ count
unfolding at_reset slots table
reset-long = refl

read-long : (n : ℕ) (b : Text) → n ≤ count → 2 * n + most_text ≤ length b → AsLong (read_in n b)
unfolding read_in saved_text
read-long n b h k =
    let v = values-long b n in
    let r = reset-long in
    let d = length-drop n at_reset.values in
    record { values = rw length-append (omega (arith, v, r, d)); text = rw (length-take, length-drop) (omega arith) }

pub recalled-long : (b : Text) → recallable b ≡ true → AsLong (settings_in b)
unfolding settings_in recallable checks if◌then◌otherwise◌
recalled-long b e =
    let l = eqb-true (length b) block_size (and_both (eqb (length b) block_size) _ (and_both (checks b) _ e).0).0 in
    go (marked b) l
  where
    go : (t : Bool) → length b ≡ block_size → AsLong (if t then read_in count (drop mark_size b) otherwise read_in table_count b)
    go true l = read-long count (drop mark_size b) (omega arith) (rw length-drop (omega arith))
    go false l = read-long table_count b (omega arith) (omega arith)

-- a block that *RCL takes is read as its settings
pub said-recalled : (b : Text) → recallable b ≡ true → said_in b ≡ settings_in b
unfolding recallable said_in if◌then◌otherwise◌
said-recalled b e = rw (and_both (checks b) (possible_settings (settings_in b)) e).0
