-- Demand 2, the round trip: every answer is read back as the value that it stands for, and has no byte that parts units or parameters.
-- For tenths that is a law, for all other settings one computed test over every value.
use mathlib.Core.Path.{◌≡◌, refl, ap}
use mathlib.Core.Bool.{Bool, true, false, not, ◌&&◌, false≢true, ◌||◌}
use Prim.Native.Nat.{ℕ, suc, ◌+◌, ◌≤◌, ◌<◌, ◌^◌}
use Prim.Native.Char.{code}
use native.Mathlib.Omega.{arith}
use lib.Dec.{leb, ltb, eqb}
use lib.ListN.{length}
use lib.IntN.{ℤ, pos, negsuc, nat_abs}
use lib.Signed.{le_z, non_neg, pos-nat_abs}
use borrow.Author.Tests.{ltb-true, leb-true, le-leb, eqb-true, ne_eqb}
use Rattle.registers.specs.Text.{Text, if◌then◌otherwise◌, bytes, same, white, printable, digit, letter, word_byte, small, capital, every, empty, below}
use Rattle.registers.specs.Check.{Checked, refused, passed, check, ◌>>=◌, ◌>>◌}
use Rattle.registers.specs.Words.{short_form, long_form, matches}
use Rattle.registers.specs.Number.{after_sign, fraction_of, after_fraction, exponent_of, after_exponent, lowering, written, numeral_from, decimal_of, value_of, scaled, number as read_number, most_digits}
use Rattle.registers.specs.Suffix.{suffixes, no_suffix, power_in, remains}
use Rattle.registers.specs.Rounding.{switched_on, nearest, size_in, rounded, size_side, side_in}
use Rattle.registers.specs.Answer.{in_places, decimal, tenths, signed_text}
use Rattle.registers.specs.Settings.{count, Kind, bool, words, number, table, setting_at, kind_of, quantity_of, lowest_of, highest_of, voltage, voltage2, range, range2, twelve_volts, wide_range, lowest, highest, within, answer_of, on_step, accepted, slots, narrow}
use Rattle.registers.specs.declared.rounding.Side.{Side}
use Rattle.registers.specs.declared.rounding.Side.TheVariants.{On, Below, Above}
use Rattle.registers.specs.declared.settings.Settings.{Settings}
use Rattle.registers.specs.declared.suffix.Quantity.{Quantity}
use Rattle.registers.proofs.Tests.{holds, and_both, below_at}
use Rattle.registers.proofs.text.Laws.{digit-bounds}
use Rattle.registers.proofs.answer.Decimals.{tenths-length, signed-length}
use Rattle.interpreter.specs.Parameter.{Given, Word, Figure, find_word, parameter, limit_words, words_of, takes_numbers, value_given, setting_deed, side_given, read_word, read_figure}
use Rattle.interpreter.specs.declared.deed.Deed.TheVariants.{Change}
use Rattle.interpreter.specs.declared.deed.Change.TheVariants.{Put}
use Rattle.registers.proofs.settings.Possible.{under-wide}
use Rattle.interpreter.proofs.Choices.{if-elim}
use Rattle.interpreter.proofs.demands.trip.Tenths.{tenths-rounded, tenths-on, tenths-read, tenths-some, tenths-bytes}

-- ---- the test

unfoldable same_z : ℤ → ℤ → Bool
same_z x y = le_z x y && le_z y x

-- a parameter gives v to a setting of this kind, whatever the settings are, and nothing is rounded off
unfoldable gives : Kind → ℤ → Given → Bool
gives bool v (Word n) = same_z (pos n) v
gives bool v (Figure d) = same_z (if switched_on d then pos 1 otherwise pos 0) v
gives (words ws) v (Word n) = same_z (pos n) v
gives (words ws) v (Figure d) = false
gives (number k low high) v (Word n) = false
gives (number k low high) v (Figure d) = on_step (side_in k d) && same_z (rounded k d) v

unfoldable read_to : Kind → ℤ → Checked Given → Bool
read_to k v (refused n) = false
read_to k v (passed g) = gives k v g

-- a byte that is printable and parts neither units nor parameters
abbrev pub plain_byte : ℕ → Bool
plain_byte b = printable b && (not (eqb b (code ",")) && not (eqb b (code ";")))

-- such bytes, at least one and not many
unfoldable pub plain_text : Text → Bool
plain_text t = not (empty t) && (every plain_byte t && leb (length t) 30)

unfoldable reads_back : Quantity → Kind → ℤ → Bool
reads_back q k v = read_to k v (parameter (words_of k) (takes_numbers k) q (answer_of k v)) && plain_text (answer_of k v)

unfoldable in_table : Kind → ℤ → Bool
in_table k v = le_z (lowest_of k) v && le_z v (highest_of k)

-- no value of the kind is larger in size
abbrev size_of : Kind → ℕ
size_of k = nat_abs (lowest_of k) + nat_abs (highest_of k)

-- with no value below zero, these are all the values and maybe some more
unfoldable tested : Quantity → Kind → Bool
tested q k = non_neg (lowest_of k) && below (suc (size_of k)) (λ n. reads_back q k (pos n))

-- tenths have a law of theirs, which asks for their size alone
unfoldable covered : Quantity → Kind → Bool
covered q bool = tested q bool
covered q (words ws) = tested q (words ws)
covered q (number k low high) = if eqb k 10 then ltb (size_of (number k low high)) (10 ^ most_digits) otherwise tested q (number k low high)

all-covered : below count (λ i. covered (quantity_of i) (kind_of i)) ≡ true
unfolding covered tested reads_back plain_text read_to gives same_z if◌then◌otherwise◌ bytes same printable white digit letter word_byte small capital
    ◌>>=◌ ◌>>◌ check short_form long_form matches after_sign fraction_of after_fraction exponent_of after_exponent lowering written numeral_from decimal_of
    value_of scaled suffixes no_suffix power_in remains read_number switched_on nearest size_in rounded size_side side_in in_places decimal slots table setting_at answer_of find_word read_word read_figure parameter
all-covered = refl

-- ---- the test and the law together

same_z-eq : (x y : ℤ) → same_z x y ≡ true → x ≡ y
unfolding same_z
same_z-eq (pos a) (pos b) t =
    let p = and_both (leb a b) (leb b a) t in
    let l = leb-true a b p.0 in
    let m = leb-true b a p.1 in
    let e : a ≡ b = omega arith in ap pos e
same_z-eq (pos a) (negsuc b) t = absurd (false≢true t)
same_z-eq (negsuc a) (pos b) t = absurd (false≢true t)
same_z-eq (negsuc a) (negsuc b) t =
    let p = and_both (leb b a) (leb a b) t in
    let l = leb-true b a p.0 in
    let m = leb-true a b p.1 in
    let e : a ≡ b = omega arith in ap negsuc e

same_z-same : (x : ℤ) → same_z x x ≡ true
unfolding same_z
same_z-same (pos n) = rw (le-leb n n (omega arith))
same_z-same (negsuc n) = rw (le-leb n n (omega arith))

gives-value : (s : Settings) (i : ℕ) (k : Kind) (v : ℤ) (g : Given) → gives k v g ≡ true → value_given s i k g ≡ v
unfolding gives value_given
gives-value s i bool v (Word n) t = same_z-eq _ v t
gives-value s i bool v (Figure d) t = same_z-eq _ v t
gives-value s i (words ws) v (Word n) t = same_z-eq _ v t
gives-value s i (words ws) v (Figure d) t = absurd (false≢true t)
gives-value s i (number k low high) v (Word n) t = absurd (false≢true t)
gives-value s i (number k low high) v (Figure d) t = same_z-eq _ v (and_both (on_step (side_in k d)) (same_z (rounded k d) v) t).1

gives-side : (k : Kind) (v : ℤ) (g : Given) → gives k v g ≡ true → side_given k g ≡ On
unfolding gives
gives-side bool v g t = refl
gives-side (words ws) v g t = refl
gives-side (number k low high) v (Word n) t = refl
gives-side (number k low high) v (Figure d) t = go (side_in k d) (and_both (on_step (side_in k d)) (same_z (rounded k d) v) t).0
  where
    go : (x : Side) → on_step x ≡ true → x ≡ On
    go On e = refl
    go Below e = absurd (false≢true e)
    go Above e = absurd (false≢true e)

in_size : (low high v : ℤ) → le_z low v ≡ true → le_z v high ≡ true → nat_abs v ≤ nat_abs low + nat_abs high
in_size low (pos h) (pos n) l t = let p = leb-true n h t in omega arith
in_size low (negsuc h) (pos n) l t = absurd (false≢true t)
in_size (negsuc l) high (negsuc n) t h = let p = leb-true n l t in omega arith
in_size (pos l) high (negsuc n) t h = absurd (false≢true t)

from_zero : (low v : ℤ) → non_neg low ≡ true → le_z low v ≡ true → non_neg v ≡ true
from_zero low (pos n) z l = refl
from_zero (pos m) (negsuc n) z l = l
from_zero (negsuc m) (negsuc n) z l = z

digit-plain : (b : ℕ) → digit b ≡ true → plain_byte b ≡ true
unfolding printable
digit-plain b d =
    let h = digit-bounds b (holds d) in
    rw (le-leb 33 b (omega arith), le-leb b 126 (omega arith), ne_eqb b 44 (λ e. omega arith), ne_eqb b 59 (λ e. omega arith))

module _ (q : Quantity) (k : Kind) (v : ℤ) (t : in_table k v ≡ true) where
  limits : (le_z (lowest_of k) v ≡ true) × (le_z v (highest_of k) ≡ true)
  unfolding in_table
  limits = and_both (le_z (lowest_of k) v) (le_z v (highest_of k)) t

  size_is : nat_abs v ≤ size_of k
  size_is = in_size (lowest_of k) (highest_of k) v limits.0 limits.1

  by-test : tested q k ≡ true → reads_back q k v ≡ true
  unfolding tested
  by-test c =
      let p = and_both (non_neg (lowest_of k)) _ c in
      let e = pos-nat_abs v (holds (from_zero (lowest_of k) v p.0 limits.0)) in
      let l = size_is in
      rw e at (below_at (suc (size_of k)) (λ n. reads_back q k (pos n)) p.1 (nat_abs v) (omega arith))

module _ (v : ℤ) (h : nat_abs v < 10 ^ most_digits) where
  tenths-plain : plain_text (signed_text tenths v) ≡ true
  unfolding plain_text printable
  tenths-plain =
      let l = signed-length tenths 22 tenths-length v in
      rw (tenths-some v, tenths-bytes plain_byte refl refl digit-plain v h, le-leb (length (signed_text tenths v)) 30 (omega arith))

  by-law : (q : Quantity) (low high : ℤ) → reads_back q (number 10 low high) v ≡ true
  unfolding reads_back read_to gives answer_of if◌then◌otherwise◌
  by-law q low high = rw (tenths-read limit_words q v h, tenths-on v, tenths-rounded v, same_z-same v) tenths-plain

reads-back : (q : Quantity) (k : Kind) → covered q k ≡ true → (v : ℤ) → in_table k v ≡ true → reads_back q k v ≡ true
unfolding covered
reads-back q bool c v t = by-test q bool v t c
reads-back q (words ws) c v t = by-test q (words ws) v t c
reads-back q (number k low high) c v t =
    let row = number k low high in
    if-elim (λ (b : Bool). b ≡ true → reads_back q row v ≡ true) (eqb k 10)
    (λ e c. let l = size_is q row v t in let h = ltb-true (size_of row) (10 ^ most_digits) c in rw (eqb-true k 10 e) (by-law v (omega arith) q low high))
    (λ _ c. by-test q row v t c) c

read-deed : (s : Settings) (i : ℕ) (v : ℤ) (m : Checked Given) → read_to (kind_of i) v m ≡ true → within s i v ≡ true
    → (m >>= λ g.
    let z = value_given s i (kind_of i) g in
    let x = side_given (kind_of i) g in
    check 222 (within s i z) >> check 222 (accepted s x) >> passed (Change (Put i z x)))
    ≡ passed (Change (Put i v On))
unfolding read_to accepted ◌>>=◌ ◌>>◌ check
read-deed s i v (refused n) t w = absurd (false≢true t)
read-deed s i v (passed g) t w = rw (gives-value s i (kind_of i) v g t, gives-side (kind_of i) v g t, w)

-- a voltage within any range is in the table
under_table : (s : Settings) (i : ℕ) (v : ℤ) → within s i v ≡ true → in_table (kind_of i) v ≡ true
unfolding within in_table lowest highest narrow setting_at slots table if◌then◌otherwise◌
under_table s i v w =
    let p = and_both (le_z (lowest_of (kind_of i)) v) _ w in
    rw p.0 (go (eqb i voltage) refl (eqb i voltage2) refl (not (wide_range s range)) (not (wide_range s range2)) p.1)
  where
    go : (t : Bool) → eqb i voltage ≡ t → (u : Bool) → eqb i voltage2 ≡ u → (m n : Bool)
        → le_z v (if (t && m) || (u && n) then twelve_volts otherwise highest_of (kind_of i)) ≡ true → le_z v (highest_of (kind_of i)) ≡ true
    go true q u r true n l = rw (eqb-true i voltage q) (under-wide false v l)
    go false q true r m true l = rw (eqb-true i voltage2 r) (under-wide false v l)
    go true q true r false n l = absurd (omega (arith, eqb-true i voltage q, eqb-true i voltage2 r))
    go true q false r false n l = l
    go false q true r m false l = l
    go false q false r m n l = l

-- a setting's answer, sent as its parameter, sets the value that was answered
module _ (s : Settings) (i : ℕ) (h : i < count) (v : ℤ) (w : within s i v ≡ true) where
  both : (read_to (kind_of i) v (parameter (words_of (kind_of i)) (takes_numbers (kind_of i)) (quantity_of i) (answer_of (kind_of i) v)) ≡ true)
      × (plain_text (answer_of (kind_of i) v) ≡ true)
  unfolding reads_back
  both =
      let c = below_at count (λ i. covered (quantity_of i) (kind_of i)) all-covered i h in
      and_both _ (plain_text (answer_of (kind_of i) v)) (reads-back (quantity_of i) (kind_of i) c v (under_table s i v w))

  pub answer-sets : setting_deed s i (answer_of (kind_of i) v) ≡ passed (Change (Put i v On))
  unfolding setting_deed
  answer-sets = read-deed s i v (parameter (words_of (kind_of i)) (takes_numbers (kind_of i)) (quantity_of i) (answer_of (kind_of i) v)) both.0 w

  pub answer-plain : plain_text (answer_of (kind_of i) v) ≡ true
  answer-plain = both.1
