-- What the code of a block's reading and writing meets: a value shifted by cases of its sign, a block filled row by row, and read so.
use mathlib.Core.Path.{◌≡◌, refl, sym, ◌∙◌, ap, ap₂}
use mathlib.Core.Bool.{Bool, true, false}
use mathlib.Core.List.{List, [], ◌∷◌, ◌++◌, append_assoc, append-nil}
use Prim.Native.Nat.{ℕ, suc, ◌+◌, ◌-◌, ◌*◌, ◌/◌, ◌%◌, ◌<◌}
use native.Mathlib.Omega.{arith}
use native.Mathlib.Numerals.{add-one}
use lib.Dec.{leb, eqb}
use lib.ListN.{length, take, drop, set, get_or, replicate, length-drop, length-append, length-set, take-append-drop}
use lib.Seq.{set_at, take_at, drop_at, take-suc-set, take_all, append_snoc, drop-set-lt, drop-drop, drop-append-add}
use lib.IntN.{ℤ, pos, negsuc, neg_ℤ, nat_abs, ◌+ℤ◌, ◌-ℤ◌}
use mir.Syntax.{w32}
use mir.Val.{SFits}
use borrow.Author.Tests.{eqb-true, eqb-false, eq-eqb, ne_eqb, leb-true, leb-false}
use borrow.Rule.Slice.PartMut.{put_mid}
use Rattle.std.specs.Prelude.{Result, Ok, Err}
use Rattle.std.specs.Result.{OkIff, result_unwrap_or}
use Rattle.std.specs.List.{starts_with}
use Rattle.std.proofs.Math.Bool.{and-true}
use Rattle.std.specs.Int.{FitsUnsignedBits}
use Rattle.std.proofs.lemmas.Int.{ints}
use Rattle.registers.specs.Text.{Text, if◌then◌otherwise◌}
use Rattle.registers.specs.Label.{most_text, padded}
use Rattle.registers.specs.Settings.{at_reset, count, table_count, value_at}
use Rattle.registers.specs.Setup.{block_size, checked_size, weighted, in_bytes, checks, shifted, unshifted, value_in, values_in, saved_text, read_in, mark_byte, mark_size, marked, settings_in, bytes_of, unused, body, contents, block_of}
use Rattle.registers.specs.declared.settings.Settings.{Settings}
use Rattle.registers.proofs.Tests.{and_both}
use Rattle.registers.proofs.setup.Laws.{bytes-long, contents-long, padded-whole}

-- ---- a value shifted

-- what 256 more is, as a number where it is one
pub shift-is : {E : Type 0} (z w : ℤ) (r : Result ℕ E) → SFits w32 z → w ≡ z +ℤ pos 256 → OkIff r (FitsUnsignedBits 32 w) (nat_abs w) → result_unwrap_or r 0 ≡ shifted z
unfolding shifted
shift-is (pos n) (pos m) (Ok x) h e told = told.1 ∙ omega (arith, ints, e)
shift-is (pos n) (pos m) (Err d) h e told = absurd (told (omega (arith, ints, e)))
shift-is (pos n) (negsuc m) r h e told = absurd (omega (arith, ints, e))
shift-is (negsuc n) (pos m) (Ok x) h e told = told.1 ∙ omega (arith, ints, e)
shift-is (negsuc n) (pos m) (Err d) h e told = absurd (told (omega (arith, ints, e)))
shift-is (negsuc n) (negsuc m) (Ok x) h e told = absurd told.0
shift-is (negsuc n) (negsuc m) (Err d) h e told = omega (arith, ints, e)

pub unshift-is : (n : ℕ) → (pos n -ℤ pos 256) ≡ unshifted n
unfolding unshifted if◌then◌otherwise◌
unshift-is n = go (leb 256 n) refl
  where
    go : (t : Bool) → leb 256 n ≡ t → (pos n -ℤ pos 256) ≡ (if t then pos (n - 256) otherwise neg_ℤ (pos (256 - n)))
    go true e = let h = leb-true 256 n e in omega (arith, ints, h)
    go false e = let h = leb-false 256 n e in omega (arith, ints, h)

-- ---- a block read

pub checked-long : (b : Text) → checks b ≡ true → length b ≡ block_size
unfolding checks
checked-long b e = eqb-true (length b) block_size (and_both (eqb (length b) block_size) _ e).0

pub value-read : (b : Text) (row x : ℕ) → x ≡ get_or b (row * 2) 0 + get_or b (row * 2 + 1) 0 * 256 → unshifted x ≡ value_in b row
unfolding value_in
value-read b row x e =
    let n : row * 2 ≡ 2 * row = omega arith in
    let s : x ≡ get_or b (row * 2) 0 + 256 * get_or b (row * 2 + 1) 0 = omega arith in
    ap unshifted (s ∙ ap (λ (i : ℕ). get_or b i 0 + 256 * get_or b (i + 1) 0) n)

-- the values read so far
pub record Reading (b : Text) (values : List ℤ) (row : ℕ) : Type 0 where
  pub long : length values ≡ count
  pub is : take row values ≡ values_in b row
  pub rest : drop row values ≡ drop row at_reset.values

pub read-begun : (b : Text) (values : List ℤ) → length values ≡ count → values ≡ at_reset.values → Reading b values 0
unfolding values_in
read-begun b values l e = record { long = l; is = refl; rest = e }

pub read-on : (b : Text) (values : List ℤ) (row : ℕ) (v : ℤ) → Reading b values row → row < count → v ≡ value_in b row → Reading b (set values row v) (row + 1)
unfolding values_in
read-on b values row v g h e =
    let long = g.long in
    record {
      long = length-set values row v ∙ long;
      is = rw (add-one row, take-suc-set values row v (omega arith), g.is, e);
      rest = drop-set-lt (row + 1) values row v (omega arith) ∙ sym (drop-drop 1 row values) ∙ ap (drop 1) g.rest ∙ drop-drop 1 row at_reset.values;
    }

pub read-end : (n : ℕ) (b : Text) (values : List ℤ) (text : Text) (row : ℕ) → Reading b values row → row ≡ n → text ≡ take (n * 2 + 32 - n * 2) (drop (n * 2) b)
    → record { values = values; text = text } ≡ read_in n b
unfolding read_in saved_text
read-end n b values text row g e is =
    let k : n * 2 + 32 - n * 2 ≡ most_text = omega arith in
    let m : n * 2 ≡ 2 * n = omega arith in
    ap₂ (λ (l : List ℤ) (t : Text). record { values = l; text = t })
    (sym (take-append-drop row values) ∙ ap₂ (λ (x y : List ℤ). x ++ y) g.is g.rest ∙ ap (λ (i : ℕ). values_in b i ++ drop i at_reset.values) e)
    (is ∙ ap₂ (λ (x y : ℕ). take x (drop y b)) k m)

-- by the mark
eqb-either : (a b : ℕ) → eqb a b ≡ eqb b a
eqb-either a b = go (eqb b a) refl
  where
    go : (t : Bool) → eqb b a ≡ t → eqb a b ≡ t
    go true e = eq-eqb a b (sym (eqb-true b a e))
    go false e = ne_eqb a b (λ f. eqb-false b a e (sym f))

begins : (b : Text) → length b ≡ block_size → starts_with eqb b (mark_byte ∷ mark_byte ∷ []) ≡ marked b
unfolding marked
begins [] h = absurd (omega arith)
begins (x ∷ []) h = absurd (omega arith)
begins (x ∷ y ∷ b) h = rw (and-true, eqb-either mark_byte x, eqb-either mark_byte y)

pub said-marked : (b : Text) → length b ≡ block_size → true ≡ starts_with eqb b (mark_byte ∷ mark_byte ∷ []) → read_in count (take (block_size - mark_size) (drop mark_size b)) ≡ settings_in b
unfolding settings_in if◌then◌otherwise◌
said-marked b l e = rw (← begins b l, ← e) (ap (read_in count) (take_all (block_size - mark_size) (drop mark_size b) (rw length-drop (omega arith))))

pub said-unmarked : (b : Text) → length b ≡ block_size → false ≡ starts_with eqb b (mark_byte ∷ mark_byte ∷ []) → read_in table_count b ≡ settings_in b
unfolding settings_in if◌then◌otherwise◌
said-unmarked b l e = rw (← begins b l, ← e)

-- ---- a block filled

-- two bytes after those that are there
fill : (xs : Text) (n k a b : ℕ) → length xs ≡ k → set (set (xs ++ replicate (suc (suc n)) 0) k a) (k + 1) b ≡ (xs ++ a ∷ b ∷ []) ++ replicate n 0
fill xs n k a b e =
    let l : length (xs ++ a ∷ []) ≡ k + 1 = rw length-append (omega arith) in
    rw (set_at xs 0 (0 ∷ replicate n 0) a k e, ← append_snoc xs a (0 ∷ replicate n 0), set_at (xs ++ a ∷ []) 0 (replicate n 0) b (k + 1) l, append_assoc xs (a ∷ []) (b ∷ replicate n 0), append_assoc xs (a ∷ b ∷ []) (replicate n 0))

pub record Filling (s : Settings) (block : Text) (row : ℕ) : Type 0 where
  pub is : block ≡ mark_byte ∷ mark_byte ∷ (bytes_of s row ++ replicate (510 - 2 * row) 0)

pub fill-begun : (s : Settings) → Filling s (set (set (replicate block_size 0) 0 mark_byte) 1 mark_byte) 0
unfolding bytes_of
fill-begun s = record { is = refl }

pub fill_on : (s : Settings) (block : Text) (row n : ℕ) → Filling s block row → row < count → n ≡ shifted (value_at s row)
    → Filling s (set (set block (row * 2 + 2) (n % 256)) (row * 2 + 2 + 1) (n / 256 % 256)) (row + 1)
unfolding bytes_of in_bytes
fill_on s block row n g h e =
    let k : 510 - 2 * row ≡ suc (suc (510 - 2 * (suc row))) = omega arith in
    let l = bytes-long s row in
    record {
      is =
          ap (λ (t : Text). set (set t (row * 2 + 2) (n % 256)) (row * 2 + 2 + 1) (n / 256 % 256)) (g.is ∙ ap (λ (m : ℕ). mark_byte ∷ mark_byte ∷ (bytes_of s row ++ replicate m 0)) k)
          ∙ fill (mark_byte ∷ mark_byte ∷ bytes_of s row) (510 - 2 * suc row) (row * 2 + 2) (n % 256) (n / 256 % 256) (omega arith)
          ∙ ap (λ (m : ℕ). mark_byte ∷ mark_byte ∷ ((bytes_of s row ++ in_bytes 2 m) ++ replicate (510 - 2 * suc row) 0)) e
          ∙ ap (λ (i : ℕ). mark_byte ∷ mark_byte ∷ (bytes_of s i ++ replicate (510 - 2 * i) 0)) (sym (add-one row));
    }

-- the text laid behind the values
pub text-filled : (s : Settings) (block text : Text) (row : ℕ) → Filling s block row → row ≡ count → length s.text ≡ most_text → text ≡ s.text
    → put_mid 62 32 block text ≡ contents s ++ replicate 4 0
unfolding contents body bytes_of in_bytes
text-filled s block text row g r long same =
    let l = bytes-long s count in
    let whole : padded most_text s.text ≡ s.text = ap (λ (n : ℕ). padded n s.text) (sym long) ∙ padded-whole s.text in
    let front : Text = mark_byte ∷ mark_byte ∷ bytes_of s count in
    let zeros : Text = replicate 450 0 in
    let at : length front ≡ 62 = omega arith in
    let is : block ≡ front ++ zeros = g.is ∙ ap (λ (i : ℕ). mark_byte ∷ mark_byte ∷ (bytes_of s i ++ replicate (510 - 2 * i) 0)) r in
    let tail : drop 94 (front ++ zeros) ≡ drop 32 zeros = ap (λ (n : ℕ). drop (n + 32) (front ++ zeros)) (sym at) ∙ drop-append-add front zeros 32 in
    ap₂ (λ (b t : Text). put_mid 62 32 b t) is (same ∙ sym whole)
    ∙ ap₂ (λ (x y : Text). x ++ (padded most_text s.text ++ y)) (take_at front zeros 62 at) tail
    ∙ ap (λ (t : Text). front ++ t) (sym (append_assoc (padded most_text s.text) (replicate unused 0) (replicate 4 0)))
    ∙ sym (append_assoc front (padded most_text s.text ++ replicate unused 0) (replicate 4 0))

-- the whole block, with its sum in the last four bytes
pub block_made : (s : Settings) (block bytes : Text) (sum : ℕ) → block ≡ contents s ++ replicate 4 0 → sum ≡ weighted 1 (take checked_size block)
    → bytes ≡ sum % 256 ∷ sum / 256 % 256 ∷ sum / 65536 % 256 ∷ sum / 16777216 % 256 ∷ [] → put_mid 508 4 block bytes ≡ block_of s
unfolding block_of in_bytes
block_made s block bytes sum is e b =
    let l = contents-long s in
    let n : sum ≡ weighted 1 (contents s) = e ∙ ap (λ (t : Text). weighted 1 (take checked_size t)) is ∙ ap (weighted 1) (take_at (contents s) (replicate 4 0) checked_size l) in
    let c : sum / 65536 ≡ sum / 256 / 256 = omega arith in
    let d : sum / 16777216 ≡ sum / 256 / 256 / 256 = omega arith in
    let told : bytes ≡ in_bytes 4 (weighted 1 (contents s)) = b ∙ rw (c, d, n) in
    rw (is, take_at (contents s) (replicate 4 0) 508 l, drop_at (contents s) (replicate 4 0) 508 l, append-nil, told)
