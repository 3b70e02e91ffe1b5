-- Which texts the code has: the headers of the settings, and their words.
use mathlib.Core.Path.{◌≡◌, refl, sym, ◌∙◌, ap}
use mathlib.Core.Bool.{Bool, true, false, not, ◌||◌, false≢true}
use mathlib.Core.List.{List, [], ◌∷◌, ◌++◌, map}
use mathlib.Core.Logic.{◌⊎◌, inl, inr}
use Prim.Native.Nat.{ℕ, zero, suc, pred, ◌<◌}
use denote.Bor.{Bor}
use Prim.Native.String.{String}
use native.Mathlib.Omega.{arith}
use lib.Dec.{leb, ltb, eqb}
use lib.ListN.{length, get_or, get_or-append, length-append, length-map}
use lib.Seq.{get_or-append_seam}
use lib.IntN.{ℤ, pos, negsuc}
use lib.Signed.{le_z}
use mir.Syntax.{w32}
use mir.Val.{of_z}
use borrow.Author.Tests.{eqb-true, eqb-false, leb-true, ltb-true, lt-ltb, ne_eqb}
use Rattle.registers.specs.Text.{Text, if◌then◌otherwise◌, bytes, small, below, same}
use Rattle.registers.specs.Words.{short_form}
use Rattle.registers.specs.Settings.{count, voltage, range, voltage2, range2, narrow, Kind, bool, words, number, table, slots, setting_at, kind_of, lowest, highest, within, answer_of, some_words, sort_of}
use Rattle.registers.specs.declared.settings.Settings.{Settings}
use Rattle.registers.proofs.Tests.{and_both, below_at}
use Rattle.interpreter.proofs.Lists.{get_d_map, same-eq}
use Rattle.interpreter.specs.Rows.{monitor}
use Rattle.writer.specs.Lines.{header_for}
use Rattle.writer.specs.LinesParts.{headers_to, Worded}

-- ---- headers

headers-long : (n : ℕ) → length (headers_to n) ≡ n
unfolding headers_to
headers-long zero = refl
headers-long (suc n) = let l = length-append (headers_to n) (header_for n ∷ []) in let k = headers-long n in omega arith

headers-at : (n i : ℕ) → i < n → get_or (headers_to n) i [] ≡ header_for i
unfolding headers_to
headers-at zero i h = absurd (omega arith)
headers-at (suc n) i h = go (eqb i n) refl (λ k. headers-at n i k)
  where
    go : (t : Bool) → eqb i n ≡ t → (i < n → get_or (headers_to n) i [] ≡ header_for i) → get_or (headers_to n ++ header_for n ∷ []) i [] ≡ header_for i
    go true e more = let l = headers-long n in rw (eqb-true i n e) (rw l at (get_or-append_seam (headers_to n) (header_for n) [] []))
    go false e more =
        let l = headers-long n in
        let k = eqb-false i n e in
        get_or-append (headers_to n) (header_for n ∷ []) [] i (omega arith) ∙ more (omega arith)

-- in a table of references to them
pub header-in : (refs : List (Bor Text)) (d : Bor Text) (i : ℕ) → map (λ (r : Bor Text). r.now) refs ≡ headers_to count → i < count → (get_or refs i d).now ≡ header_for i
header-in refs d i e h =
    let l : length refs ≡ count = sym (length-map refs (λ (r : Bor Text). r.now)) ∙ ap (λ (ts : List Text). length ts) e ∙ headers-long count in
    sym (get_d_map (λ (r : Bor Text). r.now) refs i d [] (omega arith)) ∙ ap (λ (ts : List Text). get_or ts i []) e ∙ headers-at count i h

-- ---- words

-- those that the code has, by the slot and the place
abbrev pub spoken : ℕ → ℕ → Text
spoken i n =
    if eqb i monitor then (if eqb n 0 then bytes "CURR" otherwise (if eqb n 1 then bytes "SCUR" otherwise bytes "VOLT"))
    otherwise (if eqb i range || eqb i range2 then (if eqb n 0 then bytes "R12V" otherwise bytes "R24V")
    otherwise (if eqb n 0 then bytes "CONT" otherwise bytes "OFF"))

-- the words of a setting, of which there are at most three
abbrev words_in : Kind → List String
words_in bool = []
words_in (words ws) = ws
words_in (number k low high) = []

abbrev is_other : Kind → Bool
is_other bool = true
is_other (words ws) = false
is_other (number k low high) = true

abbrev few : ℕ → Bool
few i = leb (length (words_in (kind_of i))) 3

all-few : below count few ≡ true
unfolding table slots setting_at
all-few = refl

abbrev wordly : ℕ → ℕ → Bool
wordly i n = not (ltb n (length (words_in (kind_of i)))) || same (spoken i n) (answer_of (kind_of i) (pos n))

all-wordly : below count (λ i. below 3 (wordly i)) ≡ true
unfolding short_form bytes same small if◌then◌otherwise◌ table slots setting_at answer_of
all-wordly = refl

-- a voltage has no words, so no range makes the limits of words narrow
no_words : (i v : ℕ) (ws : List String) → kind_of v ≡ number 10 (pos 0) (pos 240) → kind_of i ≡ words ws → eqb i v ≡ false
no_words i v ws is q =
    ne_eqb i v (λ e. let z : number 10 (pos 0) (pos 240) ≡ words ws = sym is ∙ ap kind_of (sym e) ∙ q in let y : ◌≡◌ {A = ℕ} 0 1 = cc in omega arith)

not_narrow : (s : Settings) (i : ℕ) (ws : List String) → kind_of i ≡ words ws → narrow s i ≡ false
unfolding narrow setting_at table slots
not_narrow s i ws q = rw (no_words i voltage ws refl q, no_words i voltage2 ws refl q)

in_list : (s : Settings) (i : ℕ) (v : ℤ) (ws : List String) → kind_of i ≡ words ws → within s i v ≡ true → (le_z (pos 0) v ≡ true) × (le_z v (pos (pred (length ws))) ≡ true)
unfolding within lowest highest if◌then◌otherwise◌
in_list s i v ws q w =
    let p = and_both (le_z (lowest i) v) (le_z v (highest s i)) w in
    (rw q at p.0, rw (not_narrow s i ws q, q) at p.1)

word_at : (i : ℕ) → i < count → (n : ℕ) (ws : List String) → kind_of i ≡ words ws → n < length ws → spoken i n ≡ answer_of (kind_of i) (pos n)
word_at i h n ws q k =
    let m : leb (length ws) 3 ≡ true = rw q at (below_at count few all-few i h) in
    let l = leb-true (length ws) 3 m in
    let t = below_at 3 (wordly i) (below_at count (λ i. below 3 (wordly i)) all-wordly i h) n (omega arith) in
    let there : ltb n (length (words_in (kind_of i))) ≡ true = rw q (lt-ltb n (length ws) k) in
    same-eq (spoken i n) (answer_of (kind_of i) (pos n)) (rw there at t)

abbrev some : ℕ → Bool
some i = is_other (kind_of i) || ltb 0 (length (words_in (kind_of i)))

all-some : below count some ≡ true
unfolding table slots setting_at
all-some = refl

some-words : (i : ℕ) → i < count → (ws : List String) → kind_of i ≡ words ws → 0 < length ws
some-words i h ws q = let t : ltb 0 (length ws) ≡ true = rw q at (below_at count some all-some i h) in ltb-true 0 (length ws) t

-- what is spoken by a value's bits is how it is answered
pub word-text : {i : ℕ} {v : ℤ} → Worded i v → spoken i (of_z w32 v) ≡ answer_of (kind_of i) v
word-text {i} {v} h = go (kind_of i) refl
  where
    by_value : (x : ℤ) (ws : List String) → kind_of i ≡ words ws → (le_z (pos 0) x ≡ true) × (le_z x (pos (pred (length ws))) ≡ true)
        → 0 < length ws → spoken i (of_z w32 x) ≡ answer_of (kind_of i) x
    by_value (pos n) ws q l some = let k = leb-true n (pred (length ws)) l.1 in word_at i h.value.row n ws q (omega arith)
    by_value (negsuc n) ws q l some = absurd (false≢true l.0)

    go : (k : Kind) → kind_of i ≡ k → spoken i (of_z w32 v) ≡ answer_of (kind_of i) v
    go bool q = let z : sort_of bool ≡ some_words = rw q at h.words in let y : ◌≡◌ {A = ℕ} 0 1 = cc in absurd (omega arith)
    go (number k l m) q = let z : sort_of (number k l m) ≡ some_words = rw q at h.words in let y : ◌≡◌ {A = ℕ} 0 1 = cc in absurd (omega arith)
    go (words ws) q = by_value v ws q (in_list h.value.settings i v ws q h.value.within) (some-words i h.value.row ws q)

spoken-monitor : (i n : ℕ) → i ≡ monitor → spoken i n ≡ (if eqb n 0 then bytes "CURR" otherwise (if eqb n 1 then bytes "SCUR" otherwise bytes "VOLT"))
unfolding if◌then◌otherwise◌
spoken-monitor i n e = rw e refl

spoken-range : (i n : ℕ) → (i ≡ range) ⊎ (i ≡ range2) → spoken i n ≡ (if eqb n 0 then bytes "R12V" otherwise bytes "R24V")
unfolding if◌then◌otherwise◌
spoken-range i n (inl e) = rw e refl
spoken-range i n (inr e) = rw e refl

spoken-mode : (i n : ℕ) → (i ≡ monitor → ⊥) → ((i ≡ range) ⊎ (i ≡ range2) → ⊥) → spoken i n ≡ (if eqb n 0 then bytes "CONT" otherwise bytes "OFF")
unfolding if◌then◌otherwise◌
spoken-mode i n a b = rw (ne_eqb i monitor a, ne_eqb i range (λ e. b (inl e)), ne_eqb i range2 (λ e. b (inr e))) refl

module _ {i : ℕ} {v : ℤ} (h : Worded i v) where
  pub monitor-word : i ≡ monitor → {t : Text}
      → (if eqb (of_z w32 v) 0 then bytes "CURR" otherwise (if eqb (of_z w32 v) 1 then bytes "SCUR" otherwise bytes "VOLT")) ≡ t → t ≡ answer_of (kind_of i) v
  monitor-word e f = sym f ∙ sym (spoken-monitor i (of_z w32 v) e) ∙ word-text h

  pub range-word : (i ≡ range) ⊎ (i ≡ range2) → {t : Text} → (if eqb (of_z w32 v) 0 then bytes "R12V" otherwise bytes "R24V") ≡ t → t ≡ answer_of (kind_of i) v
  range-word e f = sym f ∙ sym (spoken-range i (of_z w32 v) e) ∙ word-text h

  pub mode-word : (i ≡ monitor → ⊥) → ((i ≡ range) ⊎ (i ≡ range2) → ⊥) → {t : Text}
      → (if eqb (of_z w32 v) 0 then bytes "CONT" otherwise bytes "OFF") ≡ t → t ≡ answer_of (kind_of i) v
  mode-word a b f = sym f ∙ sym (spoken-mode i (of_z w32 v) a b) ∙ word-text h
