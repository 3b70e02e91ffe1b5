-- The second lookup: for every header, the search that starts at the first row whose names can have its names' first letters finds
-- the row, or -113, that the plain search finds.
use mathlib.Core.Path.{◌≡◌, refl, sym, ◌∙◌, ap}
use mathlib.Core.Bool.{Bool, true, false, ◌&&◌, ◌||◌, false≢true}
use mathlib.Core.List.{List, [], ◌∷◌}
use Prim.Native.Nat.{ℕ, suc, ◌+◌, ◌%◌, ◌≤◌, ◌<◌}
use Prim.Native.String.{String}
use native.Mathlib.Numerals.{add-one}
use native.Mathlib.Omega.{arith}
use lib.Dec.{eqb, ltb}
use lib.ListN.{length, get_or, drop, drop_of_length-le}
use lib.Seq.{drop-cons}
use borrow.Author.Tests.{eq-eqb, eqb-true}
use mir.Val.{bool_byte}
use Rattle.registers.specs.Text.{if◌then◌otherwise◌, letter, small, digit, word_byte, every, first, bytes, capital, same_bool}
use Rattle.registers.specs.Words.{Node, must, may, short_form, long_form}
use Rattle.registers.specs.Settings.{table}
use Rattle.registers.proofs.Tests.{and_both}
use Rattle.interpreter.specs.Rows.{Row, rows, setting_rows, other_rows, has_form}
use Rattle.interpreter.specs.Header.{numbered}
use Rattle.interpreter.specs.NameParts.{code_of, with_code, key_from, word_key, code_count, suffix_place, no_number}
use Rattle.interpreter.specs.DeedParts.{row_count}
use Rattle.interpreter.specs.TableParts.{first_fit, with_letter, mark_from, mark_of, can_mark, start_of, mark_count}
use Rattle.interpreter.specs.RowsParts.{key_matches, greedy, fits_keys, row_of_keys, Marked, shown_key}
use Rattle.interpreter.proofs.rows.Greedy.{word_of}
use Rattle.interpreter.proofs.table.Lengths.{rows-many, first-most}

-- ---- a word's first letter stands lowest in the numbers of both its forms

abbrev led : String → Bool
led w = eqb (word_key (short_form w) % code_count) (code_of (first (bytes w))) && eqb (word_key (long_form w) % code_count) (code_of (first (bytes w)))

abbrev all_led : List Node → Bool
all_led nodes = every (λ x. led (word_of x)) nodes

abbrev led_row : Row → Bool
led_row r = all_led r.nodes

-- the one test over the table
rows-led : every led_row rows ≡ true
unfolding rows setting_rows other_rows table short_form long_form bytes small capital word_key key_from with_code code_of letter digit word_byte if◌then◌otherwise◌
rows-led = refl

-- a suffix stands above the first letter
shown-low : (takes : Bool) (k : ℕ) → shown_key takes k % code_count ≡ k % code_count
unfolding shown_key if◌then◌otherwise◌
shown-low takes k = go (takes && ltb k no_number)
  where
    go : (b : Bool) → (if b then k % suffix_place otherwise k) % code_count ≡ k % code_count
    go true = omega arith
    go false = refl

first-letter : (w : String) (k : ℕ) → led w ≡ true → key_matches w k ≡ true → k % code_count ≡ code_of (first (bytes w))
unfolding key_matches
first-letter w k l e =
    let p = and_both (eqb (word_key (short_form w) % code_count) (code_of (first (bytes w)))) (eqb (word_key (long_form w) % code_count) (code_of (first (bytes w)))) l in
    go (shown_key (numbered w) k) (shown-low (numbered w) k) (eqb (shown_key (numbered w) k) (word_key (short_form w))) refl e (eqb-true _ _ p.0) (eqb-true _ _ p.1)
  where
    go : (m : ℕ) → m % code_count ≡ k % code_count → (b : Bool) → eqb m (word_key (short_form w)) ≡ b → (b || eqb m (word_key (long_form w))) ≡ true
        → word_key (short_form w) % code_count ≡ code_of (first (bytes w)) → word_key (long_form w) % code_count ≡ code_of (first (bytes w))
        → k % code_count ≡ code_of (first (bytes w))
    go m low true q r s t = sym low ∙ ap (λ (n : ℕ). n % code_count) (eqb-true m (word_key (short_form w)) q) ∙ s
    go m low false q r s t = sym low ∙ ap (λ (n : ℕ). n % code_count) (eqb-true m (word_key (long_form w)) r) ∙ t

-- ---- names that a row's nodes spell have one of the row's marks

or_right : (a : Bool) {b : Bool} → b ≡ true → (a || b) ≡ true
or_right true e = refl
or_right false e = e

can-mark : (nodes : List Node) → all_led nodes ≡ true → (keys : List ℕ) (m : ℕ) → greedy nodes keys ≡ true → can_mark (mark_from m keys) m nodes ≡ true
unfolding greedy can_mark mark_from if◌then◌otherwise◌
can-mark [] l [] m e = eq-eqb m m refl
can-mark [] l (k ∷ keys) m e = absurd (false≢true e)
can-mark (must w ∷ nodes) l [] m e = absurd (false≢true e)
can-mark (must w ∷ nodes) l (k ∷ keys) m e =
    let p = and_both (led w) (all_led nodes) l in
    go (key_matches w k) refl e p.0 (can-mark nodes p.1 keys (with_letter m (k % code_count)))
  where
    go : (b : Bool) → key_matches w k ≡ b → (if b then greedy nodes keys otherwise false) ≡ true → led w ≡ true
        → (greedy nodes keys ≡ true → can_mark (mark_from (with_letter m (k % code_count)) keys) (with_letter m (k % code_count)) nodes ≡ true)
        → can_mark (mark_from (with_letter m (k % code_count)) keys) (with_letter m (code_of (first (bytes w)))) nodes ≡ true
    go true q f h ih = ap (λ (c : ℕ). can_mark (mark_from (with_letter m (k % code_count)) keys) (with_letter m c) nodes) (sym (first-letter w k h q)) ∙ ih f
    go false q f h ih = absurd (false≢true f)
can-mark (may w ∷ nodes) l [] m e =
    let p = and_both (led w) (all_led nodes) l in
    rw (can-mark nodes p.1 [] m e)
can-mark (may w ∷ nodes) l (k ∷ keys) m e =
    let p = and_both (led w) (all_led nodes) l in
    go (key_matches w k) refl e p.0 (can-mark nodes p.1 keys (with_letter m (k % code_count))) (can-mark nodes p.1 (k ∷ keys) m)
  where
    x : ℕ
    x = mark_from (with_letter m (k % code_count)) keys

    go : (b : Bool) → key_matches w k ≡ b → (if b then greedy nodes keys otherwise greedy nodes (k ∷ keys)) ≡ true → led w ≡ true
        → (greedy nodes keys ≡ true → can_mark x (with_letter m (k % code_count)) nodes ≡ true)
        → (greedy nodes (k ∷ keys) ≡ true → can_mark x m nodes ≡ true)
        → (can_mark x m nodes || can_mark x (with_letter m (code_of (first (bytes w)))) nodes) ≡ true
    go true q f h ih jh = or_right (can_mark x m nodes) (ap (λ (c : ℕ). can_mark x (with_letter m c) nodes) (sym (first-letter w k h q)) ∙ ih f)
    go false q f h ih jh = rw (jh f)

-- ---- a search that starts at the first row which passes a weaker test

module _ (p q ok : Row → Bool) (weaker : (r : Row) → ok r ≡ true → p r ≡ true → q r ≡ true) where
  first-from : (l : List Row) → every ok l ≡ true → first_fit p (drop (first_fit q l) l) + first_fit q l ≡ first_fit p l
  unfolding first_fit if◌then◌otherwise◌
  first-from [] e = refl
  first-from (r ∷ l) e =
      let t = and_both (ok r) (every ok l) e in
      go (q r) refl (p r) refl t.0 (first-from l t.1)
    where
      go : (a : Bool) → q r ≡ a → (b : Bool) → p r ≡ b → ok r ≡ true → first_fit p (drop (first_fit q l) l) + first_fit q l ≡ first_fit p l
          → first_fit p (drop (if a then 0 otherwise suc (first_fit q l)) (r ∷ l)) + (if a then 0 otherwise suc (first_fit q l)) ≡ (if b then 0 otherwise suc (first_fit p l))
      go true i b j o ih = rw j (omega arith)
      go false i true j o ih = absurd (false≢true (sym i ∙ weaker r o j))
      go false i false j o ih = omega arith

module _ (star : Bool) (keys : List ℕ) (asked : Bool) where
  abbrev marked_row : Row → Bool
  marked_row r = can_mark (mark_of star keys) (bool_byte r.star) r.nodes

  fits-marked : (r : Row) → led_row r ≡ true → fits_keys star keys asked r ≡ true → marked_row r ≡ true
  unfolding fits_keys
  fits-marked r l e =
      let a = and_both (same_bool star r.star) (has_form asked r.role && greedy r.nodes keys) e in
      let g = (and_both (has_form asked r.role) (greedy r.nodes keys) a.1).1 in
      let s = same-bool star r.star a.0 in
      ap (λ (b : Bool). can_mark (mark_of star keys) (bool_byte b) r.nodes) (sym s) ∙ can-mark r.nodes l keys (bool_byte star) g
    where
      same-bool : (a b : Bool) → same_bool a b ≡ true → a ≡ b
      same-bool true true k = refl
      same-bool true false k = absurd (false≢true k)
      same-bool false true k = absurd (false≢true k)
      same-bool false false k = refl

  -- the same row, or none
  pub same_row : first_fit (fits_keys star keys asked) (drop (start_of (mark_of star keys)) rows) + start_of (mark_of star keys) ≡ row_of_keys star keys asked
  unfolding start_of row_of_keys
  same_row = first-from (fits_keys star keys asked) marked_row led_row fits-marked rows rows-led

  pub start-most : start_of (mark_of star keys) ≤ row_count
  unfolding start_of
  start-most =
      let n = rows-many in
      let m = first-most marked_row rows in
      omega arith

-- ---- the loop over the names' first letters

pub record Marking (star : Bool) (keys : List ℕ) (letters i : ℕ) : Type 0 where
  pub on : mark_from letters (drop i keys) ≡ mark_of star keys
  pub few : letters < mark_count

pub marking-start : (star : Bool) (keys : List ℕ) → Marking star keys (bool_byte star) 0
marking-start star keys = record { on = refl; few = go star }
  where
    go : (s : Bool) → bool_byte s < mark_count
    go true = omega arith
    go false = omega arith

module _ {star : Bool} {keys : List ℕ} {letters i : ℕ} (m : Marking star keys letters i) where
  pub marking-on : i < length keys → Marking star keys (with_letter letters (get_or keys i 0 % code_count)) (i + 1)
  unfolding mark_from
  marking-on h = record { on = rw (drop-cons keys i 0 h, ← add-one i) at m.on; few = omega arith }

  pub marking-end : length keys ≤ i → Marked star keys letters
  unfolding mark_from
  marking-end h = record { is = rw (drop_of_length-le keys h) at m.on; small = m.few }
