-- The suffix of a header by its names' numbers: the first of them that is one. The four nodes that take one stand first in the list of
-- words.
use mathlib.Core.Path.{◌≡◌, refl}
use mathlib.Core.Bool.{Bool, true, false}
use mathlib.Core.List.{List, [], ◌∷◌, map}
use Prim.Native.Nat.{ℕ, ◌+◌, ◌/◌, ◌≤◌, ◌<◌}
use native.Mathlib.Numerals.{add-one}
use lib.Dec.{ltb}
use lib.ListN.{length, get_or, drop, drop_of_length-le}
use lib.Seq.{drop-cons}
use borrow.Author.Tests.{eq-eqb, ne_eqb}
use Rattle.registers.specs.Text.{Text, if◌then◌otherwise◌, bytes, same, letter, word_byte, every, empty, first}
use Rattle.registers.proofs.Tests.{and_both}
use Rattle.interpreter.specs.Header.{name, numbered, suffix, suffix_in}
use Rattle.interpreter.specs.NameParts.{class_of, key_of, suffix_place}
use Rattle.interpreter.specs.TableParts.{node_count, numbered_count, node_at, node_list}
use Rattle.interpreter.specs.RowsParts.{class_in}
use Rattle.interpreter.proofs.Lists.{listed, agree}
use Rattle.interpreter.proofs.table.Keys.{key-class, class-none}

pub numbered_is : (w : ℕ) → w < node_count → numbered (node_at w) ≡ ltb w numbered_count
unfolding listed numbered node_at node_list bytes same
numbered_is w h = agree node_count (λ k. numbered (node_at k)) (λ k. ltb k numbered_count) refl w h

-- ---- the loop over the names

module _ (keys : List ℕ) (i : ℕ) where
  module _ (h : i < length keys) where
    pub class-hit : (get_or keys i 0 / suffix_place ≡ 0 → ⊥) → class_in (drop i keys) ≡ class_in keys → get_or keys i 0 / suffix_place ≡ class_in keys
    unfolding class_in if◌then◌otherwise◌
    class-hit ne e = rw (drop-cons keys i 0 h, ne_eqb (get_or keys i 0 / suffix_place) 0 ne) at e

    pub class-skip : get_or keys i 0 / suffix_place ≡ 0 → class_in (drop i keys) ≡ class_in keys → class_in (drop (i + 1) keys) ≡ class_in keys
    unfolding class_in if◌then◌otherwise◌
    class-skip z e = rw (add-one i) (rw (drop-cons keys i 0 h, eq-eqb (get_or keys i 0 / suffix_place) 0 z) at e)

  pub class-end : length keys ≤ i → class_in (drop i keys) ≡ class_in keys → 0 ≡ class_in keys
  unfolding class_in
  class-end h e = rw (drop_of_length-le keys h) at e

-- ---- the names' suffix is that of their numbers

name-bytes : (n : Text) → name n ≡ true → every word_byte n ≡ true
unfolding name
name-bytes n e = (and_both (letter (first n)) (every word_byte n) e).1

pub class-names : (names : List Text) → every name names ≡ true → class_in (map key_of names) ≡ class_of (suffix_in names)
unfolding class_in suffix_in class_of if◌then◌otherwise◌
class-names [] e = refl
class-names (n ∷ names) e =
    let p = and_both (name n) (every name names) e in
    rw (key-class n (name-bytes n p.0), class-none (suffix n)) (go (empty (suffix n)) (class-names names p.1))
  where
    go : (b : Bool) → class_in (map key_of names) ≡ class_of (suffix_in names)
        → (if b then class_in (map key_of names) otherwise class_of (suffix n)) ≡ class_of (if b then suffix_in names otherwise suffix n)
    go true ih = ih
    go false ih = refl
