-- The rows' optional nodes can be tried greedily: a node that matches is taken, an optional one that doesn't is left out. This
-- is the walk of the code, over the names as numbers; `spells` tries every way. They agree where no optional node shares a spelling
-- with a later one, and every word's forms are at most eleven capitals.
use mathlib.Core.Path.{◌≡◌, refl, sym, ◌∙◌, ap}
use mathlib.Core.Bool.{Bool, true, false, not, ◌&&◌, ◌||◌, or-false}
use mathlib.Core.List.{List, [], ◌∷◌, map}
use Prim.Native.String.{String}
use borrow.Author.Tests.{not-true}
use Rattle.registers.specs.Text.{Text, if◌then◌otherwise◌, letter, digit, word_byte, every, empty, same, bytes, capital, small, first}
use Rattle.registers.specs.Words.{short_form, long_form, matches, Node, must, may}
use Rattle.registers.specs.Settings.{table}
use Rattle.registers.proofs.Tests.{and_both}
use Rattle.interpreter.specs.Header.{name, numbered, stem, suffix, node_matches, spells}
use Rattle.interpreter.specs.Rows.{Row, rows, setting_rows, other_rows}
use Rattle.interpreter.specs.NameParts.{key_of}
use Rattle.interpreter.specs.RowsParts.{greedy}
use Rattle.interpreter.proofs.Lists.{same-eq}
use Rattle.interpreter.proofs.table.Codes.{upper}
use Rattle.interpreter.proofs.table.Keys.{capitals, upper-whole, stem-whole, key-matches}

abbrev pub word_of : Node → String
word_of (must w) = w
word_of (may w) = w

-- a text in capitals is one of the word's two forms
abbrev form : String → Text → Bool
form w c = same c (short_form w) || same c (long_form w)

-- no text spells both words
apart : String → String → Bool
apart v w = not (form w (short_form v)) && not (form w (long_form v))

pub all_apart : String → List Node → Bool
all_apart w nodes = every (λ x. apart w (word_of x)) nodes

abbrev pub in_capitals : String → Bool
in_capitals w = capitals (short_form w) && capitals (long_form w)

-- each optional node is apart from every later one
unfoldable pub clear : List Node → Bool
clear [] = true
clear (must w ∷ nodes) = in_capitals w && clear nodes
clear (may w ∷ nodes) = in_capitals w && (not (numbered w) && (all_apart w nodes && clear nodes))

-- the one test over the table
pub rows-clear : every (λ (r : Row). clear r.nodes) rows ≡ true
unfolding rows setting_rows other_rows table numbered clear all_apart apart short_form long_form same bytes capital small if◌then◌otherwise◌
rows-clear = refl

-- ---- the law

-- a text that spells v spells no word apart from v
not-both : (v w : String) (n : Text) → apart v w ≡ true → matches v n ≡ true → matches w n ≡ false
unfolding apart matches
not-both v w n a h = go (same c (short_form v)) refl h (and_both (not (form w (short_form v))) (not (form w (long_form v))) a)
  where
    c : Text
    c = map capital n

    go : (b : Bool) → same c (short_form v) ≡ b → (b || same c (long_form v)) ≡ true
        → (not (form w (short_form v)) ≡ true) × (not (form w (long_form v)) ≡ true) → form w c ≡ false
    go true q k p = ap (form w) (same-eq c (short_form v) q) ∙ not-true _ p.0
    go false q k p = ap (form w) (same-eq c (long_form v) k) ∙ not-true _ p.1

-- nor with a suffix: capitals have none
pub upper-forms : (w : String) (n : Text) → in_capitals w ≡ true → matches w n ≡ true → empty (suffix n) ≡ true
unfolding matches
upper-forms w n c h = go (same (map capital n) (short_form w)) refl h
  where
    p : (capitals (short_form w) ≡ true) × (capitals (long_form w) ≡ true)
    p = and_both (capitals (short_form w)) (capitals (long_form w)) c

    go : (b : Bool) → same (map capital n) (short_form w) ≡ b → (b || same (map capital n) (long_form w)) ≡ true → empty (suffix n) ≡ true
    go true q k = upper-whole n (rw (same-eq (map capital n) (short_form w) q) (and_both (every upper (short_form w)) _ p.0).0)
    go false q k = upper-whole n (rw (same-eq (map capital n) (long_form w) k) (and_both (every upper (long_form w)) _ p.1).0)

none_both : (v w : String) (n : Text) → in_capitals v ≡ true → apart v w ≡ true → matches v n ≡ true → node_matches w n ≡ false
unfolding node_matches if◌then◌otherwise◌
none_both v w n c a h = go (numbered w)
  where
    none : matches w n ≡ false
    none = not-both v w n a h

    go : (b : Bool) → (if b then matches w (stem n) && every digit (suffix n) otherwise matches w n) ≡ false
    go true = rw (stem-whole n (upper-forms v n c h), none)
    go false = none

-- nodes that are apart from a word spell no names of which the first spells the word
spells-none : (w : String) (n : Text) → in_capitals w ≡ true → matches w n ≡ true → (names : List Text) (nodes : List Node) → all_apart w nodes ≡ true
    → spells nodes (n ∷ names) ≡ false
unfolding spells all_apart
spells-none w n c h names [] a = refl
spells-none w n c h names (must v ∷ nodes) a =
    let p = and_both (apart w v) (all_apart w nodes) a in
    rw (none_both w v n c p.0 h)
spells-none w n c h names (may v ∷ nodes) a =
    let p = and_both (apart w v) (all_apart w nodes) a in
    rw (spells-none w n c h names nodes p.1, none_both w v n c p.0 h)

-- an optional node takes no suffix
plain-node : (w : String) (n : Text) → not (numbered w) ≡ true → node_matches w n ≡ matches w n
unfolding node_matches if◌then◌otherwise◌
plain-node w n e = rw (not-true (numbered w) e)

name-words : (n : Text) → name n ≡ true → every word_byte n ≡ true
unfolding name
name-words n e = (and_both (letter (first n)) (every word_byte n) e).1

pub greedy-spells : (nodes : List Node) → clear nodes ≡ true → (names : List Text) → every name names ≡ true
    → greedy nodes (map key_of names) ≡ spells nodes names
unfolding greedy spells clear if◌then◌otherwise◌
greedy-spells [] c [] e = refl
greedy-spells [] c (n ∷ names) e = refl
greedy-spells (must w ∷ nodes) c [] e = refl
greedy-spells (must w ∷ nodes) c (n ∷ names) e =
    let p = and_both (in_capitals w) (clear nodes) c in
    let q = and_both (name n) (every name names) e in
    rw (key-matches w n (name-words n q.0) p.0) (go (node_matches w n) (greedy-spells nodes p.1 names q.1))
  where
    go : (m : Bool) → greedy nodes (map key_of names) ≡ spells nodes names
        → (if m then greedy nodes (map key_of names) otherwise false) ≡ (m && spells nodes names)
    go true ih = ih
    go false ih = refl
greedy-spells (may w ∷ nodes) c [] e =
    let p = and_both (in_capitals w) (not (numbered w) && (all_apart w nodes && clear nodes)) c in
    let s = and_both (not (numbered w)) (all_apart w nodes && clear nodes) p.1 in
    greedy-spells nodes (and_both (all_apart w nodes) (clear nodes) s.1).1 [] e
greedy-spells (may w ∷ nodes) c (n ∷ names) e =
    let p = and_both (in_capitals w) (not (numbered w) && (all_apart w nodes && clear nodes)) c in
    let s = and_both (not (numbered w)) (all_apart w nodes && clear nodes) p.1 in
    let r = and_both (all_apart w nodes) (clear nodes) s.1 in
    let q = and_both (name n) (every name names) e in
    let ih = greedy-spells nodes r.1 in
    rw (key-matches w n (name-words n q.0) p.0, plain-node w n s.0) (go (matches w n) refl (ih names q.1) (ih (n ∷ names) e) r.0 p.0)
  where
    go : (m : Bool) → matches w n ≡ m → greedy nodes (map key_of names) ≡ spells nodes names
        → greedy nodes (key_of n ∷ map key_of names) ≡ spells nodes (n ∷ names) → all_apart w nodes ≡ true → in_capitals w ≡ true
        → (if m then greedy nodes (map key_of names) otherwise greedy nodes (key_of n ∷ map key_of names))
        ≡ (spells nodes (n ∷ names) || (m && spells nodes names))
    go true q taken left a c = rw (spells-none w n c q names nodes a) taken
    go false q taken left a c = left ∙ sym (or-false (spells nodes (n ∷ names)))
