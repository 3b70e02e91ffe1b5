-- A header that a row spells has at most one suffix, so that the first one (`suffix_in`) is the one: a name spells a node that takes none
-- only where it has none, and no row has two nodes that take one.
use mathlib.Core.Path.{◌≡◌, refl, sym, ◌∙◌}
use mathlib.Core.Bool.{Bool, true, false, not, ◌&&◌, ◌||◌, false≢true}
use mathlib.Core.List.{List, [], ◌∷◌}
use Prim.Native.Nat.{ℕ, ◌+◌, ◌≤◌}
use Prim.Native.String.{String}
use native.Mathlib.Omega.{arith}
use lib.Dec.{leb}
use Rattle.registers.specs.Text.{Text, if◌then◌otherwise◌, bytes, same, digit, every, empty}
use Rattle.registers.specs.Words.{Node, must, may, matches}
use Rattle.registers.specs.Settings.{table}
use Rattle.registers.proofs.Tests.{and_both}
use Rattle.interpreter.specs.Header.{numbered, stem, suffix, node_matches, spells}
use Rattle.interpreter.specs.Rows.{Row, rows, setting_rows, other_rows}
use Rattle.interpreter.proofs.rows.Greedy.{word_of, in_capitals, all_apart, clear, upper-forms}

-- how many nodes take a suffix, and how many names have one
abbrev taking : String → ℕ
taking w = if numbered w then 1 otherwise 0

abbrev having : Text → ℕ
having n = if empty (suffix n) then 0 otherwise 1

pub takers : List Node → ℕ
takers [] = 0
takers (x ∷ nodes) = taking (word_of x) + takers nodes

pub suffixes : List Text → ℕ
suffixes [] = 0
suffixes (n ∷ names) = having n + suffixes names

-- no row has two nodes that take one
pub one-taker : every (λ (r : Row). leb (takers r.nodes) 1) rows ≡ true
unfolding rows setting_rows other_rows table numbered takers bytes same if◌then◌otherwise◌
one-taker = refl

node-suffix : (w : String) (n : Text) → in_capitals w ≡ true → node_matches w n ≡ true → having n ≤ taking w
unfolding node_matches if◌then◌otherwise◌
node-suffix w n c m = go (numbered w) (empty (suffix n)) refl m
  where
    go : (a b : Bool) → empty (suffix n) ≡ b → (if a then matches w (stem n) && every digit (suffix n) otherwise matches w n) ≡ true → (if b then 0 otherwise 1) ≤ (if a then 1 otherwise 0)
    go true true e k = omega arith
    go true false e k = omega arith
    go false true e k = omega arith
    go false false e k = absurd (false≢true (sym e ∙ upper-forms w n c k))

pub one-suffix : (nodes : List Node) → clear nodes ≡ true → (names : List Text) → spells nodes names ≡ true → suffixes names ≤ takers nodes
unfolding spells clear takers suffixes
one-suffix [] c [] e = omega arith
one-suffix [] c (n ∷ names) e = absurd (false≢true e)
one-suffix (must w ∷ nodes) c [] e = absurd (false≢true e)
one-suffix (must w ∷ nodes) c (n ∷ names) e =
    let p = and_both (in_capitals w) (clear nodes) c in
    let q = and_both (node_matches w n) (spells nodes names) e in
    let a = node-suffix w n p.0 q.0 in
    let ih = one-suffix nodes p.1 names q.1 in
    omega (arith, a, ih)
one-suffix (may w ∷ nodes) c [] e =
    let p = and_both (in_capitals w) (not (numbered w) && (all_apart w nodes && clear nodes)) c in
    let s = and_both (not (numbered w)) (all_apart w nodes && clear nodes) p.1 in
    let ih = one-suffix nodes (and_both (all_apart w nodes) (clear nodes) s.1).1 [] e in
    omega (arith, ih)
one-suffix (may w ∷ nodes) c (n ∷ names) e =
    let p = and_both (in_capitals w) (not (numbered w) && (all_apart w nodes && clear nodes)) c in
    let s = and_both (not (numbered w)) (all_apart w nodes && clear nodes) p.1 in
    let r = (and_both (all_apart w nodes) (clear nodes) s.1).1 in
    go (spells nodes (n ∷ names)) refl e (one-suffix nodes r (n ∷ names)) (one-suffix nodes r names) p.0
  where
    go : (b : Bool) → spells nodes (n ∷ names) ≡ b → (b || (node_matches w n && spells nodes names)) ≡ true
        → (spells nodes (n ∷ names) ≡ true → having n + suffixes names ≤ takers nodes)
        → (spells nodes names ≡ true → suffixes names ≤ takers nodes) → in_capitals w ≡ true
        → having n + suffixes names ≤ taking w + takers nodes
    go true q k left taken c = let h = left q in omega (arith, h)
    go false q k left taken c =
        let m = and_both (node_matches w n) (spells nodes names) k in
        let a = node-suffix w n c m.0 in
        let h = taken m.1 in
        omega (arith, a, h)
