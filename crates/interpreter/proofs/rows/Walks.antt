-- Laws of one step of a walk over a row's nodes.
use mathlib.Core.Path.{◌≡◌}
use mathlib.Core.Bool.{Bool, true, false}
use mathlib.Core.List.{List, ◌∷◌}
use Prim.Native.Nat.{ℕ, ◌+◌, ◌≤◌, ◌<◌}
use native.Mathlib.Numerals.{add-one}
use native.Mathlib.Omega.{arith}
use lib.Dec.{ltb}
use lib.ListN.{length, get_or, drop, drop_of_length-le}
use lib.Seq.{drop-cons}
use Rattle.std.specs.Prelude.{Some, None}
use Rattle.registers.specs.Text.{if◌then◌otherwise◌}
use Rattle.registers.specs.Words.{Node, must, may}
use Rattle.interpreter.specs.TableParts.{node_at, optional}
use Rattle.interpreter.specs.RowsParts.{key_matches, greedy, word_in, node_of, left_out, Walked}

module _ (node : ℕ) (keys : List ℕ) (at : ℕ) where
  -- a node that is not spelled is missed, or left out if it is optional
  left-out : at ≤ length keys
      → ((nodes : List Node) → greedy (must (node_at (word_in node)) ∷ nodes) (drop at keys) ≡ false)
      → ((nodes : List Node) → greedy (may (node_at (word_in node)) ∷ nodes) (drop at keys) ≡ greedy nodes (drop at keys))
      → Walked (node_of node) keys at (left_out node at)
  unfolding node_of left_out if◌then◌otherwise◌
  left-out l m o = go (ltb node optional)
    where
      go : (b : Bool) → Walked (if b then must (node_at (word_in node)) otherwise may (node_at (word_in node))) keys at (if b then None otherwise Some at)
      go true = m
      go false = (o, l)

  -- no name is left
  pub walk_end : at ≤ length keys → length keys ≤ at → Walked (node_of node) keys at (left_out node at)
  unfolding greedy
  walk_end l h = left-out l (λ nodes. rw (drop_of_length-le keys h)) (λ nodes. rw (drop_of_length-le keys h))

  module _ (h : at < length keys) where
    pub walk-past : key_matches (node_at (word_in node)) (get_or keys at 0) ≡ false → Walked (node_of node) keys at (left_out node at)
    unfolding greedy if◌then◌otherwise◌
    walk-past e = left-out (omega arith) (λ nodes. rw (drop-cons keys at 0 h, e)) (λ nodes. rw (drop-cons keys at 0 h, e))

    pub walk-on : key_matches (node_at (word_in node)) (get_or keys at 0) ≡ true → Walked (node_of node) keys at (Some (at + 1))
    unfolding node_of greedy if◌then◌otherwise◌
    walk-on e = (λ nodes. go (ltb node optional) nodes, omega arith)
      where
        go : (b : Bool) (nodes : List Node)
            → greedy ((if b then must (node_at (word_in node)) otherwise may (node_at (word_in node))) ∷ nodes) (drop at keys)
            ≡ greedy nodes (drop (at + 1) keys)
        go true nodes = rw (drop-cons keys at 0 h, e, add-one at)
        go false nodes = rw (drop-cons keys at 0 h, e, add-one at)
