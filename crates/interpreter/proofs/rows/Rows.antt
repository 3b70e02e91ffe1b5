-- The row table ties to the rows. A cell is what the definition put there (`cell`), and that a row's bytes give back its nodes and its forms is
-- computed once over all rows (`nodes-back`, `forms-back`).
use mathlib.Core.Path.{◌≡◌, refl, sym, ◌∙◌}
use mathlib.Core.Bool.{Bool, true, false, not, ◌&&◌}
use mathlib.Core.List.{List, [], ◌∷◌, ◌++◌, map}
use Prim.Native.Nat.{ℕ, suc, ◌+◌, ◌-◌, ◌≤◌, ◌<◌}
use native.Mathlib.Numerals.{add-one, add-two}
use native.Mathlib.Omega.{arith}
use lib.Bits.{bit_and}
use lib.Dec.{ltb, leb, eqb}
use lib.ListN.{length, get_or, drop, length-append, length-map, replicate, get_or-append}
use lib.Seq.{drop-cons}
use borrow.Author.Tests.{eq-eqb, ne_eqb, ltb-true, leb-true}
use Rattle.registers.specs.Text.{Text, if◌then◌otherwise◌, every, bytes, same, same_bool}
use Rattle.registers.specs.Words.{Node, must}
use Rattle.registers.specs.Settings.{table}
use Rattle.registers.proofs.Tests.{and_assoc}
use Rattle.interpreter.specs.Rows.{Row, plain, rows, setting_rows, other_rows, has_form}
use Rattle.interpreter.specs.DeedParts.{row_count}
use Rattle.interpreter.specs.TableParts.{node_count, node_list, node_at, node_byte, form_byte, row_row, row_table_of, row_table, most_nodes, row_size}
use Rattle.interpreter.specs.RowsParts.{greedy, fits_keys, node_of, word_in, row_cell, form_bit, formed}
use Rattle.interpreter.specs.WordsParts.{place_in}
use Rattle.interpreter.specs.declared.deed.Role.TheVariants.{Setting as setting}
use Rattle.interpreter.proofs.Lists.{every-at, map_at, get_d_map, cell_at}
use Rattle.interpreter.proofs.table.Lengths.{rows-many, rows-wide}

-- ---- computed once over all rows

abbrev pub few : Row → Bool
few r = leb (length r.nodes) most_nodes

-- a node's byte names a word
abbrev known : Node → Bool
known x = ltb (word_in (node_byte x)) node_count

abbrev all_known : Row → Bool
all_known r = every known r.nodes

-- the node that a node's byte stands for
abbrev back : Node → Node
back x = node_of (node_byte x)

abbrev itself : Node → Node
itself x = x

abbrev bit_set : Bool → Bool → Row → Bool
bit_set star asked r = not (eqb (bit_and (form_byte r) (form_bit star asked)) 0)

abbrev has : Bool → Bool → Row → Bool
has star asked r = same_bool star r.star && has_form asked r.role

pub rows_few : every few rows ≡ true
unfolding rows setting_rows other_rows table
rows_few = refl

nodes-known : every all_known rows ≡ true
unfolding rows setting_rows other_rows table node_byte word_in place_in node_list bytes same if◌then◌otherwise◌
nodes-known = refl

nodes-back : map (λ (r : Row). map back r.nodes) rows ≡ map (λ (r : Row). map itself r.nodes) rows
unfolding rows setting_rows other_rows table node_byte node_of word_in place_in node_at node_list bytes same if◌then◌otherwise◌
nodes-back = refl

-- a row's form byte has the bit of each form that the row has
forms-back : (star asked : Bool) → map (bit_set star asked) rows ≡ map (has star asked) rows
unfolding rows setting_rows other_rows table form_byte form_bit if◌then◌otherwise◌
forms-back true true = refl
forms-back true false = refl
forms-back false true = refl
forms-back false false = refl

-- ---- one row's cells

abbrev pub none : Row
none = plain [] (setting 0)

abbrev pub row_at : ℕ → Row
row_at r = get_or rows r none

module _ (r : ℕ) (h : r < row_count) where
  abbrev nodes : List Node
  nodes = (row_at r).nodes

  within : r < length rows
  within = let n = rows-many in omega arith

  cell : (i : ℕ) → row_cell r i ≡ get_or (row_row (row_at r) ++ row_table_of (drop (suc r) rows)) i 0
  unfolding row_table row_table_of row_cell
  cell i = cell_at row_row row_size row_table_of refl (λ x xs. refl) rows rows-wide r none within i

  pub count-cell : row_cell r 1 ≡ length nodes
  unfolding row_row
  count-cell = cell 1

  pub nodes-few : length nodes ≤ most_nodes
  nodes-few = leb-true (length nodes) most_nodes (every-at few rows r none rows_few within)

  module _ (j : ℕ) (l : j < length nodes) where
    abbrev node : Node
    node = get_or nodes j (must "")

    node-cell : row_cell r (j + 2) ≡ node_byte node
    unfolding row_row
    node-cell =
        let m = length-map nodes node_byte in
        let zeros : Text = replicate (6 - length nodes) 0 in
        let a = length-append (map node_byte nodes) zeros in
        rw (cell (j + 2), add-two j)
        (get_or-append (map node_byte nodes ++ zeros) (row_table_of (drop (suc r) rows)) 0 j (omega arith)
        ∙ get_or-append (map node_byte nodes) zeros 0 j (omega arith)
        ∙ get_d_map node_byte nodes j (must "") 0 l)

    pub node-known : word_in (row_cell r (j + 2)) < node_count
    node-known =
        rw node-cell
        (ltb-true (word_in (node_byte node)) node_count (every-at known nodes j (must "") (every-at all_known rows r none nodes-known within) l))

    node-is : node_of (row_cell r (j + 2)) ≡ node
    node-is =
        let row_back = map_at (λ (r : Row). map back r.nodes) (λ (r : Row). map itself r.nodes) rows nodes-back r none within in
        rw node-cell (map_at back itself nodes row_back j (must "") l)

    -- this node and those after it
    pub nodes-from : drop j nodes ≡ node_of (row_cell r (j + 2)) ∷ drop (j + 1) nodes
    nodes-from = rw (node-is, add-one j) (drop-cons nodes j (must "") l)

  -- ---- what it takes to fit

  module _ (star : Bool) (keys : List ℕ) (asked : Bool) where
    form-is : formed r (form_bit star asked) ≡ has star asked (row_at r)
    unfolding formed row_row
    form-is = rw (cell 0) (map_at (bit_set star asked) (has star asked) rows (forms-back star asked) r none within)

    pub fits-is : fits_keys star keys asked (row_at r) ≡ (formed r (form_bit star asked) && greedy nodes keys)
    unfolding fits_keys
    fits-is = rw form-is (sym (and_assoc (same_bool star (row_at r).star) (has_form asked (row_at r).role) (greedy nodes keys)))

-- ---- the form of a row as the search tests it

module _ (r bit x : ℕ) (is : x ≡ row_cell r 0) where
  pub unformed : bit_and x bit ≡ 0 → formed r bit ≡ false
  unfolding formed
  unformed e = rw (← is, eq-eqb (bit_and x bit) 0 e)

  pub is-formed : (bit_and x bit ≡ 0 → ⊥) → formed r bit ≡ true
  unfolding formed
  is-formed ne = rw (← is, ne_eqb (bit_and x bit) 0 ne)
