-- The search for a row. `Seeking`, its invariant over the rows: the first fit among those left is the first of all. `Trying`, its invariant
-- within a row: the nodes left against the names left decide as all nodes do.
use mathlib.Core.Path.{◌≡◌, refl, sym, ◌∙◌, ap, subst}
use mathlib.Core.Bool.{Bool, true, false}
use mathlib.Core.List.{List, [], ◌∷◌}
use Prim.Native.Nat.{ℕ, suc, ◌+◌, ◌≤◌, ◌<◌}
use native.Mathlib.Numerals.{add-one}
use native.Mathlib.Omega.{arith}
use lib.ListN.{length, drop, drop_of_length-le}
use lib.Seq.{drop-cons}
use borrow.Author.Tests.{lt-ltb, le-ltb, ltb-true, ltb-false}
use Rattle.std.proofs.lemmas.Option.{none-some}
use lib.Dec.{ltb}
use Rattle.registers.specs.Text.{if◌then◌otherwise◌}
use Rattle.registers.specs.Words.{Node}
use Rattle.registers.proofs.Tests.{and-fails}
use Rattle.interpreter.specs.Rows.{rows}
use Rattle.interpreter.specs.DeedParts.{row_count}
use Rattle.interpreter.specs.TableParts.{first_fit, mark_of, start_of}
use Rattle.interpreter.specs.RowsParts.{greedy, fits_keys, row_of_keys, found, node_of, row_cell, form_bit, formed, Walked}
use Rattle.std.specs.Prelude.{Option, Some, None}
use Rattle.interpreter.proofs.rows.Start.{same_row, start-most}
use Rattle.interpreter.proofs.table.Lengths.{rows-many}
use Rattle.interpreter.proofs.rows.Rows.{none, row_at, count-cell, nodes-from, fits-is}

-- ---- over the rows

-- no row before this one fits
pub record Seeking (star : Bool) (keys : List ℕ) (asked : Bool) (r : ℕ) : Type 0 where
  pub most : r ≤ row_count
  pub left : first_fit (fits_keys star keys asked) (drop r rows) + r ≡ row_of_keys star keys asked

some-found : (r n : ℕ) → r < row_count → r ≡ n → Some r ≡ found n
unfolding found if◌then◌otherwise◌
some-found r n h e = rw (← e, lt-ltb r row_count h)

none-found : (n : ℕ) → row_count ≤ n → None ≡ found n
unfolding found if◌then◌otherwise◌
none-found n h = rw (le-ltb n row_count h)

-- and what its answer says of it
pub row-found : (r n : ℕ) → found n ≡ Some r → (n ≡ r) × (r < row_count)
unfolding found if◌then◌otherwise◌
row-found r n e = go (ltb n row_count) refl e
  where
    go : (b : Bool) → ltb n row_count ≡ b → (if b then Some n otherwise None) ≡ Some r → (n ≡ r) × (r < row_count)
    go true q k = let s : n ≡ r = cc in let h = ltb-true n row_count q in (s, omega arith)
    go false q k = absurd (none-some r k)

pub no-row : (n : ℕ) → found n ≡ None → row_count ≤ n
unfolding found if◌then◌otherwise◌
no-row n e = go (ltb n row_count) refl e
  where
    go : (b : Bool) → ltb n row_count ≡ b → (if b then Some n otherwise None) ≡ None → row_count ≤ n
    go true q k = absurd (none-some n (sym k))
    go false q k = ltb-false n row_count q

module _ {star : Bool} {keys : List ℕ} {asked : Bool} where
  pub seek-start : {r : ℕ} → r ≡ start_of (mark_of star keys) → Seeking star keys asked r
  seek-start e = rw e (record { most = start-most star keys asked; left = same_row star keys asked })

  pub seek-end : {r : ℕ} → Seeking star keys asked r → row_count ≤ r → None ≡ found (row_of_keys star keys asked)
  unfolding first_fit
  seek-end {r} s h =
      let n = rows-many in
      let l : length rows ≤ r = omega arith in
      let e : 0 + r ≡ row_of_keys star keys asked = rw (drop_of_length-le rows l) at s.left in
      none-found (row_of_keys star keys asked) (omega arith)

  module _ {r : ℕ} (s : Seeking star keys asked r) (h : r < row_count) where
    within : r < length rows
    within = let n = rows-many in omega arith

    skip : fits_keys star keys asked (row_at r) ≡ false → Seeking star keys asked (r + 1)
    unfolding first_fit if◌then◌otherwise◌
    skip e =
        let k : suc (first_fit (fits_keys star keys asked) (drop (suc r) rows)) + r ≡ row_of_keys star keys asked =
        rw (drop-cons rows r none within, e) at s.left in
        record { most = omega arith; left = rw (add-one r) (omega arith) }

    pub skip-form : formed r (form_bit star asked) ≡ false → Seeking star keys asked (r + 1)
    skip-form e = skip (fits-is r h star keys asked ∙ rw e)

    skip-walk : greedy (row_at r).nodes keys ≡ false → Seeking star keys asked (r + 1)
    skip-walk e = skip (fits-is r h star keys asked ∙ and-fails (formed r (form_bit star asked)) (greedy (row_at r).nodes keys) e)

    hit : formed r (form_bit star asked) ≡ true → greedy (row_at r).nodes keys ≡ true → Some r ≡ found (row_of_keys star keys asked)
    unfolding first_fit if◌then◌otherwise◌
    hit e f =
        let k : 0 + r ≡ row_of_keys star keys asked = rw (drop-cons rows r none within, fits-is r h star keys asked, e, f) at s.left in
        some-found r _ h (omega arith)

-- ---- over the nodes of one row

-- the first j of the row's n nodes are taken or left out, and the names that are left start at a place
pub record Trying (star asked : Bool) (keys : List ℕ) (n row at j : ℕ) : Type 0 where
  pub known : row < row_count
  pub seek : Seeking star keys asked row
  pub form : formed row (form_bit star asked) ≡ true
  pub count : n ≡ length (row_at row).nodes
  pub within : at ≤ length keys
  pub on : greedy (row_at row).nodes keys ≡ greedy (drop j (row_at row).nodes) (drop at keys)

pub try-start : {star asked : Bool} {keys : List ℕ} {row n : ℕ} → row < row_count → Seeking star keys asked row
    → formed row (form_bit star asked) ≡ true → n ≡ row_cell row 1 → Trying star asked keys n row 0 0
try-start {row = row} h s f e = record { known = h; seek = s; form = f; count = e ∙ count-cell row h; within = omega arith; on = refl }

module _ {star asked : Bool} {keys : List ℕ} {n row at j : ℕ} (w : Trying star asked keys n row at j) where
  abbrev nodes : List Node
  nodes = (row_at row).nodes

  -- one node more, and where the walk goes on
  module _ (h : j < n) (x : ℕ) (cell : x ≡ row_cell row (j + 2)) (k : Option ℕ) (f : Walked (node_of x) keys at k) where
    one-more : greedy nodes keys ≡ greedy (node_of x ∷ drop (j + 1) nodes) (drop at keys)
    one-more =
        let c = w.count in
        w.on ∙ ap (λ (ns : List Node). greedy ns (drop at keys)) (rw cell (nodes-from row w.known j (omega arith)))

    pub try-on : {next : ℕ} → k ≡ Some next → Trying star asked keys n row next (j + 1)
    try-on {next} e =
        let g = subst (λ (k : Option ℕ). Walked (node_of x) keys at k) e f in
        record {
          known = w.known;
          seek = w.seek;
          form = w.form;
          count = w.count;
          within = g.1;
          on = one-more ∙ g.0 (drop (j + 1) nodes);
        }

    pub try-missed : k ≡ None → Seeking star keys asked (row + 1)
    try-missed e =
        let g = subst (λ (k : Option ℕ). Walked (node_of x) keys at k) e f in
        skip-walk w.seek w.known (one-more ∙ g (drop (j + 1) nodes))

  module _ (h : n ≤ j) where
    no-nodes : drop j nodes ≡ []
    no-nodes = let c = w.count in let l : length nodes ≤ j = omega arith in drop_of_length-le nodes l

    pub try-left : at < length keys → Seeking star keys asked (row + 1)
    unfolding greedy
    try-left k = skip-walk w.seek w.known (w.on ∙ rw (no-nodes, drop-cons keys at 0 k))

    pub try-done : length keys ≤ at → Some row ≡ found (row_of_keys star keys asked)
    unfolding greedy
    try-done k = hit w.seek w.known w.form (w.on ∙ rw (no-nodes, drop_of_length-le keys k))
