-- How long the table's parts are, and so the table: that each word, each row and each node's two numbers have their size is computed once
-- over all of them.
use mathlib.Core.Path.{◌≡◌, refl, ◌∙◌, ap}
use mathlib.Core.Bool.{Bool, true, false}
use mathlib.Core.List.{List, [], ◌∷◌, ◌++◌}
use Prim.Native.Nat.{ℕ, zero, suc, ◌+◌, ◌≤◌}
use Prim.Native.String.{String}
use native.Mathlib.Omega.{arith}
use lib.Dec.{eqb}
use lib.ListN.{length, length-append}
use Rattle.registers.specs.Text.{Text, if◌then◌otherwise◌, bytes, small, capital, every}
use Rattle.registers.specs.Words.{short_form, long_form}
use Rattle.registers.specs.Settings.{table}
use Rattle.interpreter.specs.Rows.{Row, rows, setting_rows, other_rows}
use Rattle.interpreter.specs.NameParts.{code_of}
use Rattle.interpreter.specs.DeedParts.{row_count}
use Rattle.interpreter.specs.TableParts.{table_bytes, row_bytes, key_bytes, node_count, node_list, row_row, row_table_of, row_table, key_row, key_table_of, key_table, list_from, code_table, first_fit, start_of, start_table, search_table, command_table, row_size, keys_size, byte_count, mark_count}
use Rattle.interpreter.specs.WordsParts.{word_bytes, word_count, word_list, word_row, word_table_of, word_table, word_size}
use Rattle.interpreter.proofs.Lists.{table-length}

-- ---- the words

abbrev pub word_wide : String → Bool
word_wide w = eqb (length (word_row w)) word_size

pub words-wide : every word_wide word_list ≡ true
unfolding word_list word_row short_form long_form bytes small capital if◌then◌otherwise◌
words-wide = refl

pub words-many : length word_list ≡ word_count
unfolding word_list
words-many = refl

pub words_long : length word_table ≡ word_bytes
unfolding word_table word_table_of
words_long =
    let n = words-many in
    let e = table-length word_row word_size word_table_of refl (λ x xs. refl) word_list words-wide in
    omega arith

-- ---- the rows

abbrev pub row_wide : Row → Bool
row_wide r = eqb (length (row_row r)) row_size

pub rows-wide : every row_wide rows ≡ true
unfolding rows setting_rows other_rows table row_row
rows-wide = refl

pub rows-many : length rows ≡ row_count
unfolding rows setting_rows other_rows table
rows-many = refl

pub rows_long : length row_table ≡ row_bytes
unfolding row_table row_table_of
rows_long =
    let n = rows-many in
    let e = table-length row_row row_size row_table_of refl (λ x xs. refl) rows rows-wide in
    omega arith

-- ---- the numbers of the nodes' words

abbrev pub key_wide : String → Bool
key_wide w = eqb (length (key_row w)) keys_size

pub keys-wide : every key_wide node_list ≡ true
unfolding node_list key_row
keys-wide = refl

pub nodes-many : length node_list ≡ node_count
unfolding node_list
nodes-many = refl

pub keys-long : length key_table ≡ key_bytes
unfolding key_table key_table_of
keys-long =
    let n = nodes-many in
    let e = table-length key_row keys_size key_table_of refl (λ x xs. refl) node_list keys-wide in
    omega arith

-- ---- the codes and the starts

list_length : (f : ℕ → ℕ) (i n : ℕ) → length (list_from i n f) ≡ n
unfolding list_from
list_length f i zero = refl
list_length f i (suc n) = ap suc (list_length f (suc i) n)

-- what comes after the numbers
abbrev pub lists : Text
lists = code_table ++ start_table

pub codes-long : length code_table ≡ byte_count
unfolding code_table
codes-long = list_length code_of 0 byte_count

lists-long : length lists ≡ byte_count + mark_count
unfolding start_table
lists-long = let c = codes-long in let s = list_length start_of 0 mark_count in length-append code_table start_table ∙ omega arith

-- ---- the whole

search-long : length search_table ≡ row_bytes + (key_bytes + (byte_count + mark_count))
unfolding search_table
search-long =
    let r = rows_long in
    let k = keys-long in
    let c = lists-long in
    omega (arith, length-append row_table (key_table ++ lists), length-append key_table lists)

pub commands-long : length command_table ≡ table_bytes
unfolding command_table
commands-long = let w = words_long in let s = search-long in omega (arith, length-append word_table search_table)

-- a search among rows ends at the last at most
pub first-most : (p : Row → Bool) (l : List Row) → first_fit p l ≤ length l
unfolding first_fit if◌then◌otherwise◌
first-most p [] = omega arith
first-most p (r ∷ l) = go (p r) (first-most p l)
  where
    go : (b : Bool) → first_fit p l ≤ length l → (if b then 0 otherwise suc (first_fit p l)) ≤ suc (length l)
    go true h = omega arith
    go false h = omega arith
