-- Where each cell stands in the one table of words, rows, numbers, codes and starts. The table is those five parts one after the
-- other, so a byte at a part's start and i is the part's byte i; a word's number is eight such bytes, low byte first.
use mathlib.Core.Path.{◌≡◌, refl, sym, ◌∙◌, ap}
use mathlib.Core.List.{◌++◌}
use Prim.Native.Nat.{ℕ, zero, suc, ◌+◌, ◌*◌, ◌<◌, ◌≤◌}
use native.Mathlib.Omega.{arith}
use Rattle.std.specs.Int.{w64, from_le_bytes}
use lib.ListN.{length, get_or, take, drop, get_or-append}
use lib.Seq.{drop-append-le, drop-append-add, drop-drop, get_or-append-add}
use Rattle.registers.specs.Text.{Text, if◌then◌otherwise◌}
use Rattle.registers.specs.Words.{short_form, long_form}
use Rattle.interpreter.specs.NameParts.{code_of, word_key}
use Rattle.interpreter.specs.WordsParts.{word_bytes, word_count, word_table, word_cell, word_size}
use Rattle.interpreter.specs.DeedParts.{row_count}
use Rattle.interpreter.specs.TableParts.{key_bytes, first_key, first_code, first_start, node_count, node_list, node_at, row_table, eight, key_row, key_table_of, key_table, list_from, code_table, start_of, start_table, search_table, command_table, row_size, keys_size, byte_count, mark_count}
use Rattle.interpreter.specs.RowsParts.{row_cell, key_cell}
use Rattle.interpreter.proofs.Lists.{table_at}
use Rattle.interpreter.proofs.table.Lengths.{words_long, rows_long, nodes-many, keys-wide, keys-long, lists, codes-long}

-- ---- where a cell stands

list_at : (f : ℕ → ℕ) (i n k : ℕ) → k < n → get_or (list_from i n f) k 0 ≡ f (i + k)
unfolding list_from
list_at f i zero k h = absurd (omega arith)
list_at f i (suc n) zero h = let e : i ≡ i + 0 = omega arith in ap f e
list_at f i (suc n) (suc k) h = let e : suc i + k ≡ i + suc k = omega arith in list_at f (suc i) n k (omega arith) ∙ ap f e

pub word-byte : (w i : ℕ) → w < word_count → i < word_size → get_or command_table (w * word_size + i) 0 ≡ word_cell w i
unfolding command_table word_cell
word-byte w i h k = let l = words_long in get_or-append word_table search_table 0 (w * word_size + i) (omega arith)

after-words : (i : ℕ) → get_or command_table (word_bytes + i) 0 ≡ get_or search_table i 0
unfolding command_table
after-words i =
    let l = words_long in
    let e : word_bytes + i ≡ length word_table + i = omega arith in
    rw e (get_or-append-add word_table search_table i 0)

pub row-byte : (r i : ℕ) → r < row_count → i < row_size → get_or command_table (word_bytes + r * row_size + i) 0 ≡ row_cell r i
unfolding search_table row_cell
row-byte r i h k =
    let l = rows_long in
    let e : word_bytes + r * row_size + i ≡ word_bytes + (r * row_size + i) = omega arith in
    rw e (after-words (r * row_size + i) ∙ get_or-append row_table (key_table ++ lists) 0 (r * row_size + i) (omega arith))

-- a byte of what comes after the numbers
after-keys : (i : ℕ) → get_or command_table (first_code + i) 0 ≡ get_or lists i 0
unfolding search_table
after-keys i =
    let r = rows_long in
    let k = keys-long in
    let e : first_code + i ≡ word_bytes + (length row_table + (length key_table + i)) = omega arith in
    rw e
    (after-words (length row_table + (length key_table + i))
    ∙ get_or-append-add row_table (key_table ++ lists) (length key_table + i) 0
    ∙ get_or-append-add key_table lists i 0)

pub code-byte : (b : ℕ) → b < byte_count → get_or command_table (first_code + b) 0 ≡ code_of b
unfolding code_table
code-byte b h =
    let c = codes-long in
    let z : 0 + b ≡ b = omega arith in
    after-keys b ∙ get_or-append code_table start_table 0 b (omega arith) ∙ list_at code_of 0 byte_count b h ∙ ap code_of z

pub start-byte : (x : ℕ) → x < mark_count → get_or command_table (first_start + x) 0 ≡ start_of x
unfolding start_table
start-byte x h =
    let c = codes-long in
    let e : first_start + x ≡ first_code + (length code_table + x) = omega arith in
    let z : 0 + x ≡ x = omega arith in
    rw e (after-keys (length code_table + x) ∙ get_or-append-add code_table start_table x 0) ∙ list_at start_of 0 mark_count x h ∙ ap start_of z

-- ---- the numbers of a node's word

-- what is left of the table at a word's numbers
keys_from : (x : ℕ) → x ≤ key_bytes → drop (first_key + x) command_table ≡ drop x key_table ++ lists
unfolding command_table search_table
keys_from x h =
    let w = words_long in
    let r = rows_long in
    let k = keys-long in
    let e : first_key + x ≡ length word_table + (length row_table + x) = omega arith in
    rw e
    (drop-append-add word_table (row_table ++ (key_table ++ lists)) (length row_table + x)
    ∙ drop-append-add row_table (key_table ++ lists) x
    ∙ drop-append-le x key_table lists (omega arith))

-- eight bytes as a number
pub eight-worth : (n : ℕ) → from_le_bytes w64 (eight n) ≡ n
eight-worth n = omega arith

module _ (w : ℕ) (h : w < node_count) where
  abbrev more : Text
  more = key_table_of (drop (suc w) node_list) ++ lists

  word-keys : drop (first_key + w * keys_size) command_table ≡ eight (word_key (short_form (node_at w))) ++ (eight (word_key (long_form (node_at w))) ++ more)
  unfolding key_table key_table_of key_row node_at
  word-keys =
      let n = nodes-many in
      keys_from (w * keys_size) (omega arith) ∙ rw (table_at key_row keys_size key_table_of refl (λ x xs. refl) node_list keys-wide w "" (omega arith))

  pub key-read : (i : ℕ) → i < 2 → take 8 (drop (first_key + w * keys_size + i * 8) command_table) ≡ eight (key_cell w i)
  unfolding key_cell if◌then◌otherwise◌
  key-read zero k =
      let e : first_key + w * keys_size + 0 * 8 ≡ first_key + w * keys_size = omega arith in
      rw e (ap (take 8) word-keys)
  key-read (suc zero) k =
      let d : drop (first_key + w * keys_size + 8) command_table ≡ eight (word_key (long_form (node_at w))) ++ more =
      sym (drop-drop 8 (first_key + w * keys_size) command_table) ∙ ap (drop 8) word-keys in
      ap (take 8) d
  key-read (suc (suc i)) k = absurd (omega arith)
