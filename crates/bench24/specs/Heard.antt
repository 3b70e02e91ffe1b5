-- "A program over it reads lines from standard input and writes each answer": what the program has heard of one read, and since power-up.
-- No contract can say which bytes the system read or wrote: the kit's read promises nothing of the bytes, its write nothing of its answer.
use Rattle.std.specs.Prelude.{◌≡◌, true, ℕ, ◌≤◌, ◌<◌, min, length, take, Result, Ok, Err, IsOk, IsErr}
use Rattle.std.specs.declared.io.Error.{Error}
use Rattle.registers.specs.Text.{Text}
use Rattle.interpreter.specs.Box.{Memory, power_up}
use Rattle.interpreter.specs.State.{box_of, possible_state}
use Rattle.interpreter.specs.Server.{lines_of, WholeLines, heard, answers_to}
use Rattle.interpreter.specs.declared.state.State.{State}
use Rattle.bench24.specs.declared.Closed.{Closed}

-- these bytes are the answers to the first part of what was read, with the store as it was then: serving the part has changed it
pub record Answers (start : State) (input : Text) (read : ℕ) (answers : Text) : Type 0 where
  pub store : Memory
  pub are : answers ≡ answers_to (box_of start store) (lines_of (take read input))

-- of what was read a first part was heard, in whole lines: each line was received once and in order, and an answer that then waited was
-- taken. The part is never empty, and it is all that was read where the bench still serves
pub record HeardPart (start : State) (m : Memory) (input : Text) (served : Result (Unit {0}) Closed) (r : State) (n : Memory) : Type 0 where
  pub possible : possible_state r ≡ true
  pub bytes : ℕ
  pub within : bytes ≤ length input
  pub whole : WholeLines bytes input
  pub box : box_of r n ≡ heard (box_of start m) (lines_of (take bytes input))
  pub some : 0 < length input → 0 < bytes
  pub all : IsOk served → bytes ≡ length input

-- how many bytes of a buffer a read's answer speaks of: none where it failed, and never more than there are
abbrev pub clamp_len : Result ℕ Error → ℕ → ℕ
clamp_len (Ok n) most = min n most
clamp_len (Err e) most = 0

-- that is so of all bytes that a read put into the buffer, as many as it answered. Where there are none the bench is closed
pub record HeardRead (start : State) (m : Memory) (buffer : Text) (got : Result ℕ Error) (served : Result (Unit {0}) Closed) (r : State) (n : Memory)
    : Type 0 where
  pub part : HeardPart start m (take (clamp_len got (length buffer)) buffer) served r n
  pub ended : clamp_len got (length buffer) ≡ 0 → IsErr served

-- since power-up, with the memory m there, the lines of some bytes were heard, however reads cut them
pub record HeardSince (m : Memory) (r : State) (n : Memory) : Type 0 where
  pub possible : possible_state r ≡ true
  pub bytes : Text
  pub box : box_of r n ≡ heard (power_up m) (lines_of bytes)
