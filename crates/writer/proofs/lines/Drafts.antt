-- What a writer lays over the tail of a draft that it was lent is appended to the draft's text.
use mathlib.Core.Path.{◌≡◌, ◌∙◌, ap}
use mathlib.Core.List.{◌++◌}
use Prim.Native.Nat.{ℕ, ◌+◌, ◌-◌, ◌≤◌}
use native.Mathlib.Omega.{arith}
use lib.ListN.{length, take, drop, length-append, length-take, length-drop}
use lib.Seq.{take-append-add, take-append-le}
use borrow.Rule.Slice.PartMut.{mid_of, put_mid}
use Rattle.registers.specs.Text.{Text}
use Rattle.registers.specs.Answer.{Laid}
use Rattle.registers.proofs.answer.Laws.{over-start, over-length}

module _ (bytes old text tail : Text) (at n room : ℕ) (view : take at bytes ≡ old) (within : at ≤ length bytes) (long : length bytes ≡ room)
    (fits : length old + length text ≤ room) (laid : Laid text (mid_of at (room - at) bytes) n tail) where
  abbrev lent : Text
  lent = mid_of at (room - at) bytes

  abbrev after : Text
  after = drop (room - at) (drop at bytes)

  held : length (take at bytes) ≡ at
  held = simp length-take (omega arith)

  began : length old ≡ at
  began = rw view at held

  room-left : length text ≤ length lent
  room-left = let l : length lent ≡ room - at = simp (length-take, length-drop) (omega arith) in let f = began in omega arith

  tail-long : length text ≤ length tail
  tail-long = rw (laid.bytes, over-length text lent) room-left

  pub laid-end : at + n ≡ length old + length text
  laid-end = let f = began in let e = laid.long in omega arith

  pub laid-view : take (at + n) (put_mid at (room - at) bytes tail) ≡ old ++ text
  laid-view =
      let z : at + n ≡ length (take at bytes) + length text = let e = laid.long in let h = held in omega arith in
      let t : take (length text) tail ≡ text = rw laid.bytes (over-start text lent room-left) in
      rw (z, ← view) (take-append-add (take at bytes) (tail ++ after) (length text)
      ∙ ap (λ (y : Text). take at bytes ++ y) (take-append-le (length text) tail after tail-long ∙ t))

  pub laid-within : at + n ≤ length (put_mid at (room - at) bytes tail)
  laid-within =
      let h = held in
      let e = laid.long in
      let t = tail-long in
      simp length-append (omega arith)
