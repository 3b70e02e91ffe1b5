-- *SAV and *RCL, once the lock let them pass: the block that the code writes or reads is the definition's.
use mathlib.Core.Path.{◌≡◌, refl, sym, ◌∙◌}
use mathlib.Core.Bool.{true, false}
use Rattle.std.specs.Prelude.{Err}
use Prim.Native.Nat.{ℕ, ◌+◌, ◌-◌, ◌*◌}
use native.Mathlib.Omega.{arith}
use lib.ListN.{take, drop}
use lib.Seq.{drop-drop}
use borrow.Rule.Slice.PartMut.{put_mid}
use Rattle.registers.specs.Text.{Text}
use Rattle.registers.specs.Check.{passed, check, ◌>>=◌, ◌>>◌}
use Rattle.registers.specs.Setup.{block_size, block_of, said_in, recallable, block_at, saved_at}
use Rattle.registers.specs.declared.error.Error.TheVariants.{SaveRecallMemoryLost}
use Rattle.registers.specs.declared.settings.Settings.{Settings}
use Rattle.registers.proofs.setup.Laws.{said-recalled}
use Rattle.interpreter.specs.Box.{memory}
use Rattle.interpreter.specs.Perform.{permitted, set_up, perform}
use Rattle.interpreter.specs.PresentParts.{core_in, box_at}
use Rattle.interpreter.specs.LineParts.{carried, CarriedOut}
use Rattle.interpreter.specs.declared.deed.Deed.TheVariants.{Saving}
use Rattle.interpreter.specs.declared.deed.Saving.TheVariants.{Save, Recall}
use Rattle.interpreter.specs.declared.present.Present.{Present}
use Rattle.interpreter.proofs.line.Laws.{seen}

-- ---- the block's place in the store

pub block-laid : (place : ℕ) (s : Settings) (store : Text)
    → put_mid (place * block_size) (place * block_size + block_size - place * block_size) store (block_of s) ≡ saved_at place s store
unfolding saved_at
block-laid place s store =
    let n : place * block_size ≡ block_size * place = omega arith in
    let k : place * block_size + block_size - place * block_size ≡ block_size = omega arith in
    rw (k, n, drop-drop block_size (block_size * place) store)

pub block_read : (place at end : ℕ) (store : Text) → at ≡ place * block_size → end ≡ at + block_size → take (end - at) (drop at store) ≡ block_at place store
unfolding block_at
block_read place at end store e f =
    let n : at ≡ block_size * place = omega arith in
    let k : end - at ≡ block_size = omega arith in
    rw (k, n)

-- ---- what is carried out

module _ (p : Present) (place : ℕ) (store : Text) (t out : Text) where
  pub saved : permitted (Saving Save place) (core_in p.settings p.status) ≡ passed tt → (left : Text) → left ≡ saved_at place p.settings store
      → carried (Saving Save place) t (box_at p out (memory store)) ≡ passed (box_at p out (memory left))
  unfolding perform set_up ◌>>=◌ ◌>>◌
  saved l left is = rw (seen p (Saving Save place) t out (memory store) l, is)

  module _ (l : permitted (Saving Recall place) (core_in p.settings p.status) ≡ passed tt) where
    pub recalled : (s : Settings) → true ≡ recallable (block_at place store) → s ≡ said_in (block_at place store)
        → carried (Saving Recall place) t (box_at p out (memory store)) ≡ passed (box_at (record { settings = s; status = p.status; answered = p.answered }) out (memory store))
    unfolding perform set_up ◌>>=◌ ◌>>◌ check
    recalled s taken is =
        rw (seen p (Saving Recall place) t out (memory store) l, sym taken, is ∙ said-recalled (block_at place store) (sym taken))

    pub lost : false ≡ recallable (block_at place store) → CarriedOut (Saving Recall place) t p out (memory store) (Err SaveRecallMemoryLost) p out (memory store)
    unfolding perform set_up ◌>>=◌ ◌>>◌ check
    lost unfit = (rw (seen p (Saving Recall place) t out (memory store) l, sym unfit), refl, refl)
