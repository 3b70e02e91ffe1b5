-- 02, #108: the laws of saved setups, by those of a block in the lower crate (registers/proofs/setup/Laws).
use mathlib.Core.Path.{◌≡◌, sym, ◌∙◌, ap}
use mathlib.Core.Bool.{true}
use Prim.Native.Nat.{ℕ, ◌+◌, ◌*◌, ◌≤◌, ◌<◌}
use native.Mathlib.Omega.{arith}
use lib.ListN.{length, take, drop, set, get_or}
use lib.Seq.{drop-set-add, take-set-lt}
use borrow.Author.Tests.{eqb-true, eq-eqb}
use Rattle.registers.specs.Text.{Text}
use Rattle.registers.specs.Check.{Checked, refused, passed, check, ◌>>◌}
use Rattle.registers.specs.Setup.{block_size, places, block_of, recallable, block_at, saved_at}
use Rattle.registers.proofs.setup.Laws.{saved-back, block-marked, older-unmarked, older-means, older-empty, not-recalled, saved-long, saved-here, saved-before, saved_after, zeros-not-recalled}
use Rattle.interpreter.specs.Box.{Memory, store_size, right_size, with_store, Core, with_memory}
use Rattle.interpreter.specs.Perform.{set_up}
use Rattle.interpreter.specs.Setups.{SavedIsRecalled, OlderIsRecalled, OlderHasNoText, AlteredIsNoticed, SavesOnlyItsBlock, Setups, ZerosAreRefused}
use Rattle.interpreter.specs.declared.deed.Saving.TheVariants.{Save}

store_long : (m : Memory) → right_size m ≡ true → length m.store ≡ store_size
unfolding right_size
store_long m e = eqb-true (length m.store) store_size e

-- every place lies within the store
place-within : (p : ℕ) (m : Memory) → p < places → right_size m ≡ true → block_size * p + block_size ≤ length m.store
place-within p m h e = let l = store_long m e in omega arith

-- what *SAV leaves
saved-core : Core → ℕ → Core
saved-core c p = with_memory (with_store (saved_at p c.settings c.memory.store) c.memory) c

left_by : Core → Checked Core → Core
left_by c (refused n) = c
left_by c (passed d) = d

saved-is : (p : ℕ) (c d : Core) → set_up Save p c ≡ passed d → d ≡ saved-core c p
unfolding set_up left_by saved-core
saved-is p c d e = sym (ap (left_by c) e)

recalled : SavedIsRecalled
unfolding set_up check ◌>>◌ saved-core
recalled p c d e h size possible long saved is =
    let back = saved-back c.settings long possible in
    let here : block_at p e.memory.store ≡ block_of c.settings =
    is ∙ ap (λ (f : Core). block_at p f.memory.store) (saved-is p c d saved) ∙ saved-here p c.settings c.memory.store (place-within p c.memory h size) in
    rw (here, back.0, back.1)

zeros : ZerosAreRefused
unfolding set_up check ◌>>◌
zeros p c is = rw (is, zeros-not-recalled)

altered-block : (p i x : ℕ) (t : Text) → i < block_size → block_at p (set t (block_size * p + i) x) ≡ set (block_at p t) i x
unfolding block_at
altered-block p i x t h = ap (take block_size) (drop-set-add (block_size * p) t i x) ∙ take-set-lt block_size (drop (block_size * p) t) i x h

noticed : AlteredIsNoticed
unfolding set_up check ◌>>◌
noticed p i x c h other good =
    rw (altered-block p i x c.memory.store h, not-recalled (block_at p c.memory.store) i x h other good)

only : SavesOnlyItsBlock
unfolding right_size saved-core
only p c d h size saved =
    let within = place-within p c.memory h size in
    let s = c.settings in
    let t = c.memory.store in
    let left = saved-is p c d saved in
    let is : d.memory.store ≡ saved_at p s t = ap (λ (f : Core). f.memory.store) left in
    record {
      size = eq-eqb (length d.memory.store) store_size (ap length is ∙ saved-long p s t within ∙ store_long c.memory size);
      before = λ j k. ap (λ (l : Text). get_or l j 0) is ∙ saved-before p s t within j k;
      after = λ j k. ap (λ (l : Text). get_or l j 0) is ∙ saved_after p s t within j k;
      rest = left ∙ ap (λ (m : Memory). with_memory m c) (sym (ap (λ (f : Core). f.memory) left));
    }

older : OlderIsRecalled
unfolding set_up recallable check ◌>>◌
older p c good possible =
    let b = block_at p c.memory.store in
    let means = older-means b possible in
    (older-unmarked b possible, rw (good, means, possible))

textless : OlderHasNoText
textless p c m e = older-empty (block_at p c.memory.store) m e

pub setups : Setups
setups = record { recalled = recalled; zeros = zeros; marked = block-marked; older = older; textless = textless; noticed = noticed; only = only }
