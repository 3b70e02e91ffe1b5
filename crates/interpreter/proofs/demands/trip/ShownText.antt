-- Demand 2, the round trip of the display's text: its answer, sent back, is a string that means the text.
use mathlib.Core.Path.{◌≡◌, refl, ap, ◌∙◌}
use mathlib.Core.Bool.{Bool, true, false, false≢true}
use mathlib.Core.List.{[], ◌∷◌, ◌++◌}
use Prim.Native.Nat.{ℕ, ◌≤◌}
use lib.Dec.{eqb}
use lib.ListN.{length}
use borrow.Author.Tests.{ne_eqb, le-leb}
use Rattle.registers.specs.Text.{Text, if◌then◌otherwise◌, every}
use Rattle.registers.specs.Check.{passed, check, ◌>>◌}
use Rattle.registers.specs.Label.{most_text, may_stand, closes, undoubled, text_in, quoted_text}
use Rattle.registers.proofs.Tests.{and_both}
use Rattle.interpreter.specs.Parameter.{label_deed}
use Rattle.interpreter.specs.declared.deed.Deed.TheVariants.{Change}
use Rattle.interpreter.specs.declared.deed.Change.TheVariants.{Label}

no-quote : (b : ℕ) → may_stand b ≡ true → eqb b 34 ≡ false
unfolding may_stand
no-quote b e = ne_eqb b 34 (λ z. false≢true (rw z at e))

quoted-closes : (t : Text) → every may_stand t ≡ true → closes 34 false (t ++ 34 ∷ []) ≡ true
unfolding closes
quoted-closes [] e = refl
quoted-closes (b ∷ t) e = let p = and_both (may_stand b) (every may_stand t) e in ap (λ (x : Bool). closes 34 x (t ++ 34 ∷ [])) (no-quote b p.0) ∙ quoted-closes t p.1

pub quoted-means : (t : Text) → every may_stand t ≡ true → text_in (quoted_text t) ≡ t
unfolding undoubled if◌then◌otherwise◌
quoted-means [] e = refl
quoted-means (b ∷ t) e =
    let p = and_both (may_stand b) (every may_stand t) e in rw (no-quote b p.0) (ap (λ (x : Text). b ∷ x) (quoted-means t p.1))

pub label-sets : (t : Text) → every may_stand t ≡ true → length t ≤ most_text → label_deed (quoted_text t) ≡ passed (Change Label)
unfolding label_deed check ◌>>◌ if◌then◌otherwise◌
label-sets t e h = rw (quoted-closes t e, quoted-means t e, e, le-leb (length t) most_text h)
