-- The checks on the display's text, by the one that ends them.
use mathlib.Core.Path.{◌≡◌, refl, sym, ◌∙◌}
use mathlib.Core.Bool.{Bool, true, false, not, false≢true}
use Prim.Native.Nat.{ℕ, ◌≤◌, ◌<◌}
use lib.ListN.{length}
use borrow.Author.Tests.{eq-eqb, not-true, not-false, le-leb, lt-leb}
use Rattle.std.specs.Prelude.{Option, Some, None, is_some}
use Rattle.registers.specs.Text.{Text, if◌then◌otherwise◌, first}
use Rattle.registers.specs.Check.{refused, passed, check, ◌>>◌}
use Rattle.registers.specs.Label.{most_text, text_in, LabelRead}
use Rattle.registers.specs.declared.label.Label.{Label}
use Rattle.interpreter.specs.Cuts.{is_quote, quote_next}
use Rattle.interpreter.specs.CutsParts.{byte_of, open_mark}
use Rattle.interpreter.specs.declared.cuts.Quote.{Quote}
use Rattle.interpreter.specs.Parameter.{label_deed}
use Rattle.interpreter.specs.ParameterParts.{label_to}
use Rattle.interpreter.specs.declared.deed.Deed.TheVariants.{Change}
use Rattle.interpreter.proofs.cuts.Search.{is-open}
use Rattle.interpreter.specs.declared.deed.Change.TheVariants.{Label as labelled}

-- a byte that opens a string, as the code reads it
pub starts : (q : Option Quote) (b : ℕ) → open_mark q ≡ quote_next 0 b → is_quote b ≡ is_some q
unfolding quote_next if◌then◌otherwise◌
starts q b is = go q (is_quote b) refl is
  where
    go : (q : Option Quote) (w : Bool) → is_quote b ≡ w → open_mark q ≡ (if w then b otherwise 0) → is_quote b ≡ is_some q
    go None true k z = absurd (false≢true (rw (← z) at k))
    go None false k z = k
    go (Some q) true k z = k
    go (Some q) false k z = absurd (false≢true (sym (is-open q) ∙ eq-eqb (byte_of q) 0 z))

module _ (asked : Bool) (t : Text) (sets : asked ≡ false) where
  pub no-string : is_quote (first t) ≡ false → refused 104 ≡ label_to asked t
  unfolding label_to label_deed if◌then◌otherwise◌
  no-string e = rw (sets, e)

  module _ (opens : is_quote (first t) ≡ true) (r : Label) (w : LabelRead t r) where
    pub not-closed : not r.closed ≡ true → refused 151 ≡ label_to asked t
    unfolding label_to label_deed check ◌>>◌ if◌then◌otherwise◌
    not-closed e = rw (sets, opens, sym w.closed ∙ not-true r.closed e)

    module _ (closed : not r.closed ≡ false) where
      pub not-allowed : not r.allowed ≡ true → refused 150 ≡ label_to asked t
      unfolding label_to label_deed check ◌>>◌ if◌then◌otherwise◌
      not-allowed e =
          rw (sets, opens, sym w.closed ∙ not-false r.closed closed, sym w.allowed ∙ not-true r.allowed e)

      module _ (stands : not r.allowed ≡ false) where
        pub too-long : most_text < r.count → refused 223 ≡ label_to asked t
        unfolding label_to label_deed check ◌>>◌ if◌then◌otherwise◌
        too-long h =
            rw (
              sets,
              opens,
              sym w.closed ∙ not-false r.closed closed,
              sym w.allowed ∙ not-false r.allowed stands,
              lt-leb (length (text_in t)) most_text (rw (← w.count) h),
            )

        pub is_set : r.count ≤ most_text → passed (Change labelled) ≡ label_to asked t
        unfolding label_to label_deed check ◌>>◌ if◌then◌otherwise◌
        is_set h =
            rw (
              sets,
              opens,
              sym w.closed ∙ not-false r.closed closed,
              sym w.allowed ∙ not-false r.allowed stands,
              le-leb (length (text_in t)) most_text (rw (← w.count) h),
            )
