-- The answer to a query of a setting, by what the setting's values are, and deeds that have none.
use mathlib.Core.Path.{◌≡◌, refl, sym, ◌∙◌}
use mathlib.Core.Bool.{Bool, true, false}
use mathlib.Core.List.{List, [], ◌∷◌}
use Prim.Native.Nat.{ℕ, ◌<◌}
use Prim.Native.String.{String}
use native.Mathlib.Omega.{arith}
use lib.Dec.{ltb, eqb}
use lib.IntN.{ℤ}
use types.Run.{OneOf, miss}
use denote.Enum.Declared.{tag_of}
use mir.Syntax.{w32}
use mir.Val.{SFits, to_z, of_z}
use mir.Facts.{to_z-of_z}
use borrow.Author.Tests.{ltb-true, ltb-false}
use Rattle.std.specs.Prelude.{None}
use Rattle.registers.specs.Text.{Text, if◌then◌otherwise◌}
use Rattle.registers.specs.Answer.{decimal, tenths, signed_text}
use Rattle.registers.specs.Settings.{count, Kind, bool, words, number, kind_of, answer_of, word_text}
use Rattle.registers.specs.declared.settings.Values.{Values}
use Rattle.registers.specs.declared.settings.Values.TheVariants.{Bool as BoolValue, Word, Tenths, Whole}
use Rattle.registers.proofs.settings.Laws.{values_in, past_is}
use Rattle.registers.specs.contracts.settings.Values as values
use Rattle.interpreter.specs.ReplyParts.{ordinary, text_of, RepliesWith, ReplyTo}
use Rattle.interpreter.specs.Parameter.{words_of, limit_words}
use Rattle.interpreter.specs.declared.deed.Deed.{Deed}
use Rattle.interpreter.specs.declared.deed.Deed.TheVariants.{Change, Complete, Clear, Query, Inquire, Saving}
use Rattle.interpreter.specs.declared.present.Present.{Present}
use Rattle.interpreter.specs.declared.reply.Reply.{Reply}
use Rattle.interpreter.specs.declared.reply.Reply.TheVariants.{Whole as said-whole}
use Rattle.interpreter.specs.contracts.deed.Deed as deeds

-- ---- a setting

abbrev pub answer_as : Values → List String → ℤ → Text
answer_as BoolValue ws v = signed_text decimal v
answer_as Word ws v = word_text ws v
answer_as Tenths ws v = signed_text tenths v
answer_as Whole ws v = signed_text decimal v

answer-is : (k : Kind) (v : ℤ) → answer_of k v ≡ answer_as (values_in k) (words_of k) v
unfolding answer_of if◌then◌otherwise◌
answer-is bool v = refl
answer-is (words ws) v = refl
answer-is (number k low high) v = go (eqb k 10)
  where
    go : (t : Bool) → signed_text (if t then tenths otherwise decimal) v ≡ answer_as (if t then Tenths otherwise Whole) limit_words v
    go true = refl
    go false = refl

-- the reply to a value that came as its bits, by the kind v that the code was told
module _ (k : Kind) {z : ℤ} (h : SFits w32 z) {told : Values} (is : told ≡ values_in k) where
  pub told-value : {v : Values} {r : Reply} → told ≡ v → ((label : Text) → RepliesWith label (answer_as v (words_of k) (to_z w32 (of_z w32 z))) r) → (label : Text) → RepliesWith label (answer_of k z) r
  told-value f e label = rw (answer-is k z, sym is ∙ f) (rw (to_z-of_z {w = w32} h) at (e label))

  -- a bool is answered as a whole number is
  pub told-whole : OneOf (3 ∷ 0 ∷ []) (tag_of values.the_type told) → (label : Text) → RepliesWith label (answer_of k z) (said-whole (to_z w32 (of_z w32 z)))
  unfolding text_of
  told-whole o = told-value refl (λ label. record { is = whole told o })
    where
      whole : (v : Values) → OneOf (3 ∷ 0 ∷ []) (tag_of values.the_type v)
          → signed_text decimal (to_z w32 (of_z w32 z)) ≡ answer_as v (words_of k) (to_z w32 (of_z w32 z))
      whole BoolValue h = refl
      whole Word h = absurd (miss (3 ∷ 0 ∷ []) 1 tt h)
      whole Tenths h = absurd (miss (3 ∷ 0 ∷ []) 2 tt h)
      whole Whole h = refl

-- a value that came as its bits, answered
pub value-back : (k : Kind) {z : ℤ} → SFits w32 z → {r : Reply} → ((label : Text) → RepliesWith label (answer_of k (to_z w32 (of_z w32 z))) r)
    → (label : Text) → RepliesWith label (answer_of k z) r
value-back k h e label = rw (to_z-of_z {w = w32} h) at (e label)

-- a row whose values are words is one of the table: past it rows count as bools
pub word-row : (i : ℕ) {told : Values} → told ≡ values_in (kind_of i) → told ≡ Word → i < count
word-row i is e = go (ltb i count) refl
  where
    go : (t : Bool) → ltb i count ≡ t → i < count
    go true q = ltb-true i count q
    go false q =
        let k : values_in (kind_of i) ≡ BoolValue = rw (past_is i (ltb-false i count q)) in
        let z : ◌≡◌ {A = ℕ} 0 1 = cc in
        absurd (omega arith)

-- ---- a deed without an answer is a change, *OPC, *CLS, *SAV or *RCL

pub nothing_said : (d : Deed) → OneOf (0 ∷ 1 ∷ 2 ∷ 5 ∷ []) (tag_of deeds.the_type d) → (p : Present) (answers : Bool)
    → ReplyTo d p answers None
nothing_said (Change x) h p answers = refl
nothing_said Complete h p answers = refl
nothing_said Clear h p answers = refl
nothing_said (Query q) h p answers = absurd (miss (0 ∷ 1 ∷ 2 ∷ 5 ∷ []) 3 tt h)
nothing_said (Inquire q) h p answers = absurd (miss (0 ∷ 1 ∷ 2 ∷ 5 ∷ []) 4 tt h)
nothing_said (Saving x n) h p answers = refl

-- ---- any deed but *SAV and *RCL

pub ordinary-other : (d : Deed) → OneOf (0 ∷ 1 ∷ 2 ∷ 3 ∷ 4 ∷ []) (tag_of deeds.the_type d) → ordinary d ≡ true
ordinary-other (Change x) h = refl
ordinary-other Complete h = refl
ordinary-other Clear h = refl
ordinary-other (Query q) h = refl
ordinary-other (Inquire q) h = refl
ordinary-other (Saving x n) h = absurd (miss (0 ∷ 1 ∷ 2 ∷ 3 ∷ 4 ∷ []) 5 tt h)
