-- The whole writer: the code's test is that of number 6, and what it gives in each of the three ways is what the definition says.
use mathlib.Core.Path.{◌≡◌, refl, sym, ◌∙◌, ap}
use mathlib.Core.Bool.{Bool, true, false, not, ◌&&◌, ◌||◌}
use Prim.Native.Nat.{ℕ, ◌<◌}
use lib.Dec.{eqb}
use lib.IntN.{ℤ}
use lib.Signed.{mag}
use mir.Syntax.{w32}
use mir.Val.{of_z}
use borrow.Author.Tests.{eqb-true, eqb-false, not-true, not-false}
use Rattle.std.specs.Prelude.{Ok, Err}
use Rattle.registers.specs.Text.{Text, if◌then◌otherwise◌}
use Rattle.registers.specs.Settings.{exam, value_at, possible_settings}
use Rattle.registers.specs.declared.settings.Settings.{Settings}
use Rattle.interpreter.specs.Events.{Result, result_of}
use Rattle.writer.specs.Lines.{refusal_number, length_told, differs, lines_for, copied, writable, written}
use Rattle.writer.specs.LinesParts.{channel_number, named}
use Rattle.writer.specs.declared.lines.Refusal.{Refusal}
use Rattle.writer.specs.declared.lines.Refusal.TheVariants.{NotWritable}
use Rattle.writer.specs.declared.lines.Channel.{Channel}
use Rattle.writer.specs.declared.lines.Channel.TheVariants.{First, Second}
use Rattle.writer.proofs.lines.Laws.{bits-apart, bits-alike}

-- a channel that has a name is one of 02's
record Named (n : ℕ) (q : Channel) : Type 0 where
  one : (eqb n 1 || eqb n 2) ≡ true
  number : channel_number q ≡ n

data Called (n : ℕ) : Type 0 where
  known : (q : Channel) → named n ≡ Ok q → Named n q → Called n
  other : named n ≡ Err NotWritable → (eqb n 1 || eqb n 2) ≡ false → Called n

called : (n : ℕ) → Called n
unfolding if◌then◌otherwise◌
called n = go (eqb n 1) refl (eqb n 2) refl
  where
    go : (s : Bool) → eqb n 1 ≡ s → (t : Bool) → eqb n 2 ≡ t → Called n
    go true e t f = known First (rw e refl) (record { one = rw e refl; number = sym (eqb-true n 1 e) })
    go false e true f = known Second (rw (e, f) refl) (record { one = rw (e, f) refl; number = sym (eqb-true n 2 f) })
    go false e false f = other (rw (e, f) refl) (rw (e, f) refl)

-- the code's test of the records, by the exam modes' bits
passing : (a b d : Bool) → (not (a && b) || d) ≡ not (a && (b && not d))
passing false b d = refl
passing true false d = refl
passing true true false = refl
passing true true true = refl

abbrev pub refusing : Bool → Bool → ℤ → ℤ → Bool
refusing a b h t = not (a && b) || not (eqb (of_z w32 h) (of_z w32 t))

module _ (p w : Settings) {h t : ℤ} {a b : Bool} (k : mag h < 2147483648) (l : mag t < 2147483648) (e : h ≡ value_at p exam) (f : t ≡ value_at w exam)
    (g : a ≡ possible_settings p) (j : b ≡ possible_settings w) where
  differ : not (eqb (of_z w32 h) (of_z w32 t)) ≡ differs p w exam
  differ = go (eqb (of_z w32 h) (of_z w32 t)) refl
    where
      go : (s : Bool) → eqb (of_z w32 h) (of_z w32 t) ≡ s → not (eqb (of_z w32 h) (of_z w32 t)) ≡ differs p w exam
      go true q = rw q (sym (bits-alike e f k l (eqb-true (of_z w32 h) (of_z w32 t) q)))
      go false q = rw q (sym (bits-apart e f (eqb-false (of_z w32 h) (of_z w32 t) q)))

  pub tested : {r : Bool} → refusing a b h t ≡ r → not (possible_settings p && (possible_settings w && not (differs p w exam))) ≡ r
  tested is = sym (passing (possible_settings p) (possible_settings w) (differs p w exam)) ∙ rw (g, j, differ) at is

module _ (p w : Settings) (channel : ℕ) (buffer : Text) where
  abbrev fit : Bool
  fit = possible_settings p && (possible_settings w && not (differs p w exam))

  pub other-channel : {e : Refusal} → named channel ≡ Err e → result_of (refusal_number e) (length_told e) buffer ≡ written p w channel buffer
  unfolding written writable if◌then◌otherwise◌
  other-channel {e} is = go (called channel)
    where
      go : Called channel → result_of (refusal_number e) (length_told e) buffer ≡ written p w channel buffer
      go (known q k n) = let no : Ok q ≡ Err e = sym k ∙ is in absurd (cc)
      go (other k n) = let same : NotWritable ≡ e = cc in rw (n, ← same) refl

  pub unfit : not fit ≡ true → result_of 6 0 buffer ≡ written p w channel buffer
  unfolding written writable if◌then◌otherwise◌
  unfit e = rw (not-true fit e) (go (eqb channel 1 || eqb channel 2))
    where
      go : (t : Bool) → result_of 6 0 buffer ≡ (if t && false then copied (lines_for p w channel) buffer otherwise result_of 6 0 buffer)
      go true = refl
      go false = refl

  pub whole : {q : Channel} → named channel ≡ Ok q → not fit ≡ false → {r : Result} → r ≡ copied (lines_for p w (channel_number q)) buffer → r ≡ written p w channel buffer
  unfolding written writable if◌then◌otherwise◌
  whole {q} is e {r} f = go (called channel)
    where
      go : Called channel → r ≡ written p w channel buffer
      go (known q' k n) = let same : q ≡ q' = cc in let m : channel_number q ≡ channel = ap channel_number same ∙ n.number in rw (n.one, not-false fit e) (rw m at f)
      go (other k n) = let no : Ok q ≡ Err NotWritable = sym is ∙ k in absurd (cc)
