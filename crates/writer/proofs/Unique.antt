-- 02, #114: two results that meet the writer's statement are equal.
use mathlib.Core.Path.{◌≡◌, refl, sym, ◌∙◌, ap}
use Prim.Native.Nat.{ℕ}
use native.Mathlib.Omega.{arith}
use Rattle.std.specs.Prelude.{Ok, Err, Result as Outcome}
use Rattle.registers.specs.Text.{Text}
use Rattle.registers.specs.declared.settings.Settings.{Settings}
use Rattle.interpreter.specs.Events.{Result, result_of}
use Rattle.writer.specs.Lines.{number_of, length_of, written}
use Rattle.writer.specs.declared.lines.Refusal.{Refusal}
use Rattle.writer.specs.declared.lines.Refusal.TheVariants.{NotWritable, BufferTooShort}

pub outcome-unique : (o o' : Outcome ℕ Refusal) → number_of o ≡ number_of o' → length_of o ≡ length_of o' → o ≡ o'
outcome-unique (Ok n) (Ok n') e f = ap Ok f
outcome-unique (Ok n) (Err NotWritable) e f = absurd (omega arith)
outcome-unique (Ok n) (Err (BufferTooShort k)) e f = absurd (omega arith)
outcome-unique (Err NotWritable) (Ok n) e f = absurd (omega arith)
outcome-unique (Err NotWritable) (Err NotWritable) e f = refl
outcome-unique (Err NotWritable) (Err (BufferTooShort k)) e f = absurd (omega arith)
outcome-unique (Err (BufferTooShort k)) (Ok n) e f = absurd (omega arith)
outcome-unique (Err (BufferTooShort k)) (Err NotWritable) e f = absurd (omega arith)
outcome-unique (Err (BufferTooShort k)) (Err (BufferTooShort k')) e f = ap (λ (n : ℕ). Err (BufferTooShort n)) f

pub written-unique : (p w : Settings) (channel : ℕ) (buffer left left' : Text) (o o' : Outcome ℕ Refusal)
    → result_of (number_of o) (length_of o) left ≡ written p w channel buffer → result_of (number_of o') (length_of o') left' ≡ written p w channel buffer
    → (o ≡ o') × (left ≡ left')
written-unique p w channel buffer left left' o o' v v' =
    let is = v ∙ sym v' in
    (outcome-unique o o' (ap (λ (r : Result). r.number) is) (ap (λ (r : Result). r.value) is), ap (λ (r : Result). r.buffer) is)
