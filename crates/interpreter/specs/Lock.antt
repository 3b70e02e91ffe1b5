-- 02, #105: "A teacher's lock key must hold." While the lock holds no line changes any setting but the outputs, and these only to off:
-- for any bytes, from any state, until the next lock condition event or power-up.
use Rattle.std.specs.Prelude.{◌≡◌, Bool, true, false, List, ℕ, pos}
use Rattle.registers.specs.Text.{every}
use Rattle.registers.specs.Settings.{value_at, displayed}
use Rattle.registers.specs.Status.{Registers, registers_of, locked}
use Rattle.registers.specs.declared.settings.Settings.{Settings}
use Rattle.registers.specs.declared.status.RegisterSet.TheVariants.{Operation, Lock, Warning}
use Rattle.interpreter.specs.Box.{Memory, Box}
use Rattle.interpreter.specs.Perform.{is_output}
use Rattle.interpreter.specs.Events.{Event, started, received, take, condition, look, altered, mislent, Result, after}
use Rattle.interpreter.specs.State.{box_of}
use Rattle.interpreter.specs.Calls.{Calls}
use Rattle.interpreter.specs.declared.state.State.{State}

-- an event that leaves the key where it is: no power-up, and no report of the lock's condition
abbrev pub leaves_key : Event → Bool
leaves_key started = false
leaves_key (received xs) = true
leaves_key (take buffer) = true
leaves_key (condition Operation n) = true
leaves_key (condition Lock n) = false
leaves_key (condition Warning n) = true
leaves_key look = true
leaves_key (altered i x) = true
leaves_key (mislent buffer) = true

-- settings, and what they and the registers are later
pub record UnderLock (before later : Settings) (registers : Registers) : Type 0 where
  -- no line changes any setting but the outputs
  pub others : (i : ℕ) → is_output i ≡ false → value_at later i ≡ value_at before i
  -- nor the display's text
  pub text : displayed later ≡ displayed before
  -- and these only to off: "switching off is never blocked"
  pub only_off : (i : ℕ) → is_output i ≡ true → (value_at later i ≡ value_at before i → ⊥) → value_at later i ≡ pos 0
  -- and the lock still holds
  pub still : locked registers ≡ true

abbrev pub HeldIn : Box → Box → Type 0
HeldIn b c = UnderLock b.core.settings c.core.settings c.core.registers

-- in any history of the definition
abbrev pub InHistories : Type 0
InHistories = (b : Box) (es : List Event) → locked b.core.registers ≡ true → every leaves_key es ≡ true → HeldIn b (after b es)

-- in any calls of the public functions, known by their promises alone; a state that couldn't be the box's is refused, and so stays
abbrev pub InCalls : Type 0
InCalls =
    (s t : State) (m n : Memory) (es : List Event) (rs : List Result) → Calls t n s m es rs
    → locked (registers_of s.status) ≡ true → every leaves_key es ≡ true → HeldIn (box_of s m) (box_of t n)

pub record LockHolds : Type 0 where
  pub histories : InHistories
  pub calls : InCalls
