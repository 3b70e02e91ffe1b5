-- "What can happen to the box", for the code: what a State means, and what each of the five events says of it; refusals 4 and 5.
use Rattle.std.specs.Prelude.{◌≡◌, Bool, true, false, ◌&&◌, ℕ, leb, take, Result as Outcome, Ok, Err}
use Rattle.registers.specs.Settings.{possible_settings}
use Rattle.registers.specs.Status.{registers_of, trouble_of, possible_status}
use Rattle.registers.specs.declared.settings.Settings.{Settings}
use Rattle.registers.specs.declared.status.Status.{Status}
use Rattle.interpreter.specs.Box.{Memory, right_size, Box, box, power_up, most_line, most_answer}
use Rattle.interpreter.specs.Events.{Event, started, received, take as takes, condition, look, altered, mislent, Result, result_of, happened, happens, lent}
use Rattle.interpreter.specs.declared.state.State.{State}
use Rattle.interpreter.specs.declared.state.Refusal.{Refusal}
use Rattle.interpreter.specs.declared.state.Refusal.TheVariants.{BufferTooShort, NoAnswer, ConditionTooWide, ImpossibleState, WrongStore}

-- the numbers of 01's table, and 02's (#108)
abbrev pub refusal_number : Refusal → ℕ
refusal_number (BufferTooShort n) = 1
refusal_number NoAnswer = 2
refusal_number ConditionTooWide = 3
refusal_number ImpossibleState = 4
refusal_number WrongStore = 5

-- 0 where nothing is refused
abbrev pub number_of : {T : Type 0} → Outcome T Refusal → ℕ
number_of (Ok x) = 0
number_of (Err r) = refusal_number r

-- the count, length or status byte; where it is refused the length that the buffer needs, or 0
abbrev pub value_of : Outcome ℕ Refusal → ℕ
value_of (Ok n) = n
value_of (Err (BufferTooShort n)) = n
value_of (Err NoAnswer) = 0
value_of (Err ConditionTooWide) = 0
value_of (Err ImpossibleState) = 0
value_of (Err WrongStore) = 0

-- "The array places beyond a stored length mean nothing and two states differing only there are the same"
abbrev pub box_of : State → Memory → Box
box_of s m =
    box (record {
      settings = s.settings;
      registers = registers_of s.status;
      line = take s.filled s.line;
      overlong = s.overlong;
      answer = take s.waiting s.answer;
      memory = m;
    }) (trouble_of s.status)

-- number 4 on the record's own numbers: "a setting outside its limits, a queue above 16 .., a line above 512, an answer
-- above 1,024, a register above its width .., *SRE with bit 6, a voltage above its range; not otherwise"; line and answer by 02 (#106)
-- above 4,096
unfoldable pub possible_parts : Settings → Status → ℕ → ℕ → Bool
possible_parts settings status filled waiting =
    possible_settings settings && possible_status status && leb filled most_line && leb waiting most_answer

abbrev pub possible_state : State → Bool
possible_state s = possible_parts s.settings s.status s.filled s.waiting

-- number 4 is for "any but power-up": a power-up looks at no state, and is never refused
abbrev pub admitted : State → Event → Bool
admitted s started = true
admitted s (received xs) = possible_state s
admitted s (takes buffer) = possible_state s
admitted s (condition x n) = possible_state s
admitted s look = possible_state s
admitted s (altered i x) = possible_state s
admitted s (mislent buffer) = possible_state s

-- number 5 is for "every event but power-up", which is lent no store
abbrev pub rightly : Memory → Event → Bool
rightly m started = true
rightly m (received xs) = right_size m
rightly m (takes buffer) = right_size m
rightly m (condition x n) = right_size m
rightly m look = right_size m
rightly m (altered i x) = true
rightly m (mislent buffer) = false

-- an event on a state s with a memory m lent left the result r, the state t and the memory m'. "Number 4 is tested first": "state and buffers
-- unchanged; count, length and status byte 0"; by 02 (#108) number 5, "as number 4 but tested before it"
pub record Happens (s : State) (m : Memory) (e : Event) (r : Result) (t : State) (m' : Memory) : Type 0 where
  pub possible : rightly m e ≡ true → admitted s e ≡ true
      → (possible_state t ≡ true) × (happened r (box_of t m') ≡ happens (box_of s m) e) × (right_size m' ≡ right_size m)
  pub impossible : rightly m e ≡ true → admitted s e ≡ false → (t ≡ s) × (r ≡ result_of 4 0 (lent e)) × (m' ≡ m)
  pub wrong : rightly m e ≡ false → (t ≡ s) × (r ≡ result_of 5 0 (lent e)) × (m' ≡ m)

-- "Power-up: the first state", which no state comes before; it is lent nothing, and whatever memory there is stays
pub record Started (t : State) : Type 0 where
  pub possible : possible_state t ≡ true
  pub first : (m : Memory) → box_of t m ≡ power_up m
