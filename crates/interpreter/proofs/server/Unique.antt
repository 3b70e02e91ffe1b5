-- Two results that meet the chunk server's statement are equal, and the two states are the same, places beyond a stored length apart.
use mathlib.Core.Path.{◌≡◌, refl, sym, ap, ap₂, ◌∙◌}
use mathlib.Core.Bool.{Bool, true, false, false≢true}
use mathlib.Core.List.{◌++◌}
use Prim.Native.Nat.{ℕ}
use lib.Dec.{eqb}
use lib.ListN.{length, take-append-drop}
use lib.Seq.{length-take-le}
use Rattle.registers.specs.Text.{Text}
use Rattle.interpreter.specs.Box.{Memory, right_size}
use Rattle.interpreter.specs.State.{box_of, possible_state}
use Rattle.interpreter.specs.Server.{Service, Serves}
use Rattle.interpreter.specs.declared.state.State.{State}

-- a chunk is never refused by number 1, so that its outcome is told by its number (`done-unique` of state/Unique)
pub serves-other : (s t : State) (m n : Memory) (input output left : Text) (number read written : ℕ) → Serves s m input output number read written t n left
    → number ≡ 1 → ⊥
serves-other s t m n input output left number read written p h = on (right_size m) refl (possible_state s) refl
  where
    on : (a : Bool) → right_size m ≡ a → (b : Bool) → possible_state s ≡ b → ⊥
    on true l true q = false≢true (ap (λ (k : ℕ). eqb k 1) (sym (p.possible l q).1 ∙ h))
    on true l false q = false≢true (ap (λ (k : ℕ). eqb k 1) (sym (p.impossible l q).1 ∙ h))
    on false l b q = false≢true (ap (λ (k : ℕ). eqb k 1) (sym (p.wrong l).1 ∙ h))

module _ (s t t' : State) (m n n' : Memory) (input output left left' : Text) (number read written number' read' written' : ℕ) where
  abbrev Same : Type 0
  Same =
      (number ≡ number') × (read ≡ read') × (written ≡ written') × (left ≡ left') × (box_of t n ≡ box_of t' n') × (possible_state t ≡ possible_state t')

  pub serves-unique : Serves s m input output number read written t n left → Serves s m input output number' read' written' t' n' left' → Same
  serves-unique p q = on (right_size m) refl (possible_state s) refl
    where
      on : (a : Bool) → right_size m ≡ a → (b : Bool) → possible_state s ≡ b → Same
      on true l true h =
          let x = p.possible l h in
          let y = q.possible l h in
          let same = x.3 ∙ sym y.3 in
          let front = ap (λ (v : Service). v.answers) same in (
            x.1 ∙ sym y.1,
            ap (λ (v : Service). v.read) same,
            sym (length-take-le written left x.2) ∙ ap length front ∙ length-take-le written' left' y.2,
            sym (take-append-drop written left) ∙ ap (λ (v : Service). v.answers ++ v.rest) same ∙ take-append-drop written' left',
            ap (λ (v : Service). v.box) same,
            x.0 ∙ sym y.0,
          )
      on true l false h =
          let x = p.impossible l h in
          let y = q.impossible l h in
          let same = x.0 ∙ sym y.0 in
          (x.1 ∙ sym y.1, x.2 ∙ sym y.2, x.3 ∙ sym y.3, x.4 ∙ sym y.4, ap₂ box_of same (x.5 ∙ sym y.5), ap possible_state same)
      on false l b h =
          let x = p.wrong l in
          let y = q.wrong l in
          let same = x.0 ∙ sym y.0 in
          (x.1 ∙ sym y.1, x.2 ∙ sym y.2, x.3 ∙ sym y.3, x.4 ∙ sym y.4, ap₂ box_of same (x.5 ∙ sym y.5), ap possible_state same)
