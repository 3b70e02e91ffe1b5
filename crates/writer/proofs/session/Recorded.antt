-- A part of a recorded answer, compared at once: it leads where its bytes do one after the other.
use mathlib.Core.Path.{◌≡◌, refl, sym, ◌∙◌, ap}
use mathlib.Core.Bool.{Bool, true, false, not, ◌&&◌, ◌||◌}
use mathlib.Core.List.{[], ◌∷◌}
use mathlib.Core.Logic.{inl, inr}
use Prim.Native.Nat.{ℕ, suc, ◌+◌, ◌-◌, max, ◌≤◌, zero-le}
use native.Mathlib.Nat.{le_refl}
use native.Mathlib.Omega.{arith}
use lib.Dec.{eqb, ltb}
use lib.ListN.{length, take, drop, get_or, drop_of_length-le}
use borrow.Author.Tests.{eq-eqb, ne_eqb, eqb-true, eqb-false, ltb-true, ltb-false}
use Rattle.std.specs.Prelude.{Option, Some, None, unwrap_or}
use Rattle.std.specs.Borrow.{Bor}
use Rattle.std.specs.List.{starts_with, list_any}
use Rattle.std.specs.Slice.{IsGetRangeResult}
use Rattle.std.proofs.lemmas.Slice.{between_to_end}
use Rattle.registers.specs.Text.{Text}
use Rattle.interpreter.specs.Box.{Box}
use Rattle.writer.specs.Marking.{Progress, place_found, found_so, byte_read, fed}
use Rattle.writer.specs.MarkingParts.{Recorded, Compared}
use Rattle.writer.specs.declared.session.Stage.TheVariants.{Fresh, Finding, Differing}
use Rattle.writer.specs.declared.session.Place.{Place}
use Rattle.writer.proofs.session.Bytes.{byte-finding, fed-rest, goes_on, found-next, found_all, found-long, found-other, find-more, find_none}

turned : (x y : ℕ) → eqb x y ≡ eqb y x
turned x y = go (eqb y x) refl
  where
    go : (t : Bool) → eqb y x ≡ t → eqb x y ≡ t
    go true e = eq-eqb x y (sym (eqb-true y x e))
    go false e = ne_eqb x y (λ z. eqb-false y x e (sym z))

-- where it leads, with which so many bytes are found: by whether the box's answer goes on with it, a newline is among them, and both end with it
abbrev pub lead : Place → ℕ → Bool → Bool → Bool → Place
lead q m false ended whole = found_so q Differing q.waiting
lead q m true false whole = found_so q (Finding m) q.waiting
lead q m true true true = found_so q Fresh 0
lead q m true true false = found_so q Differing q.waiting

lead-long : (q : Place) (m : ℕ) (same : Bool) → lead q m same true false ≡ found_so q Differing q.waiting
lead-long q m true = refl
lead-long q m false = refl

both-no : (t : Bool) → (t && false) ≡ false
both-no true = refl
both-no false = refl

-- its line is the same, and no more waits
abbrev Kept : Place → Place → Type 0
Kept q r = (r.number ≡ q.number) × (r.waiting ≤ q.waiting)

kept : (q : Place) (m : ℕ) (same ended whole : Bool) → Kept q (lead q m same ended whole)
kept q m false ended whole = (refl, le_refl _)
kept q m true false whole = (refl, le_refl _)
kept q m true true true = (refl, zero-le)
kept q m true true false = (refl, le_refl _)

abbrev pub newline_in : Text → Bool
newline_in part = list_any (λ y. eqb y 10) part

module _ (room : Text) where
  abbrev pub goes_with : Place → ℕ → Text → Bool
  goes_with q n part = starts_with eqb (drop n (take q.waiting room)) part

  goes_more : (q : Place) (n x : ℕ) (xs : Text) → q.waiting ≤ length room → goes_with q n (x ∷ xs) ≡ (goes_on q n room x && goes_with q (n + 1) xs)
  goes_more q n x xs holds = go (ltb n q.waiting) refl
    where
      go : (t : Bool) → ltb n q.waiting ≡ t → goes_with q n (x ∷ xs) ≡ ((t && eqb (get_or room n 0) x) && goes_with q (n + 1) xs)
      go true e = rw (find-more room q n holds (ltb-true n q.waiting e), turned x (get_or room n 0))
      go false e = rw (find_none room q n holds (ltb-false n q.waiting e))

  -- both end with it
  abbrev pub ends_both : Place → ℕ → Text → Bool
  ends_both q n part = eqb (n + length part) q.waiting && not (newline_in (take (length part - 1) part))

  module _ (b : Box) where
    abbrev at : Place → Progress
    at q = record { box = b; room = room; place = q }

    abbrev Leads : Place → ℕ → Text → Type 0
    Leads q n part = fed (at q) part ≡ at (lead q (n + length part) (goes_with q n part) (newline_in part) (ends_both q n part))

    leads : (part : Text) (q : Place) (n : ℕ) → q.stage ≡ Finding n → q.waiting ≤ length room → 1 ≤ length part → length part ≤ max 1 (q.waiting - n) → Leads q n part
    unfolding fed
    leads [] q n e holds some short = absurd (omega arith)
    leads (x ∷ xs) q n e holds some short = go xs refl (λ r m. leads xs r m)
      where
        here : (r : Place) → place_found q n room x ≡ r → byte_read (at q) x ≡ at r
        here r f = byte-finding (at q) x e ∙ ap at f

        -- the last one
        last : (s : Bool) → goes_on q n room x ≡ s → (t : Bool) → eqb x 10 ≡ t → (u : Bool) → eqb (n + 1) q.waiting ≡ u
            → place_found q n room x ≡ lead q (n + 1) (s && true) (t || false) (u && true)
        last true h true f true k = found_all q n room x h (eqb-true x 10 f) (eqb-true (n + 1) q.waiting k)
        last true h true f false k = found-long q n room x h (eqb-true x 10 f) (eqb-false (n + 1) q.waiting k)
        last true h false f u k = found-next q n room x h (eqb-false x 10 f)
        last false h t f u k = found-other q n room x h

        go : (ys : Text) → xs ≡ ys
            → ((r : Place) (m : ℕ) → r.stage ≡ Finding m → r.waiting ≤ length room → 1 ≤ length xs → length xs ≤ max 1 (r.waiting - m) → Leads r m xs) → Leads q n (x ∷ xs)
        go [] is more = rw (is, goes_more q n x [] holds) (here _ (last (goes_on q n room x) refl (eqb x 10) refl (eqb (n + 1) q.waiting) refl))
        go (y ∷ ys) is more = on (goes_on q n room x) refl (eqb x 10) refl
          where
            long : length xs ≡ length (y ∷ ys)
            long = ap length is

            front : take (length (x ∷ xs) - 1) (x ∷ xs) ≡ x ∷ take (length xs - 1) xs
            front = let l = long in let k : length (x ∷ xs) - 1 ≡ suc (length xs - 1) = omega arith in ap (λ (k : ℕ). take k (x ∷ xs)) k

            on : (s : Bool) → goes_on q n room x ≡ s → (t : Bool) → eqb x 10 ≡ t → Leads q n (x ∷ xs)
            on true h true f =
                let r = found_so q Differing q.waiting in
                let l = long in
                let k : n + 1 ≡ q.waiting → ⊥ = λ z. omega arith in
                rw (front, f, both-no (eqb (n + length (x ∷ xs)) q.waiting), lead-long q (n + length (x ∷ xs)) (goes_with q n (x ∷ xs)))
                (ap (λ (p : Progress). fed p xs) (here r (found-long q n room x h (eqb-true x 10 f) k)) ∙ fed-rest (at r) xs refl)
            on true h false f =
                let l = long in
                let r = found_so q (Finding (n + 1)) q.waiting in
                let m : n + 1 + length xs ≡ n + length (x ∷ xs) = omega arith in
                rw (goes_more q n x xs holds, h, front, f)
                (ap (λ (p : Progress). fed p xs) (here r (found-next q n room x h (eqb-false x 10 f))) ∙ more r (n + 1) refl holds (omega arith) (omega arith)
                ∙ ap (λ (k : ℕ). at (lead q k (goes_with q (n + 1) xs) (newline_in xs) (eqb k q.waiting && not (newline_in (take (length xs - 1) xs))))) m)
            on false h t f =
                let r = found_so q Differing q.waiting in
                rw (goes_more q n x xs holds, h) (ap (λ (p : Progress). fed p xs) (here r (found-other q n room x h)) ∙ fed-rest (at r) xs refl)

-- what the code's tests tell
module _ {q : Place} {n : ℕ} {room part : Text} (asked : Recorded q n room part) where
  pub starts : (r : Option (Bor Text)) (d : Bor Text) {x : Bor Text} {told t : Bool} → IsGetRangeResult (take q.waiting room) n (length (take q.waiting room)) r
      → d.now ≡ [] → x ≡ unwrap_or r d → told ≡ starts_with eqb x.now part → told ≡ t → goes_with room q n part ≡ t
  starts r d {x} {told} {t} found none is asked' e =
      ap (λ (l : Text). starts_with eqb l part) (sym (go r found) ∙ ap (λ (y : Bor Text). y.now) (sym is)) ∙ sym asked' ∙ e
    where
      go : (r : Option (Bor Text)) → IsGetRangeResult (take q.waiting room) n (length (take q.waiting room)) r → (unwrap_or r d).now ≡ drop n (take q.waiting room)
      go None f = none ∙ sym (drop_of_length-le (take q.waiting room) {i = n} (elim f.0 [ inl h ↦ omega arith | inr h ↦ omega arith ]))
      go (Some y) f = f.0.2 ∙ between_to_end (take q.waiting room) n (length (take q.waiting room)) (le_refl _)

  pub compared : (same ended whole : Bool) → goes_with room q n part ≡ same → newline_in part ≡ ended → ends_both room q n part ≡ whole
      → Compared q room part (lead q (n + length part) same ended whole)
  compared same ended whole s t u =
      let k = kept q (n + length part) same ended whole in
      record { is = λ b. rw (← s, ← t, ← u) (leads room b part q n asked.stage asked.holds asked.some asked.short); number = k.0; waiting = k.1 }
