-- A session fed in pieces: the report is the verdict on the whole, whatever the pieces; and what two calls leave that meet one promise is the same.
use mathlib.Core.Path.{◌≡◌, refl, sym, ◌∙◌, ap, ap₂}
use mathlib.Core.Bool.{Bool, true, false}
use mathlib.Core.List.{List, [], flatten}
use Prim.Native.Nat.{ℕ, ◌+◌, ◌<◌}
use native.Mathlib.Omega.{arith}
use lib.ListN.{length, length-append, length-replicate}
use Rattle.registers.specs.Text.{Text}
use Rattle.interpreter.specs.Box.{Box, Memory, memory, blank, power_up, store_size}
use Rattle.interpreter.specs.State.{box_of}
use Rattle.writer.specs.Marking.{Progress, at_start, fed, closed, report_at, verdict_of, progress_of, possible_marker, most_lines, Lent, Begun, Fed, Finished, Feeds, none, more, MarksSession}
use Rattle.writer.specs.declared.session.Place.{Place}
use Rattle.writer.specs.declared.session.Marker.{Marker}
use Rattle.writer.specs.declared.session.Report.{Report}
use Rattle.writer.proofs.session.Bytes.{fed-append}
use Rattle.writer.proofs.session.Feeding.{sound-few}
use Rattle.writer.proofs.session.Verdicts.{session-verdict}

record Fed-all (m n : Marker) (store room store₁ room₁ : Text) (bytes : Text) : Type 0 where
  is : progress_of n store₁ room₁ ≡ fed (progress_of m store room) bytes
  possible : possible_marker n ≡ true
  lent : Lent store₁ room₁

feeds-all : {m n : Marker} {store room store₁ room₁ : Text} {pieces : List Text} → Feeds m store room pieces n store₁ room₁
    → Lent store room → possible_marker m ≡ true → m.place.number + length (flatten pieces) < most_lines → Fed-all m n store room store₁ room₁ (flatten pieces)
unfolding fed flatten
feeds-all none lent p few = record { is = refl; possible = p; lent = lent }
feeds-all {m} {n} {store} {room} (more {n = k} {bytes = bytes} {pieces = pieces} f fs) lent p few =
    let w = f.possible lent p in
    let l = length-append bytes (flatten pieces) in
    let s = w.2 in
    let q = sound-few k w.1 (omega arith) in
    let r = feeds-all fs w.3 q (omega arith) in
    record {
      is = r.is ∙ ap (λ (p : Progress). fed p (flatten pieces)) w.0 ∙ sym (fed-append (progress_of m store room) bytes (flatten pieces));
      possible = r.possible;
      lent = r.lent;
    }

blank-long : length blank.store ≡ store_size
unfolding blank
blank-long = length-replicate {A = ℕ} store_size 0

quiet-start : (power_up blank).core.answer ≡ []
unfolding power_up
quiet-start = refl

-- "from power-up", with a store of zeros
begun-progress : (m : Marker) (store room : Text) → Begun m → store ≡ blank.store
    → progress_of m store room ≡ record { box = power_up blank; room = room; place = at_start }
begun-progress m store room h zeros =
    ap₂ (λ (b : Box) (q : Place). record { box = b; room = room; place = q }) (ap (λ (t : Text). box_of m.state (memory t)) zeros ∙ h.started.first blank) h.place

pub marks-session : MarksSession
marks-session m n store room store₁ room₁ store₂ room₂ pieces r h zeros wide few fs end =
    let lent : Lent store room = record { sized = ap length zeros ∙ blank-long; wide = wide } in
    let z : m.place.number ≡ 0 = ap (λ (q : Place). q.number) h.place in
    let w = feeds-all fs lent h.possible (omega arith) in
    let e = end.possible w.lent w.possible in
    let is : progress_of n store₁ room₁ ≡ fed (record { box = power_up blank; room = room; place = at_start }) (flatten pieces) =
    w.is ∙ ap (λ (p : Progress). fed p (flatten pieces)) (begun-progress m store room h zeros) in
    ap₂ (λ (x : Report) (t : Text). verdict_of x t) e.0 e.1
    ∙ ap (λ (p : Progress). verdict_of (report_at (closed p).place) (closed p).room) is
    ∙ session-verdict (power_up blank) room (flatten pieces) quiet-start (omega arith)

-- ---- what two calls leave that meet one promise

pub fed-unique : (m : Marker) (store room bytes : Text) (r r' : Marker) (store₁ room₁ store₂ room₂ : Text) → Lent store room → possible_marker m ≡ true
    → Fed m store room bytes r store₁ room₁ → Fed m store room bytes r' store₂ room₂ → progress_of r store₁ room₁ ≡ progress_of r' store₂ room₂
fed-unique m store room bytes r r' store₁ room₁ store₂ room₂ lent p v w = (v.possible lent p).0 ∙ sym (w.possible lent p).0

pub finished-unique : (m : Marker) (store room : Text) (r r' : Report) (store₁ room₁ store₂ room₂ : Text) → Lent store room
    → Finished m store room r store₁ room₁ → Finished m store room r' store₂ room₂ → (r ≡ r') × (store₁ ≡ store₂) × (room₁ ≡ room₂)
finished-unique m store room r r' store₁ room₁ store₂ room₂ lent v w = go (possible_marker m) refl
  where
    go : (t : Bool) → possible_marker m ≡ t → (r ≡ r') × (store₁ ≡ store₂) × (room₁ ≡ room₂)
    go true e =
        let a = v.possible lent e in
        let b = w.possible lent e in
        (a.0 ∙ sym b.0, ap (λ (k : Memory). k.store) (a.2 ∙ sym b.2), a.1 ∙ sym b.1)
    go false e =
        let a = v.impossible lent e in
        let b = w.impossible lent e in
        (a.0 ∙ sym b.0, a.1 ∙ sym b.1, a.2 ∙ sym b.2)
