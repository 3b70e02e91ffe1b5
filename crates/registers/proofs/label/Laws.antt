-- Reading a string: its invariant, `Reading`, says that the bytes taken so far and what is left mean what all of it means, and that the record
-- holds the taken ones.
use mathlib.Core.Path.{◌≡◌, refl, sym, ◌∙◌, ap}
use mathlib.Core.Bool.{Bool, true, false, not, ◌&&◌, ◌||◌, false≢true}
use mathlib.Core.List.{[], ◌∷◌, ◌++◌, append_assoc, append-nil}
use Prim.Native.Nat.{ℕ, zero, suc, ◌+◌, ◌≤◌, ◌<◌}
use native.Mathlib.Omega.{arith}
use native.Mathlib.Numerals.{add-one}
use lib.Dec.{eqb}
use lib.ListN.{length, get_or, set, drop, replicate, length-append, drop_of_length-le}
use lib.Seq.{drop-cons}
use Rattle.registers.specs.Text.{Text, if◌then◌otherwise◌, every, first, rest}
use Rattle.registers.specs.Label.{most_text, may_stand, closes, undoubled, padded, LabelRead}
use Rattle.registers.proofs.Tests.{and_assoc}
use Rattle.registers.proofs.text.Laws.{rest_at}

-- ---- the record of a text, one byte longer; a byte that has no place is left out

set-padded : (n : ℕ) (t : Text) (b : ℕ) → set (padded n t) (length t) b ≡ padded n (t ++ b ∷ [])
unfolding padded
set-padded zero t b = refl
set-padded (suc n) [] b = refl
set-padded (suc n) (x ∷ t) b = ap (λ (l : Text). x ∷ l) (set-padded n t b)

every-one-more : (p : ℕ → Bool) (t : Text) (b : ℕ) → every p (t ++ b ∷ []) ≡ (every p t && p b)
every-one-more p [] b = go (p b)
  where
    go : (x : Bool) → (x && true) ≡ x
    go true = refl
    go false = refl
every-one-more p (x ∷ t) b = ap (λ (w : Bool). p x && w) (every-one-more p t b) ∙ sym (and_assoc (p x) (every p t) (p b))

-- ---- the loop

pub record Reading (t : Text) (q : ℕ) (bytes : Text) (count : ℕ) (allowed pending good : Bool) (i : ℕ) : Type 0 where
  pub few : count ≤ i
  pub taken : Text
  pub all : taken ++ undoubled q pending (drop i t) ≡ undoubled q false t
  pub held : bytes ≡ padded most_text taken
  pub many : count ≡ length taken
  pub fine : allowed ≡ every may_stand taken
  pub shut : (good && closes q pending (drop i t)) ≡ closes q false t

pub reading-start : (t : Text) (q : ℕ) → Reading t q (replicate most_text 0) 0 true false true 0
unfolding padded
reading-start t q = record { few = omega arith; taken = []; all = refl; held = refl; many = refl; fine = refl; shut = refl }

-- a quote that may close, and any other byte
quote-means : (q b : ℕ) (pending : Bool) (bs : Text) → (not pending && eqb b q) ≡ true
    → (undoubled q pending (b ∷ bs) ≡ undoubled q true bs) × (closes q pending (b ∷ bs) ≡ closes q true bs)
unfolding undoubled closes if◌then◌otherwise◌
quote-means q b true bs e = absurd (false≢true e)
quote-means q b false bs e = (rw e, rw (e, closes))

byte-means : (q b : ℕ) (pending good : Bool) (bs : Text) → (not pending && eqb b q) ≡ false
    → (undoubled q pending (b ∷ bs) ≡ b ∷ undoubled q false bs)
    × (((good && (not pending || eqb b q)) && closes q false bs) ≡ (good && closes q pending (b ∷ bs)))
unfolding undoubled closes if◌then◌otherwise◌
byte-means q b true good bs e = (refl, and_assoc good (eqb b q) (closes q false bs))
byte-means q b false true bs e = (rw e, rw (e, closes))
byte-means q b false false bs e = (rw e, refl)

module _ {t : Text} {q : ℕ} {bytes : Text} {count : ℕ} {allowed pending good : Bool} {i : ℕ} (w : Reading t q bytes count allowed pending good i)
    (h : i < length t) where
  here : drop i t ≡ get_or t i 0 ∷ drop (i + 1) t
  here = rw (drop-cons t i 0 h, add-one i)

  pub reading-quote : (not pending && eqb (get_or t i 0) q) ≡ true → Reading t q bytes count allowed true good (i + 1)
  reading-quote e =
      let m = quote-means q (get_or t i 0) pending (drop (i + 1) t) e in
      let few = w.few in
      record {
        few = omega arith;
        taken = w.taken;
        all = rw (here, m.0) at w.all;
        held = w.held;
        many = w.many;
        fine = w.fine;
        shut = rw (here, m.1) at w.shut;
      }

  pub reading-byte : (not pending && eqb (get_or t i 0) q) ≡ false
      → Reading t q (set bytes count (get_or t i 0)) (count + 1) (allowed && may_stand (get_or t i 0)) false (good && (not pending || eqb (get_or t i 0) q)) (i + 1)
  reading-byte e =
      let b = get_or t i 0 in
      let more = drop (i + 1) t in
      let m = byte-means q b pending good more e in
      let few = w.few in
      let was : w.taken ++ (b ∷ undoubled q false more) ≡ undoubled q false t = rw (here, m.0) at w.all in
      let many = w.many in
      record {
        few = omega arith;
        taken = w.taken ++ b ∷ [];
        all = append_assoc w.taken (b ∷ []) (undoubled q false more) ∙ was;
        held = rw (w.held, w.many) (set-padded most_text w.taken b);
        many = omega (arith, length-append w.taken (b ∷ []));
        fine = rw w.fine (sym (every-one-more may_stand w.taken b));
        shut = m.1 ∙ (rw here at w.shut);
      }

-- t is the string without its opening quote
pub reading-end : (string : Text) {t : Text} {q : ℕ} {bytes : Text} {count : ℕ} {allowed pending good : Bool} {i : ℕ}
    → Reading t q bytes count allowed pending good i → length t ≤ i → q ≡ first string → t ≡ drop 1 string
    → LabelRead string (record { closed = good && pending; allowed = allowed; count = count; bytes = bytes })
unfolding undoubled closes
reading-end string {t} {q} {bytes} {count} {allowed} {pending} {good} {i} w h e f =
    let none : drop i t ≡ [] = drop_of_length-le t h in
    let behind : t ≡ rest string = f ∙ sym (rest_at string 0) in
    let m = ended q pending in
    let all : w.taken ≡ undoubled (first string) false (rest string) =
    sym (append-nil w.taken) ∙ (rw (none, m.0) at w.all) ∙ rw (e, behind) in
    record {
      closed = (rw (none, m.1) at w.shut) ∙ rw (e, behind);
      allowed = w.fine ∙ ap (every may_stand) all;
      count = w.many ∙ ap length all;
      bytes = w.held ∙ ap (padded most_text) all;
    }
  where
    ended : (q : ℕ) (pending : Bool) → (undoubled q pending [] ≡ []) × (closes q pending [] ≡ pending)
    ended q true = (refl, refl)
    ended q false = (refl, refl)
