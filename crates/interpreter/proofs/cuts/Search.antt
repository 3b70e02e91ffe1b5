-- The search for a separator outside quotes: a byte that separates nothing is passed over, with the quote that is open after it.
use mathlib.Core.Path.{◌≡◌, refl, sym}
use mathlib.Core.Bool.{Bool, true, false, not, ◌&&◌, ◌||◌, false≢true}
use Prim.Native.Nat.{ℕ, suc, ◌+◌, ◌≤◌, ◌<◌}
use native.Mathlib.Omega.{arith}
use native.Mathlib.Numerals.{add-one}
use lib.Dec.{eqb}
use lib.ListN.{length, get_or, drop, drop_of_length-le}
use lib.Seq.{drop-cons}
use Rattle.std.specs.Prelude.{Option, Some, None, is_some}
use Rattle.registers.specs.Text.{Text, if◌then◌otherwise◌}
use Rattle.interpreter.specs.Cuts.{is_quote, quote_next, separates}
use Rattle.interpreter.specs.CutsParts.{byte_of, open_mark, place_open, OnWay}
use Rattle.interpreter.specs.declared.cuts.Quote.{Quote}
use Rattle.interpreter.specs.declared.cuts.Quote.TheVariants.{Double, Single}

-- no quote has the byte 0
pub is-open : (q : Quote) → eqb (byte_of q) 0 ≡ false
is-open Double = refl
is-open Single = refl

-- how the code asks whether no quote is open, and whether a byte separates
pub unopened : (mark : Option Quote) (none : Bool) → is_some mark ≡ not none → none ≡ eqb (open_mark mark) 0
unopened None true e = refl
unopened None false e = absurd (false≢true e)
unopened (Some q) true e = absurd (false≢true (sym e))
unopened (Some q) false e = sym (is-open q)

pub separated : (mark : Option Quote) (s b : ℕ) (none : Bool) → is_some mark ≡ not none → separates s (open_mark mark) b ≡ (none && eqb b s)
separated mark s b none e = rw (unopened mark none e)

module _ (s : ℕ) (l : Text) (at i mark : ℕ) (w : OnWay s l at i mark) where
  module _ (h : i < length l) where
    pub way-stop : separates s mark (get_or l i 0) ≡ true → (i ≡ at + place_open s 0 (drop at l)) × (i ≤ length l)
    unfolding place_open if◌then◌otherwise◌
    way-stop e = let k : i + 0 ≡ at + place_open s 0 (drop at l) = rw (drop-cons l i 0 h, e) at w.is in (omega arith, w.within)

    pub way_on : separates s mark (get_or l i 0) ≡ false → OnWay s l at (i + 1) (quote_next mark (get_or l i 0))
    unfolding place_open if◌then◌otherwise◌
    way_on e =
        let k : i + suc (place_open s (quote_next mark (get_or l i 0)) (drop (suc i) l)) ≡ at + place_open s 0 (drop at l) =
        rw (drop-cons l i 0 h, e) at w.is in
        record { within = omega arith; is = rw (add-one i) (omega arith) }

  pub way_end : length l ≤ i → (i ≡ at + place_open s 0 (drop at l)) × (i ≤ length l)
  unfolding place_open
  way_end h = let k : i + 0 ≡ at + place_open s 0 (drop at l) = rw (drop_of_length-le l h) at w.is in (omega arith, w.within)

-- outside quotes, a byte that is neither the separator nor a quote
pub way-plain : (s : ℕ) (l : Text) (at i : ℕ) → OnWay s l at i 0 → i < length l → (eqb (get_or l i 0) s || is_quote (get_or l i 0)) ≡ false
    → OnWay s l at (i + 1) 0
unfolding quote_next if◌then◌otherwise◌
way-plain s l at i w h e = go (eqb (get_or l i 0) s) (is_quote (get_or l i 0)) refl refl e
  where
    go : (t q : Bool) → eqb (get_or l i 0) s ≡ t → is_quote (get_or l i 0) ≡ q → (t || q) ≡ false → OnWay s l at (i + 1) 0
    go true q p r f = absurd (false≢true (sym f))
    go false true p r f = absurd (false≢true (sym f))
    go false false p r f = rw r at (way_on s l at i 0 w h p)
