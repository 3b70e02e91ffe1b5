-- Laws of a text read from a place, over any test of a byte: its first byte, the longest start that passes, and what stands after
-- it. `OnWay` is the invariant of every scan: from its place a scan finds the end that the start of the text has.
use mathlib.Core.Path.{◌≡◌, refl, ap, sym, ◌∙◌}
use mathlib.Core.Bool.{Bool, true, false, false≢true, not, cond, ◌&&◌}
use mathlib.Core.List.{List, [], ◌∷◌}
use Prim.Native.Nat.{ℕ, zero, suc, ◌+◌, ◌-◌, ◌≤◌, ◌<◌}
use Prim.Native.Char.{code}
use native.Mathlib.Numerals.{add-one}
use native.Mathlib.Omega.{arith}
use lib.Dec.{T, eqb, leb, ltb, leb→le, leb-zero, leb-suc-zero, leb-suc-suc}
use lib.ListN.{length, get_or, take, drop, length-drop, drop_of_length-le, get_or-eq_default}
use lib.Seq.{drop-cons, drop-drop}
use mir.Facts.{and_yes}
use borrow.Author.Tests.{ltb-true, ltb-false, eqb-true, eq-eqb}
use denote.Param.Members.{Mut}
use denote.Ref.{Bor}
use Rattle.std.proofs.iter.Yields.{fronts}
use Rattle.std.proofs.lemmas.Iterator.{YieldsList-from_slice}
use Rattle.std.proofs.lemmas.Iterator.Search.{YieldsList-from_take_while}
use Rattle.std.proofs.lemmas.Iterator.Consumers.{count_from_yields_List}
use Rattle.std.specs.Fn.{CalledAt}
use Rattle.std.specs.Iterator.{Drains}
use Rattle.std.specs.Iterator.Adapters.{take_while_source, take_while_done, take_while_callee, take_while_steps}
use Rattle.std.specs.Slice.Iter.{iter_rest}
use Rattle.std.specs.declared.iter.TakeWhile.{TakeWhile}
use Rattle.std.specs.declared.slice.Iter.{Iter}
use Rattle.std.specs.Char.{to_ascii_uppercase}
use Rattle.std.specs.List.{take_while}
use Rattle.std.proofs.lemmas.List.Sums.{take_while-cons}
use Rattle.registers.proofs.Tests.{lt_not, and_both, and-true}
use Rattle.registers.specs.Text.{Text, if◌then◌otherwise◌, digit, small, capital, every, empty, first, rest, start, after, index_of, index_after, same}

-- ---- at a place

pub first-at : (l : Text) (i : ℕ) → first (drop i l) ≡ get_or l i 0
first-at [] zero = refl
first-at [] (suc i) = refl
first-at (x ∷ l) zero = refl
first-at (x ∷ l) (suc i) = first-at l i

pub rest_at : (l : Text) (i : ℕ) → rest (drop i l) ≡ drop (i + 1) l
rest_at [] zero = refl
rest_at [] (suc i) = rw add-one
rest_at (x ∷ l) zero = refl
rest_at (x ∷ l) (suc i) = rest_at l i ∙ rw (add-one, add-one)

-- nothing is left at a place exactly where it is at or past the end
pub empty-at : (l : Text) (i : ℕ) → empty (drop i l) ≡ leb (length l) i
empty-at [] zero = refl
empty-at [] (suc i) = sym (leb-zero (suc i))
empty-at (x ∷ l) zero = sym (leb-suc-zero (length l))
empty-at (x ∷ l) (suc i) = empty-at l i ∙ sym (leb-suc-suc (length l) i)

-- a byte that passes a test which 0 does not pass stands in the text
pub first-within : (p : ℕ → Bool) (l : Text) (i : ℕ) → p 0 ≡ false → p (first (drop i l)) ≡ true → i < length l
first-within p l i z e = go (ltb i (length l)) refl
  where
    go : (b : Bool) → ltb i (length l) ≡ b → i < length l
    go true q = ltb-true i (length l) q
    go false q =
        let none = first-at l i ∙ get_or-eq_default l 0 (ltb-false i (length l) q) in
        absurd (false≢true (sym z ∙ ap p (sym none) ∙ e))

-- ---- the longest start that passes, at a place: one byte more, or its end

module _ (p : ℕ → Bool) (l : Text) (i : ℕ) (h : i < length l) where
  pub start-more : p (get_or l i 0) ≡ true → start p (drop i l) ≡ get_or l i 0 ∷ start p (drop (i + 1) l)
  unfolding if◌then◌otherwise◌
  start-more e = rw (drop-cons l i 0 h, add-one i, e)

  pub start-stop : p (get_or l i 0) ≡ false → start p (drop i l) ≡ []
  unfolding if◌then◌otherwise◌
  start-stop e = rw (drop-cons l i 0 h, e)

module _ (p : ℕ → Bool) (l : Text) (i : ℕ) (h : length l ≤ i) where
  pub start-end : start p (drop i l) ≡ []
  start-end = rw (drop_of_length-le l h)

-- ---- the whole of that start

pub drop-start : (p : ℕ → Bool) (t : Text) → drop (length (start p t)) t ≡ after p t
unfolding if◌then◌otherwise◌
drop-start p [] = refl
drop-start p (b ∷ bs) = go (p b) (drop-start p bs)
  where
    go : (e : Bool) → drop (length (start p bs)) bs ≡ after p bs
        → drop (length (if e then b ∷ start p bs otherwise [])) (b ∷ bs) ≡ (if e then after p bs otherwise b ∷ bs)
    go true ih = ih
    go false ih = refl

pub take-start : (p : ℕ → Bool) (t : Text) → take (length (start p t)) t ≡ start p t
unfolding if◌then◌otherwise◌
take-start p [] = refl
take-start p (b ∷ bs) = go (p b) (take-start p bs)
  where
    go : (e : Bool) → take (length (start p bs)) bs ≡ start p bs
        → take (length (if e then b ∷ start p bs otherwise [])) (b ∷ bs) ≡ (if e then b ∷ start p bs otherwise [])
    go true ih = ap (λ (l : Text). b ∷ l) ih
    go false ih = refl

pub start-short : (p : ℕ → Bool) (t : Text) → length (start p t) ≤ length t
unfolding if◌then◌otherwise◌
start-short p [] = omega arith
start-short p (b ∷ bs) = go (p b) (start-short p bs)
  where
    go : (e : Bool) → length (start p bs) ≤ length bs → length (if e then b ∷ start p bs otherwise []) ≤ suc (length bs)
    go true ih = omega arith
    go false ih = omega arith

pub start-passes : (p : ℕ → Bool) (t : Text) → T (every p (start p t))
unfolding if◌then◌otherwise◌
start-passes p [] = tt
start-passes p (b ∷ bs) = go (p b) refl (start-passes p bs)
  where
    go : (e : Bool) → p b ≡ e → T (every p (start p bs)) → T (every p (if e then b ∷ start p bs otherwise []))
    go true q ih = rw q ih
    go false q ih = tt

-- as std has it
pub start-while : (p : ℕ → Bool) (t : Text) → take_while p t ≡ start p t
unfolding if◌then◌otherwise◌
start-while p [] = refl
start-while p (b ∷ bs) = rw (take_while-cons, start-while p bs) (go (p b))
  where
    go : (e : Bool) → cond e (b ∷ start p bs) [] ≡ (if e then b ∷ start p bs otherwise [])
    go true = refl
    go false = refl

-- where it ends
module _ (p : ℕ → Bool) (l : Text) (i e : ℕ) (is : e ≡ i + length (start p (drop i l))) where
  pub end-drop : drop e l ≡ after p (drop i l)
  end-drop = rw is (sym (drop-drop (length (start p (drop i l))) i l) ∙ drop-start p (drop i l))

  pub end-within : i ≤ length l → e ≤ length l
  end-within h = let s = start-short p (drop i l) in let d = length-drop i l in omega arith

-- ---- the loop that looks for that end

-- i is on the way from a place to the end of the longest start
abbrev pub OnWay : (ℕ → Bool) → Text → ℕ → ℕ → Type 0
OnWay p l at i = i + length (start p (drop i l)) ≡ at + length (start p (drop at l))

module _ (p : ℕ → Bool) (l : Text) (at i : ℕ) (w : OnWay p l at i) where
  pub way_on : i < length l → p (get_or l i 0) ≡ true → OnWay p l at (i + 1)
  way_on h e = let k : i + suc (length (start p (drop (i + 1) l))) ≡ at + length (start p (drop at l)) = rw (start-more p l i h e) at w in omega arith

  pub way-stop : i < length l → p (get_or l i 0) ≡ false → i ≡ at + length (start p (drop at l))
  way-stop h e = let k : i + 0 ≡ at + length (start p (drop at l)) = rw (start-stop p l i h e) at w in omega arith

  pub way_end : length l ≤ i → i ≡ at + length (start p (drop at l))
  way_end h = let k : i + 0 ≡ at + length (start p (drop at l)) = rw (start-end p l i h) at w in omega arith

-- ---- counting that start: bytes are taken as long as a closure's test passes, which is p

module _ {F : Type 0} {g : Mut F (Bor (Bor ℕ) × Unit {0}) Bool} (p : ℕ → Bool) (t : Text) (s : TakeWhile (Iter ℕ) F) where
  pub counted : (r : ℕ) → (xs : List (Bor ℕ)) × Drains (take_while_steps fronts g) s xs × (r ≡ length xs)
      → iter_rest (take_while_source s) ≡ t → take_while_done s ≡ false
      → ((x : Bor ℕ) (b : Bool) (q : F) → CalledAt g (take_while_callee s) x b q → (q ≡ take_while_callee s) × (b ≡ p x.now))
      → r ≡ length (start p t)
  counted r ran rest-is more k =
      count_from_yields_List s r ran (YieldsList-from_take_while g p (YieldsList-from_slice t rest-is) refl more k)
      ∙ ap length (start-while p t)

-- ---- the first byte of a kind: the bytes before it are the longest start of others

abbrev pub other : ℕ → ℕ → Bool
other b x = not (eqb x b)

pub index-start : (b : ℕ) (t : Text) → length (start (other b) t) ≡ index_of b t
unfolding index_of index_after if◌then◌otherwise◌
index-start b [] = refl
index-start b (x ∷ xs) = go (eqb x b) (index-start b xs)
  where
    go : (e : Bool) → length (start (other b) xs) ≡ index_of b xs
        → length (if not e then x ∷ start (other b) xs otherwise []) ≡ index_after e (index_of b xs)
    go true ih = refl
    go false ih = ap suc ih

-- ---- the same bytes

pub same-eq : (x y : Text) → same x y ≡ true → x ≡ y
unfolding same
same-eq [] [] e = refl
same-eq [] (y ∷ ys) e = absurd (false≢true e)
same-eq (x ∷ xs) [] e = absurd (false≢true e)
same-eq (x ∷ xs) (y ∷ ys) e = let p = and_both (eqb x y) (same xs ys) e in rw (eqb-true x y p.0, same-eq xs ys p.1)

pub same_refl : (x y : Text) → x ≡ y → same x y ≡ true
unfolding same
same_refl x y e = rw e (go y)
  where
    go : (y : Text) → same y y ≡ true
    go [] = refl
    go (b ∷ bs) = and-true (eq-eqb b b refl) (go bs)

-- ---- kinds of bytes

-- as std has it: a letter is told by two bounds, one after the other
pub capital-is : (b : ℕ) → to_ascii_uppercase b ≡ capital b
unfolding capital small if◌then◌otherwise◌
capital-is b = rw (lt_not b 97, leb-suc-suc b 122) (go (leb 97 b) (leb b 122))
  where
    go : (x y : Bool) → cond (not x) b (cond y (b - 32) b) ≡ (if x && y then b - 32 otherwise b)
    go true true = refl
    go true false = refl
    go false y = refl

pub digit-bounds : (b : ℕ) → T (digit b) → (code "0" ≤ b) × (b ≤ code "9")
unfolding digit
digit-bounds b t = let h = and_yes (leb (code "0") b) (leb b (code "9")) t in (leb→le (code "0") b h.0, leb→le b (code "9") h.1)
