-- The loop over a header's names. Its invariant, `Naming`: the names before place i stand after the path, as many as seven places hold, and
-- the text at i tells the other names, whether it asks and where it ends, as the whole text does. A name is read at i, entered, and a
-- colon leads to the next i.
use mathlib.Core.Path.{◌≡◌, refl, sym, ◌∙◌, ap, subst}
use mathlib.Core.Bool.{Bool, true, false, ◌&&◌, false≢true}
use mathlib.Core.List.{List, [], ◌∷◌, ◌++◌, map, append_assoc}
use Prim.Native.Nat.{ℕ, zero, suc, ◌+◌, ◌≤◌, ◌<◌}
use native.Mathlib.Numerals.{add-one}
use native.Mathlib.Omega.{arith}
use lib.ListN.{length, take, drop, set, length-append, length-take}
use lib.Seq.{take_all, take-suc-set, take-append_seam, drop-drop}
use borrow.Author.Tests.{ne_eqb}
use Rattle.std.specs.Prelude.{Option, Some, None}
use Rattle.registers.specs.Text.{Text, if◌then◌otherwise◌, visible, letter, small, digit, word_byte, every, first, rest, start, after}
use Rattle.registers.proofs.Tests.{is_true, and-true}
use Rattle.registers.proofs.text.Laws.{rest_at, drop-start, start-passes}
use Rattle.interpreter.specs.Header.{name}
use Rattle.interpreter.specs.NameParts.{key_of, name_in, most_names, NameHere}
use Rattle.interpreter.specs.HeaderParts.{asks_in, names_in, Entered, TailRead, NamesRead}
use Rattle.interpreter.specs.declared.name.Name.{Name}
use Rattle.interpreter.specs.declared.header.Names.{Names}
use Prim.Native.Char.{code}
use Rattle.interpreter.proofs.table.Codes.{letter-word}
use Rattle.interpreter.proofs.header.Scan.{scan-none, scan-on, scan-on-asks, scan-on-length, scan-last, scan-last-asks, scan-last-length, scan-bad}

-- ---- a name is entered

module _ (keys : List ℕ) (count key : ℕ) (long : length keys ≡ most_names) where
  pub enter-full : length keys ≤ count → count ≤ most_names → Entered keys count key count keys
  enter-full h k =
      let l = length-take count keys in
      let e : length (take count keys) ≡ most_names = omega arith in
      let s = take-append_seam (take count keys) (key ∷ []) in
      record { is = sym (subst (λ (n : ℕ). take n (take count keys ++ key ∷ []) ≡ take count keys) e s); few = k; some = omega arith }

  pub enter-more : count < length keys → Entered keys count key (count + 1) (set keys count key)
  enter-more h =
      let l = length-take count keys in
      let a = length-append (take count keys) (key ∷ []) in
      record {
        is = rw add-one (take-suc-set keys count key (omega arith)) ∙ sym (take_all most_names (take count keys ++ key ∷ []) (omega arith));
        few = omega arith;
        some = omega arith;
      }

-- ---- the name that a text starts with

start-after : (p : ℕ → Bool) (u : Text) → u ≡ start p u ++ after p u
unfolding if◌then◌otherwise◌
start-after p [] = refl
start-after p (b ∷ t) = go (p b) (start-after p t)
  where
    go : (e : Bool) → t ≡ start p t ++ after p t → b ∷ t ≡ (if e then b ∷ start p t otherwise []) ++ (if e then after p t otherwise b ∷ t)
    go true ih = ap (λ (l : Text). b ∷ l) ih
    go false ih = refl

-- the byte after a longest start doesn't pass
after_first : (p : ℕ → Bool) → p 0 ≡ false → (u : Text) → p (first (after p u)) ≡ false
unfolding if◌then◌otherwise◌
after_first p z [] = z
after_first p z (b ∷ t) = go (p b) refl (after_first p z t)
  where
    go : (e : Bool) → p b ≡ e → p (first (after p t)) ≡ false → p (first (if e then after p t otherwise b ∷ t)) ≡ false
    go true q ih = ih
    go false q ih = q

module _ (u : Text) where
  module _ (e : letter (first u) ≡ true) where
    name-is : name_in u ≡ start word_byte u
    unfolding name_in if◌then◌otherwise◌
    name-is = rw e

    -- it is the longest start of bytes that a name has
    pub is_name : name (name_in u) ≡ true
    unfolding name letter small if◌then◌otherwise◌
    is_name = rw name-is (go u e)
      where
        go : (t : Text) → letter (first t) ≡ true → (letter (first (start word_byte t)) && every word_byte (start word_byte t)) ≡ true
        go [] q = absurd (false≢true q)
        go (b ∷ t) q =
            let l : letter (first (start word_byte (b ∷ t))) ≡ true = rw (letter-word b q) q in
            and-true l (is_true _ (start-passes word_byte (b ∷ t)))

    pub name-split : u ≡ name_in u ++ drop (length (name_in u)) u
    name-split = rw (name-is, drop-start word_byte u) (start-after word_byte u)

    pub name-ends : word_byte (first (drop (length (name_in u)) u)) ≡ false
    unfolding word_byte letter small digit
    name-ends = rw (name-is, drop-start word_byte u) (after_first word_byte refl u)

-- ---- the loop

take_twice : (n : ℕ) (l m : List ℕ) → take n (take n l ++ m) ≡ take n (l ++ m)
take_twice zero l m = refl
take_twice (suc n) [] m = refl
take_twice (suc n) (x ∷ l) m = ap (λ (k : List ℕ). x ∷ k) (take_twice n l m)

-- the names before i are entered, and those of the text at i are still to be read
pub record Naming (joined : Bool) (t : Text) (at : ℕ) (path keys : List ℕ) (count i : ℕ) : Type 0 where
  pub few : count ≤ most_names
  pub long : length keys ≡ most_names
  pub good : every name (names_in joined (drop at t)) ≡ every name (names_in joined (drop i t))
  pub asked : asks_in (drop at t) ≡ asks_in (drop i t)
  pub end : at + length (start visible (drop at t)) ≡ i + length (start visible (drop i t))
  pub held : take most_names (path ++ map key_of (names_in joined (drop at t)))
      ≡ take most_names (take count keys ++ map key_of (names_in joined (drop i t)))

pub naming-start : (joined : Bool) (t : Text) (at used : ℕ) (keys : List ℕ) → used ≤ most_names → length keys ≡ most_names
    → Naming joined t at (take used keys) keys used at
naming-start joined t at used keys h l = record { few = h; long = l; good = refl; asked = refl; end = refl; held = refl }

module _ {joined : Bool} {t : Text} {at : ℕ} {path keys : List ℕ} {count i : ℕ} (n : Naming joined t at path keys count i)
  where
    -- no name is there
    pub naming-none : letter (first (drop i t)) ≡ false → (left : List ℕ) → NamesRead joined t at path None left
    naming-none e left = n.good ∙ scan-none joined (drop i t) e

    module _ (x : Name) (is : NameHere t i x) where
      abbrev w : Text
      w = name_in (drop i t)

      abbrev z : Text
      z = drop x.end t

      is-good : name w ≡ true
      is-good = is_name (drop i t) is.lettered

      after-name : drop (length w) (drop i t) ≡ z
      after-name = drop-drop (length w) i t ∙ rw is.end

      split : drop i t ≡ w ++ z
      split = name-split (drop i t) is.lettered ∙ rw after-name

      ends : word_byte (first z) ≡ false
      ends = rw after-name at (name-ends (drop i t) is.lettered)

      module _ {more : ℕ} {left : List ℕ} (h : Entered keys count x.key more left) (same : length left ≡ length keys) where
        -- it is joined to another
        pub naming-on : joined ≡ true → first z ≡ code ":" → Naming joined t at path left more (x.end + 1)
        naming-on j c =
            let u : z ≡ code ":" ∷ drop (x.end + 1) t = colon-split x.end c in
            let s : drop i t ≡ w ++ (code ":") ∷ drop (x.end + 1) t = split ∙ ap (λ (l : Text). w ++ l) u in
            let on : names_in joined (w ++ (code ":") ∷ drop (x.end + 1) t) ≡ w ∷ names_in joined (drop (x.end + 1) t) = rw j (scan-on w is-good (drop (x.end + 1) t)) in
            let names = ap (names_in joined) s ∙ on in
            let l = ap (λ (u : Text). length (start visible u)) s ∙ scan-on-length w is-good (drop (x.end + 1) t) in
            let e = is.end in
            let d = n.end in
            record {
              few = h.few;
              long = same ∙ n.long;
              good = n.good ∙ ap (every name) names ∙ rw is-good;
              asked = n.asked ∙ ap asks_in s ∙ scan-on-asks w is-good (drop (x.end + 1) t);
              end = omega arith;
              held = n.held ∙ ap (λ (l : List Text). take most_names (take count keys ++ map key_of l)) names ∙ entered (map key_of (names_in joined (drop (x.end + 1) t)));
            }
          where
            colon-split : (e : ℕ) → first (drop e t) ≡ code ":" → drop e t ≡ code ":" ∷ drop (e + 1) t
            colon-split e c = go (drop e t) refl c ∙ ap (λ (l : Text). (code ":") ∷ l) (rest_at t e)
              where
                go : (l : Text) → drop e t ≡ l → first l ≡ code ":" → l ≡ code ":" ∷ rest (drop e t)
                go [] q k = absurd (omega arith)
                go (b ∷ l) q k = rw (q, k)

            entered : (m : List ℕ) → take most_names (take count keys ++ key_of w ∷ m) ≡ take most_names (take more left ++ m)
            entered m =
                ap (λ (k : ℕ). take most_names (take count keys ++ k ∷ m)) (sym is.key)
                ∙ ap (take most_names) (sym (append_assoc (take count keys) (x.key ∷ []) m))
                ∙ sym (take_twice most_names (take count keys ++ x.key ∷ []) m)
                ∙ ap (λ (l : List ℕ). take most_names (l ++ m)) (sym h.is)

        -- it is the last
        module _ (last : joined ≡ true → first z ≡ code ":" → ⊥) (r : Option Names) (v : TailRead t x.end more r) where
          pub naming-end : NamesRead joined t at path r left
          naming-end = go r v
            where
              go : (r : Option Names) → TailRead t x.end more r → NamesRead joined t at path r left
              go (Some r) v =
                  let names = ap (names_in joined) split ∙ scan-last w is-good z v.ends joined in
                  let l = ap (λ (u : Text). length (start visible u)) split ∙ scan-last-length w is-good z v.ends in
                  let e = is.end in
                  let d = n.end in
                  let f = v.end in
                  record {
                    good = n.good ∙ ap (every name) names ∙ rw is-good;
                    asked = v.asked ∙ sym (n.asked ∙ ap asks_in split ∙ scan-last-asks w is-good z v.ends);
                    end = omega arith;
                    held = ap (λ (k : ℕ). take k left) v.count ∙ h.is ∙ ap (λ (k : ℕ). take most_names (take count keys ++ k ∷ [])) is.key
                        ∙ sym (n.held ∙ ap (λ (l : List Text). take most_names (take count keys ++ map key_of l)) names);
                    few = rw v.count h.few;
                    some = rw v.count h.some;
                  }
              go None v =
                  n.good ∙ ap (λ (u : Text). every name (names_in joined u)) split
                  ∙ scan-bad w is-good z v ends joined (λ j. ne_eqb (first z) (code ":") (last j))
