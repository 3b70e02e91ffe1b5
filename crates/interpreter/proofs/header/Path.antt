-- The path as numbers: the row that a header's names have after the path, and the path that they leave. Seven numbers are held, which is
-- enough: no row has more than five nodes, so a longer list of names has no row, cut to seven or not.
use mathlib.Core.Path.{◌≡◌, refl, sym, ◌∙◌, ap, subst}
use mathlib.Core.Bool.{Bool, true, false}
use mathlib.Core.List.{List, [], ◌∷◌, ◌++◌, map, map-append}
use Prim.Native.Nat.{ℕ, suc, ◌+◌, ◌-◌, ◌≤◌, ◌<◌}
use native.Mathlib.Omega.{arith}
use lib.Dec.{ltb}
use lib.ListN.{length, take, drop, length-append, length-take, length-map}
use borrow.Author.Tests.{ltb-true, ltb-false}
use lib.Seq.{length-take-le, take_all, take-take, take-append_seam, drop-append_seam}
use Rattle.registers.specs.Text.{Text, if◌then◌otherwise◌, every}
use Rattle.registers.proofs.Tests.{and_both, and-true, every_append}
use Rattle.interpreter.specs.Cuts.{front}
use Rattle.interpreter.specs.Header.{name, suffix_in}
use Rattle.interpreter.specs.NameParts.{class_of, key_of, most_names}
use Rattle.interpreter.specs.DeedParts.{row_count, place_of}
use Rattle.interpreter.specs.RowsParts.{row_of, class_in, row_of_keys}
use Rattle.interpreter.specs.TableParts.{or_zero}
use Rattle.interpreter.specs.HeaderParts.{Holds, IsPath}
use Rattle.interpreter.specs.declared.path.Path.{Path}
use Rattle.interpreter.proofs.rows.Numbers.{row_same, held_same, found-few}
use Rattle.interpreter.proofs.rows.Suffixes.{class-names}
use Rattle.interpreter.proofs.deed.Laws.{place-nowhere}

every_front {ℓ} : {A : Type ℓ} (p : A → Bool) (l : List A) → every p l ≡ true → every p (front l) ≡ true
unfolding if◌then◌otherwise◌
every_front p [] e = refl
every_front p (x ∷ []) e = refl
every_front p (x ∷ y ∷ l) e = let q = and_both (p x) (every p (y ∷ l)) e in and-true q.0 (every_front p (y ∷ l) q.1)

front-keys : (l : List Text) → map key_of (front l) ≡ take (length l - 1) (map key_of l)
unfolding if◌then◌otherwise◌
front-keys [] = refl
front-keys (x ∷ []) = refl
front-keys (x ∷ y ∷ l) =
    let z : suc (suc (length l) - 1) ≡ suc (suc (length l)) - 1 = omega arith in
    ap (λ (u : List ℕ). key_of x ∷ u) (front-keys (y ∷ l)) ∙ ap (λ (n : ℕ). take n (map key_of (x ∷ y ∷ l))) z

-- no path
pub at-root : (p : Path) → p.used ≡ 0 → IsPath [] p
at-root p e = record { all = refl; is = rw e }

pub or-zero-small : (keep : Bool) (n : ℕ) → or_zero keep n ≤ n
or-zero-small true n = omega arith
or-zero-small false n = omega arith

-- the names of a header after those of a path
module _ (path names : List Text) (known : every name path ≡ true) (good : every name names ≡ true)
    (keys : List ℕ) (long : length keys ≡ most_names) (count : ℕ) (few : count ≤ most_names)
    (held : take count keys ≡ take most_names (map key_of path ++ map key_of names)) where
  abbrev full : List Text
  full = path ++ names

  full-good : every name full ≡ true
  full-good = every_append name path names known good

  all_held : take count keys ≡ take most_names (map key_of full)
  all_held = held ∙ ap (take most_names) (sym (map-append key_of path names))

  pub path-row : (asked : Bool) → row_of_keys false (take count keys) asked ≡ row_of false full asked
  path-row asked = ap (λ (k : List ℕ). row_of_keys false k asked) all_held ∙ held_same false asked (map key_of full) ∙ row_same false full asked full-good

  -- a header that has a row has all its names held
  all-names : (asked : Bool) → row_of false full asked < row_count → take count keys ≡ map key_of full
  all-names asked h =
      let short = found-few false asked (map key_of full) (rw (sym (row_same false full asked full-good)) at h) in
      all_held ∙ take_all most_names (map key_of full) (omega arith)

  -- so that its place is the one of its names
  pub path-place : (asked : Bool) → place_of (row_of_keys false (take count keys) asked) (class_in (take count keys)) ≡ place_of (row_of false full asked) (class_of (suffix_in full))
  path-place asked = rw (path-row asked) (go (ltb (row_of false full asked) row_count) refl)
    where
      go : (b : Bool) → ltb (row_of false full asked) row_count ≡ b
          → place_of (row_of false full asked) (class_in (take count keys)) ≡ place_of (row_of false full asked) (class_of (suffix_in full))
      go true e = rw (all-names asked (ltb-true _ row_count e), class-names full full-good)
      go false e = place-nowhere (row_of false full asked) _ _ (ltb-false _ row_count e)

  -- a header that has a row leaves all its names but the last
  pub path-left : (asked : Bool) → row_of false full asked < row_count → Holds (front full) keys (count - 1)
  path-left asked h =
      let short = found-few false asked (map key_of full) (rw (sym (row_same false full asked full-good)) at h) in
      let all : take count keys ≡ map key_of full = all_held ∙ take_all most_names (map key_of full) (omega arith) in
      let m = length-map full key_of in
      let c = sym (length-take-le count keys (omega arith)) ∙ ap length all ∙ m in
      record {
        all = every_front name full full-good;
        is = sym (take-take (count - 1) count keys (omega arith)) ∙ rw all (rw c (sym (front-keys full)));
      }

-- a common command's name stands after the path, which stays
module _ (before : List ℕ) (used : ℕ) (room : used < most_names) (was : length before ≡ most_names) (n : Text)
    (keys : List ℕ) (long : length keys ≡ most_names) (count : ℕ) (few : count ≤ most_names)
    (held : take count keys ≡ take most_names (take used before ++ key_of n ∷ [])) where
  entered-after : take count keys ≡ take used before ++ key_of n ∷ []
  entered-after =
      let l = length-take used before in
      let a = length-append (take used before) (key_of n ∷ []) in
      held ∙ take_all most_names (take used before ++ key_of n ∷ []) (omega arith)

  pub counted : count ≡ used + 1
  counted =
      let l = length-take used before in
      let a = length-append (take used before) (key_of n ∷ []) in
      let c = sym (length-take-le count keys (omega arith)) ∙ ap length entered-after in
      omega arith

  pub star-row : name n ≡ true → (asked : Bool) → row_of_keys true (drop used (take count keys)) asked ≡ row_of true (n ∷ []) asked
  star-row e asked =
      let d : drop used (take count keys) ≡ key_of n ∷ [] =
      rw entered-after (subst (λ (k : ℕ). drop k (take used before ++ key_of n ∷ []) ≡ key_of n ∷ []) (length-take-le used before (omega arith)) (drop-append_seam (take used before) (key_of n ∷ []))) in
      rw d (row_same true (n ∷ []) asked (rw e))

  pub star-place : name n ≡ true → (asked : Bool)
      → place_of (row_of_keys true (drop used (take count keys)) asked) (class_in (drop used (take count keys))) ≡ place_of (row_of true (n ∷ []) asked) (class_of (suffix_in (n ∷ [])))
  star-place e asked =
      let d : drop used (take count keys) ≡ key_of n ∷ [] =
      rw entered-after (subst (λ (k : ℕ). drop k (take used before ++ key_of n ∷ []) ≡ key_of n ∷ []) (length-take-le used before (omega arith)) (drop-append_seam (take used before) (key_of n ∷ []))) in
      rw d (rw (row_same true (n ∷ []) asked (rw e), class-names (n ∷ []) (rw e)))

  pub star-left : (path : List Text) → Holds path before used → Holds path keys (count - 1)
  star-left path p =
      let c = counted in
      let u : count - 1 ≡ used = omega arith in
      let k : take used keys ≡ take used before =
      sym (take-take used count keys (omega arith))
      ∙ rw entered-after (subst (λ (k : ℕ). take k (take used before ++ key_of n ∷ []) ≡ take used before) (length-take-le used before (omega arith)) (take-append_seam (take used before) (key_of n ∷ []))) in
      rw u (record { all = p.all; is = k ∙ p.is })
