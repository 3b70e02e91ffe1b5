-- What the header reader's own functions say. Nothing of 01 is defined here: see Header.antt and Rows.antt.
use Rattle.std.specs.Prelude.{◌≡◌, Bool, true, false, not, ◌||◌, List, [], ◌∷◌, ◌++◌, map, ℕ, ◌+◌, ◌≤◌, ◌<◌, eqb, length, take, drop, Option, Some, None}
use Prim.Native.Char.{code}
use mir.Val.{bool_byte}
use Rattle.registers.specs.Text.{Text, if◌then◌otherwise◌, visible, every, empty, first, rest, start}
use Rattle.registers.specs.Check.{Checked, refused, passed}
use Rattle.registers.specs.Error.{meant}
use Rattle.interpreter.specs.Cuts.{cut_at}
use Rattle.interpreter.specs.Header.{Header, header, name, asks, full_names, path_after, is_common, body_of, suffix_in}
use Rattle.interpreter.specs.NameParts.{class_of, key_of, most_names}
use Rattle.interpreter.specs.DeedParts.{place_of}
use Rattle.interpreter.specs.TableParts.{or_zero}
use Rattle.interpreter.specs.RowsParts.{row_of}
use Rattle.interpreter.specs.declared.header.Names.{Names}
use Rattle.interpreter.specs.declared.header.Looked.{Looked}
use Rattle.interpreter.specs.declared.path.Path.{Path}

-- ---- the header that a text starts with

-- whether it asks, and its names: one, or those joined by colons
abbrev pub asks_in : Text → Bool
asks_in t = asks (start visible t)

unfoldable pub names_in : Bool → Text → List Text
names_in joined t = if joined then cut_at (code ":") (body_of (start visible t)) otherwise body_of (start visible t) ∷ []

-- a `?` that starts a text is skipped
unfoldable pub unasked : Text → Text
unasked t = if eqb (first t) (code "?") then rest t otherwise t

-- ---- the path as numbers

pub record Holds (names : List Text) (keys : List ℕ) (used : ℕ) : Type 0 where
  pub all : every name names ≡ true
  pub is : take used keys ≡ map key_of names

-- the names that a path has; and that it has some
abbrev pub IsPath : List Text → Path → Type 0
IsPath names p = Holds names p.names p.used

abbrev pub Held : Path → Type 0
Held p = (names : List Text) × IsPath names p

-- ---- what each function finds

-- a number is added to others, unless all places are taken
pub record Entered (keys : List ℕ) (count key r : ℕ) (keys' : List ℕ) : Type 0 where
  pub is : take r keys' ≡ take most_names (take count keys ++ key ∷ [])
  pub few : r ≤ most_names
  pub some : 0 < r

pub record TailGood (t : Text) (at held : ℕ) (r : Names) : Type 0 where
  pub ends : empty (start visible (unasked (drop at t))) ≡ true
  pub asked : r.asked ≡ eqb (first (drop at t)) (code "?")
  pub end : r.end ≡ at + bool_byte (eqb (first (drop at t)) (code "?"))
  pub count : r.count ≡ held

abbrev pub TailRead : Text → ℕ → ℕ → Option Names → Type 0
TailRead t at held None = empty (start visible (unasked (drop at t))) ≡ false
TailRead t at held (Some r) = TailGood t at held r

-- a header's names, which start at a place, are added to those of the path
pub record NamesGood (joined : Bool) (t : Text) (at : ℕ) (path : List ℕ) (r : Names) (keys : List ℕ) : Type 0 where
  pub good : every name (names_in joined (drop at t)) ≡ true
  pub asked : r.asked ≡ asks_in (drop at t)
  pub end : r.end ≡ at + length (start visible (drop at t))
  pub held : take r.count keys ≡ take most_names (path ++ map key_of (names_in joined (drop at t)))
  pub few : r.count ≤ most_names
  pub some : 0 < r.count

abbrev pub NamesRead : Bool → Text → ℕ → List ℕ → Option Names → List ℕ → Type 0
NamesRead joined t at path None keys = every name (names_in joined (drop at t)) ≡ false
NamesRead joined t at path (Some r) keys = NamesGood joined t at path r keys

-- what leads them: after a `*` there is one, and a `:` leads from the root
abbrev pub starred : Text → Bool
starred t = eqb (first t) (code "*")

abbrev pub rooted : Text → Bool
rooted t = eqb (first t) (code ":")

abbrev pub HeaderRead : Path → Text → Option Names → Path → Type 0
HeaderRead p t r q = NamesRead (not (starred t)) t (bool_byte (starred t || rooted t)) (take (or_zero (not (rooted t)) p.used) p.names) r q.names

-- checks 2 and 3 on a header: the place of the names that it stands for, where it ends, and the path that it leaves where there is
-- such a place
pub record FoundRow (path : List Text) (t : Text) (h : Header) (place : Checked ℕ) (asked : Bool) (end : ℕ) (p : Path) : Type 0 where
  pub query : asked ≡ h.query
  pub at : place ≡ place_of (row_of (is_common h.place) (full_names h.place path h.names) h.query) (class_of (suffix_in (full_names h.place path h.names)))
  pub ends : end ≡ length (start visible t)
  pub left : (i : ℕ) → place ≡ passed i → IsPath (path_after h.place path h.names) p

abbrev pub LookedUp : List Text → Text → Option Looked → Path → Type 0
LookedUp path t None p = header (start visible t) ≡ refused 102
LookedUp path t (Some x) p = (h : Header) × (header (start visible t) ≡ passed h) × FoundRow path t h (meant x.heading.place) x.heading.asked x.end p
