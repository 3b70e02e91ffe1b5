-- What `Hex` writes: two digits to a byte, all of them ASCII, of the whole parts first and then of the bytes after them.
use Rattle.std.proofs.Common.{◌≡◌, ℕ, zero, suc, ◌+◌, ◌*◌, ◌<◌, ◌/◌, ◌%◌, ◌==◌, Bool, true, false, nat_lt, List, [], ◌∷◌, ◌++◌, length, map, take, drop, get_or, flat_map, refl, sym, ap, ◌∙◌, arith, ltb-true, drop-drop, append_assoc}
use Rattle.std.specs.declared.fmt.Formatter.{Formatter}
use Rattle.std.specs.Str.{IsAscii, IsUtf8}
use Rattle.std.specs.Simd.{first_chunks}
use Rattle.std.specs.Fmt.{HasWritten}
use Rattle.std.proofs.Math.Nat.{zero-mul}
use Rattle.std.proofs.Output.{has_written_append, has_written_of_eq}
use Rattle.std.proofs.lemmas.List.{take_more, flat_map_more, take-append-drop}
use Rattle.std.proofs.lemmas.Str.{IsAscii-append, IsUtf8-from_ascii}
use Rattle.std.proofs.lemmas.Str.Ascii.{IsAscii-nil}
use Rattle.std.proofs.lemmas.Grind.{flat_map-append}
use Rattle.std.proofs.lemmas.List.Folds.{flat_map-map}
use Rattle.registers.specs.Text.{Text, if◌then◌otherwise◌}
use Rattle.player.specs.ReportParts.{hex_digit, hex_byte, in_hex}

-- ---- digits as a text

digit-ascii : (n : ℕ) → n < 16 → hex_digit n < 128
unfolding if◌then◌otherwise◌
digit-ascii n h = go (nat_lt n 10) refl
  where
    go : (l : Bool) → nat_lt n 10 ≡ l → hex_digit n < 128
    go true l = let low = ltb-true n 10 l in rw l (omega arith)
    go false l = rw l (omega arith)

byte-ascii : (b : ℕ) → b < 256 → IsAscii (hex_byte b)
byte-ascii b h zero = digit-ascii (b / 16) (omega arith)
byte-ascii b h (suc zero) = digit-ascii (b % 16) (omega arith)
byte-ascii b h (suc (suc i)) = omega arith

bytes-ascii : (bs : Text) → ((i : ℕ) → get_or bs i 0 < 256) → IsAscii (flat_map hex_byte bs)
bytes-ascii [] h = IsAscii-nil
bytes-ascii (b ∷ bs) h = IsAscii-append (hex_byte b) (flat_map hex_byte bs) (byte-ascii b (h 0)) (bytes-ascii bs (λ i. h (suc i)))

pub byte-utf8 : (b : ℕ) → b < 256 → IsUtf8 (hex_byte b)
byte-utf8 b h = IsUtf8-from_ascii (hex_byte b) (byte-ascii b h)

pub bytes-utf8 : (bs : Text) → ((i : ℕ) → get_or bs i 0 < 256) → IsUtf8 (flat_map hex_byte bs)
bytes-utf8 bs h = IsUtf8-from_ascii (flat_map hex_byte bs) (bytes-ascii bs h)

-- ---- bytes in parts

-- parts in hex
abbrev pub hex_parts : List Text → Text
hex_parts parts = flat_map (λ (part : Text). flat_map hex_byte part) parts

pub flattened : (part : Text) → flat_map (λ (pair : Text). pair) (map hex_byte part) ≡ flat_map hex_byte part
flattened part = flat_map-map (λ (pair : Text). pair) hex_byte part

pub in-parts : (n k : ℕ) (bs : Text) → hex_parts (first_chunks n k bs) ++ flat_map hex_byte (drop (k * n) bs) ≡ flat_map hex_byte bs
in-parts n zero bs = rw zero-mul
in-parts n (suc k) bs =
    let size : suc k * n ≡ n + k * n = omega arith in
    let rest = ap (λ m. drop m bs) size ∙ sym (drop-drop (k * n) n bs) in
    let more = in-parts n k (drop n bs) in
    let both = sym (flat_map-append hex_byte (take n bs) (drop n bs)) ∙ ap (λ l. flat_map hex_byte l) (take-append-drop n bs) in
    rw (rest, append_assoc, more) both

pub in-hex : (bs : Text) → ◌≡◌ {A = Bool} false (length bs == 0) → in_hex bs ≡ flat_map hex_byte bs
in-hex [] h = absurd cc
in-hex (b ∷ bs) h = refl

-- ---- one more written

module _ {W : Type 0} {took : W → List ℕ → W → Type 0} {f g h : Formatter W} where
  pub written-more : {A : Type 0} (shown : A → Text) (d : A) (xs : List A) (i : ℕ) → i < length xs → HasWritten took f (flat_map shown (take i xs)) g → HasWritten took g (shown (get_or xs i d)) h → HasWritten took f (flat_map shown (take (i + 1) xs)) h
  written-more shown d xs i l so_far wrote =
      let one_more = flat_map_more shown [] (take i xs) (get_or xs i d) ∙ ap (λ ys. flat_map shown ys) (sym (take_more xs i d l)) in
      has_written_of_eq took f _ _ h one_more (has_written_append took f _ g _ h so_far wrote)
