-- Demand 2's round trip holds of something: its premises for each of the thirty settings, by its header and its answer at *RST. What
-- they speak of is computed for the whole table at once (`seen`), and each row's premises are read off it.
use mathlib.Core.Path.{◌≡◌, refl, sym, ◌∙◌, ap}
use mathlib.Core.Bool.{Bool, true, false}
use mathlib.Core.List.{List, [], ◌∷◌, ◌++◌, map}
use Prim.Native.Nat.{ℕ, zero, suc, ◌+◌, ◌<◌}
use Prim.Native.Char.{code}
use native.Mathlib.Omega.{arith}
use lib.ListN as L
use lib.ListN.{length, get_or, replicate}
use Rattle.registers.specs.Text.{Text, if◌then◌otherwise◌, bytes, same, white, printable, digit, letter, word_byte, small, capital, every}
use Rattle.registers.specs.Check.{Checked, passed, ◌>>=◌, ◌>>◌, check}
use Rattle.registers.specs.Words.{Node, must, may, short_form, long_form, matches}
use Rattle.registers.specs.Number.{after_sign, fraction_of, after_fraction, exponent_of, after_exponent, lowering, written, numeral_from, decimal_of, value_of, scaled, number}
use Rattle.registers.specs.Suffix.{suffixes, no_suffix, power_in, remains}
use Rattle.registers.specs.Rounding.{switched_on, nearest, size_in, rounded, size_side, side_in}
use Rattle.registers.specs.Answer.{in_places, decimal, tenths}
use Rattle.registers.specs.Error.{event_bit}
use Rattle.registers.specs.Settings.{count, Setting as OneSetting, output_rows, source_rows, table, setting_at, at_reset, wide_range, lowest, highest, within, conflict, examined, accepted, answer_of, slots, narrow}
use Rattle.registers.specs.Group.{rises, falls, events_after, condition_is}
use Rattle.registers.specs.Status.{raised, locked, at_start}
use Rattle.registers.specs.Label.{may_stand, closes, undoubled, padded}
use Rattle.interpreter.specs.Cuts.{front, cut_at, quote_next, cut_open, trim_end, trim}
use Rattle.interpreter.specs.Header.{Header, here, name, placed, header, spells, body_of, by_first, numbered as takes_number, node_matches, suffix_in}
use Rattle.interpreter.specs.Rows.{setting_rows, other_rows, rows, fits_row, find_row, second_of, on_channel, find_role}
use Rattle.interpreter.specs.Parameter.{label_deed, parameters, least, greatest, find_word, parameter, value_given, setting_deed, deed_of, read_figure, read_word}
use Rattle.interpreter.specs.Unit.{Read, read_unit}
use Rattle.interpreter.specs.Box.{power_up, blank}
use Rattle.interpreter.specs.Perform.{permitted, changed, perform}
use Rattle.interpreter.specs.Reply.{reply_to, inquiry_text, joined, fits_answer, reply}
use Rattle.interpreter.specs.Line.{attempt, refuse, run_units, interrupted, finished, units_of, run_line, end_line, held, byte, piece}
use Rattle.interpreter.specs.Events.{Event, received, take, taken, reported, happens, after}
use Rattle.interpreter.specs.Demand3.{in_line}
use Rattle.interpreter.specs.declared.deed.Deed.TheVariants.{Query}
use Rattle.interpreter.specs.declared.deed.Query.TheVariants.{Value}
use Rattle.interpreter.specs.declared.deed.Role.{Role}
use Rattle.interpreter.specs.declared.deed.Role.TheVariants.{Setting}
use Rattle.interpreter.specs.Demand2.{tabled, Premises, queried, sent_back, taken_from}
use Rattle.interpreter.proofs.Possible.{power-up-own}

-- a header in its shortest spelling, with a suffix on the node that takes one
unfoldable pub short_names : Text → List Node → List Text
short_names x [] = []
short_names x (must w ∷ nodes) = (if takes_number w then short_form w ++ x otherwise short_form w) ∷ short_names x nodes
short_names x (may w ∷ nodes) = short_names x nodes

unfoldable pub colon_joined : List Text → Text
colon_joined [] = []
colon_joined (x ∷ []) = x
colon_joined (x ∷ y ∷ names) = x ++ code ":" ∷ colon_joined (y ∷ names)

-- each setting's header, and its answer at *RST; then those of channel 2
abbrev trip_of : Text → OneSetting → Text × Text
trip_of x s = (colon_joined (short_names x s.nodes), answer_of s.kind s.reset)

unfoldable pub trips : List (Text × Text)
trips = map (trip_of []) table ++ map (trip_of (bytes "2")) (output_rows ++ source_rows)

abbrev pub buffer : Text
buffer = replicate 8 0

-- the query's line, and the line that sends the answer back
unfoldable pub asking : Text × Text → List Event
asking t = received (t.0 ++ bytes "?") ∷ []

unfoldable pub sending : Text × Text → List Event
sending t = received (t.0 ++ bytes " " ++ t.1) ∷ []

-- the premises of demand 2's round trip
abbrev pub PremisesAt : ℕ → Text × Text → Type 0
PremisesAt i t = Premises (power_up blank) (tabled i) t.1 buffer (taken_from (power_up blank) (asking t) [] buffer) (asking t) [] (sending t)

-- what they speak of
record Seen : Type 0 where
  whole : Bool × Bool
  in_line : Bool
  asked : Text
  units : List Text
  read : Checked Read
  number : ℕ
  taken : Text
  line : Text
  locks : Bool
  heading : Checked Header
  row : Checked Role

unfoldable seen_at : Text × Text → Seen
seen_at t =
    let b = after (power_up blank) (asking t) in
    let r = (happens (after (power_up blank) (queried (asking t) ++ [])) (take buffer)).result in
    let c = after (power_up blank) (sent_back (asking t) [] buffer (sending t)) in
    record {
      whole = (b.core.overlong, c.core.overlong);
      in_line = every in_line (sending t);
      asked = b.core.line;
      units = units_of b.core.line;
      read = read_unit b.core.settings [] b.core.line;
      number = r.number;
      taken = L.take r.value r.buffer;
      line = c.core.line;
      locks = locked c.core.registers;
      heading = header t.0;
      row = find_role false (cut_at (code ":") t.0) false;
    }

unfoldable expected_at : ℕ → Text × Text → Seen
expected_at i t =
    record {
      whole = (false, false);
      in_line = true;
      asked = t.0 ++ bytes "?";
      units = (t.0 ++ bytes "?") ∷ [];
      read = passed (record { deed = Query (Value i); text = []; path = front (cut_at (code ":") t.0) });
      number = 0;
      taken = t.1 ++ 10 ∷ [];
      line = t.0 ++ (bytes " " ++ (t.1 ++ []));
      locks = false;
      heading = passed (record { place = here; names = cut_at (code ":") t.0; query = false });
      row = passed (Setting i);
    }

-- each expected by its place in the table
unfoldable numbered : ℕ → List (Text × Text) → List Seen
numbered i [] = []
numbered i (t ∷ ts) = expected_at i t ∷ numbered (suc i) ts

abbrev pub trip_at : List (Text × Text) → ℕ → Text × Text
trip_at ts i = get_or ts i ([], [])

seen : map seen_at trips ≡ numbered 0 trips
unfolding if◌then◌otherwise◌ bytes same white printable digit letter word_byte small capital ◌>>=◌ ◌>>◌ check short_form long_form matches
    after_sign fraction_of after_fraction exponent_of after_exponent lowering written numeral_from decimal_of value_of scaled suffixes no_suffix power_in remains number switched_on
    nearest size_in rounded size_side side_in in_places decimal tenths event_bit
    slots table setting_at at_reset wide_range lowest highest narrow within conflict examined accepted answer_of raised rises falls events_after condition_is at_start
    may_stand closes undoubled padded label_deed cut_at quote_next cut_open trim_end trim name placed body_of by_first header takes_number node_matches suffix_in spells setting_rows other_rows rows fits_row find_row second_of on_channel find_role
    parameters least greatest find_word parameter read_word read_figure value_given setting_deed deed_of read_unit power_up
    permitted changed reply_to inquiry_text joined fits_answer reply perform
    attempt refuse run_units interrupted finished units_of run_line end_line held byte piece taken reported happens after
    in_line short_names colon_joined trips asking sending seen_at expected_at numbered
seen = refl

long : length trips ≡ count
unfolding trips table
long = refl

-- ---- the table's places

seen-at : (ts : List (Text × Text)) (n i : ℕ) → i < length ts → map seen_at ts ≡ numbered n ts → seen_at (trip_at ts i) ≡ expected_at (n + i) (trip_at ts i)
unfolding numbered
seen-at [] n i h e = absurd (omega arith)
seen-at (t ∷ ts) n zero h e =
    let z : seen_at t ≡ expected_at n t = cc in
    let q : n + 0 ≡ n = omega arith in
    rw q z
seen-at (t ∷ ts) n (suc i) h e =
    let z : map seen_at ts ≡ numbered (suc n) ts = cc in
    let q : n + suc i ≡ suc n + i = omega arith in
    rw q (seen-at ts (suc n) i (omega arith) z)

trip-at : (i : ℕ) (t : Text × Text) → seen_at t ≡ expected_at i t → PremisesAt i t
unfolding seen_at expected_at bytes white
trip-at i t e =
    record {
      trip = record {
        own = (power-up-own blank);
        first = refl;
        second = ap (λ (x : Seen). x.in_line) e;
        asks = record {
          whole = ap (λ (x : Seen). x.whole.0) e;
          alone = ap (λ (x : Seen). x.units) e ∙ sym (ap (λ (x : Seen). x.asked ∷ []) e);
          path = front (cut_at (code ":") t.0);
          text = [];
          asks = ap (λ (x : Seen). x.read) e;
        };
        took = record { number = ap (λ (x : Seen). x.number) e; bytes = ap (λ (x : Seen). x.taken) e };
        sends = record {
          whole = ap (λ (x : Seen). x.whole.1) e;
          left = [];
          header = t.0;
          gap = bytes " ";
          right = [];
          line = ap (λ (x : Seen). x.line) e;
          spelling = record { read = _; reads = ap (λ (x : Seen). x.heading) e; sets = refl; row = ap (λ (x : Seen). x.row) e };
          left_white = refl;
          gap_white = refl;
          gap_there = refl;
          right_white = refl;
        };
      };
      free = ap (λ (x : Seen). x.locks) e;
    }

pub every-row : (i : ℕ) → i < count → PremisesAt i (trip_at trips i)
every-row i h =
    let l = long in
    let q : 0 + i ≡ i = omega arith in
    trip-at i (trip_at trips i) (rw q at (seen-at trips 0 i (omega arith) seen))
