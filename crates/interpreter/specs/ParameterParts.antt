-- What the parameter reader's own functions say. Nothing of 01 is defined here: see Parameter.antt.
use Rattle.std.specs.Prelude.{◌≡◌, Bool, true, false, ◌&&◌, List, [], ◌∷◌, ℕ, ◌+◌, ◌≤◌, length, ℤ, pos, nat_abs, Option, Some, None, Result, Ok, Err}
use Rattle.std.specs.Int.Signed.{le_z}
use Prim.Native.String.{String}
use Rattle.registers.specs.Text.{Text, if◌then◌otherwise◌, empty}
use Rattle.registers.specs.Check.{Checked, refused, passed, ◌>>=◌, ◌>>◌, check}
use Rattle.registers.specs.Error.{number_of}
use Rattle.registers.specs.declared.error.Error.{Error}
use Rattle.registers.specs.declared.number.Decimal.{Decimal}
use Rattle.registers.specs.Settings.{within, accepted}
use Rattle.registers.specs.declared.rounding.Rounded.{Rounded}
use Rattle.registers.specs.declared.rounding.Side.{Side}
use Rattle.registers.specs.declared.settings.Settings.{Settings}
use Rattle.registers.specs.declared.status.Register.{Register}
use Rattle.registers.specs.declared.suffix.Quantity.{Quantity}
use Rattle.registers.specs.declared.suffix.Quantity.TheVariants.{Nothing}
use Rattle.interpreter.specs.WordsParts.{word_count, words_in}
use Rattle.interpreter.specs.Parameter.{Given, Word, Figure, parameters, none_empty, parameter, register_given, register_side, register_deed, saving_deed, label_deed}
use Rattle.interpreter.specs.declared.deed.Deed.{Deed}
use Rattle.interpreter.specs.declared.deed.Saving as savings
use Rattle.interpreter.specs.declared.deed.Deed.TheVariants.{Change, Query}
use Rattle.interpreter.specs.declared.deed.Change.TheVariants.{Put}
use Rattle.interpreter.specs.declared.deed.Query.TheVariants.{Limit, Stored, Label}
use Rattle.interpreter.specs.declared.parameter.Parameter.{Parameter}
use Rattle.interpreter.specs.declared.parameter.Parameter.TheVariants.{Word as word_given, Figure as figure_given}
use Rattle.interpreter.specs.declared.parameter.Takes.{Takes}
use Rattle.interpreter.specs.declared.parameter.Whole.{Whole}

-- check 2 on the parameters of a text, and how many they are
unfoldable pub counted : Text → Checked ℕ
counted t = check 102 (none_empty (parameters t)) >> passed (length (parameters t))

-- what the answers of checks 5 and 6 mean: a word's place, a number, or either
abbrev pub meant_word : Result ℕ Error → Checked Given
meant_word (Err e) = refused (number_of e)
meant_word (Ok n) = passed (Word n)

abbrev pub meant_figure : Result Decimal Error → Checked Given
meant_figure (Err e) = refused (number_of e)
meant_figure (Ok d) = passed (Figure d)

abbrev pub given_by : Parameter → Given
given_by (word_given n) = Word n
given_by (figure_given d) = Figure d

abbrev pub meant_given : Result Parameter Error → Checked Given
meant_given (Err e) = refused (number_of e)
meant_given (Ok p) = passed (given_by p)

-- checks 5 and 6 where words may be given, and numbers of a quantity, if any
unfoldable pub parameter_where : List String → Option Quantity → Text → Checked Given
parameter_where ws (Some q) t = parameter ws true q t
parameter_where ws None t = parameter ws false Nothing t

pub record TakesOf (ws : List String) (also : Bool) (q : Quantity) (r : Takes) : Type 0 where
  pub words : words_in r.words ≡ ws
  pub numbers : r.numbers ≡ (if also then Some q otherwise None)
  pub room : r.words.first + r.words.count ≤ word_count

-- a value, where it is within the limits, and what was rounded off
unfoldable pub fit_in : Settings → ℕ → ℤ → Option ℤ
fit_in s i v = if within s i v then Some v otherwise None

abbrev pub rounded_to : Settings → ℕ → ℤ → Side → Rounded
rounded_to s i v x = record { fit = fit_in s i v; side = x }

-- exam mode on a value of a setting that the limits let pass, or not; a query asks for it
unfoldable pub put_fit : Settings → ℕ → Bool → Option ℤ → Side → Checked Deed
put_fit s i asked None x = refused 222
put_fit s i true (Some v) x = passed (Query (Limit i v))
put_fit s i false (Some v) x = check 222 (accepted s x) >> passed (Change (Put i v x))

-- the parameters of a text that has none, or one
abbrev pub parts_of : Text → List Text
parts_of t = if empty t then [] otherwise t ∷ []

-- checks 5 to 7 on a register
unfoldable pub register_to : Register → Bool → Text → Checked Deed
register_to x true t = passed (Query (Stored x))
register_to x false t = register_deed x t

-- checks 5 to 7 on *SAV and *RCL; neither has a query, so that none comes here
unfoldable pub saving_to : savings.Saving → Bool → Text → Checked Deed
saving_to x true t = refused 109
saving_to x false t = saving_deed x t

-- the checks on the display's text
unfoldable pub label_to : Bool → Text → Checked Deed
label_to true t = passed (Query Label)
label_to false t = label_deed t

-- checks 5 to 7 on a whole number from 0 to a highest one
unfoldable pub whole_given : ℕ → Text → Checked Whole
whole_given highest t =
    parameter [] true Nothing t >>= λ g.
    check 222 (le_z (pos 0) (register_given g) && le_z (register_given g) (pos highest)) >>
    passed (record { value = nat_abs (register_given g); side = register_side g })
