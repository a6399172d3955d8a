-- The options of a table.
use Rattle.std.specs.Prelude.{ℕ, Bool, true, false, List, [], ◌∷◌, Option, Some, None, bytes_eq, codes, option_map}
use Rattle.std.specs.List.{find}
use Rattle.papergrid_script.specs.Grammar.{parted_at}
use Rattle.papergrid_table.specs.Values.{equals_sign}
use Rattle.papergrid_table.specs.declared.arguments.Kind.TheVariants.{Csv, Json, Script, Tsv}
use Rattle.papergrid_table.specs.declared.options.Choice.{Choice}
use Rattle.papergrid_table.specs.declared.options.Choice.TheVariants as choices
use Rattle.papergrid_table.specs.declared.options.Flag.{Flag}
use Rattle.papergrid_table.specs.declared.options.Flag.TheVariants.{FitCrossings, Head, HelpJson, Hide, Kind, Least, OneLine, Raw, Strict, Witness}
use Rattle.papergrid_table.specs.declared.options.Listed.{Listed}
use Rattle.papergrid_table.specs.declared.options.Valued.{Valued}
use Rattle.papergrid_table.specs.declared.options.Valued.TheVariants.{Align, Check, Cut, Delimiter, MaxWidth, Pad, Span, Style, Tab, Valign, Width}

-- an option: its name, what it tells by itself or by its value, and whether it is for CSV and TSV alone
pub record Known : Type 0 where
  pub name : List ℕ
  pub choice : Choice
  pub is_of_fields : Bool

-- one for each input
abbrev pub of_inputs : Choice → List ℕ → Known
of_inputs choice name = record { name = name; choice = choice; is_of_fields = false }

-- one without a value
abbrev pub flag : Flag → List ℕ → Known
flag told = of_inputs (choices.Flag told)

-- one with a value
abbrev pub valued : Valued → List ℕ → Known
valued told = of_inputs (choices.Valued told)

-- one for CSV and TSV alone
abbrev pub of_fields : Known → Known
of_fields option = record option { is_of_fields = true }

-- all options, but for those of the program itself
abbrev pub options : List Known
options =
    flag (Kind Csv) (codes "--csv")
    ∷ flag (Kind Tsv) (codes "--tsv")
    ∷ flag (Kind Json) (codes "--json")
    ∷ flag (Kind Script) (codes "--script")
    ∷ of_fields (valued Delimiter (codes "--delimiter"))
    ∷ of_fields (valued Style (codes "--style"))
    ∷ of_fields (flag (Head true) (codes "--header"))
    ∷ of_fields (flag (Head false) (codes "--no-header"))
    ∷ of_fields (valued Align (codes "--align"))
    ∷ of_fields (valued Valign (codes "--valign"))
    ∷ of_fields (valued Pad (codes "--pad"))
    ∷ of_fields (valued Span (codes "--span"))
    ∷ of_fields (flag Hide (codes "--hide"))
    ∷ of_fields (valued MaxWidth (codes "--max-width"))
    ∷ of_fields (valued Width (codes "--width"))
    ∷ of_fields (valued Cut (codes "--cut"))
    ∷ of_fields (valued Tab (codes "--tab"))
    ∷ of_fields (flag OneLine (codes "--one-line"))
    ∷ of_fields (flag Raw (codes "--raw"))
    ∷ flag Least (codes "--least")
    ∷ flag Witness (codes "--witness")
    ∷ valued Check (codes "--check")
    ∷ of_fields (flag Strict (codes "--strict"))
    ∷ of_fields (flag FitCrossings (codes "--fit-crossings"))
    ∷ flag HelpJson (codes "--help-json")
    ∷ []

-- the option of this name
unfoldable pub option_named : List ℕ → Option Known
option_named name = find (λ (option : Known). bytes_eq option.name name) options

-- an option by the parts of a word around its first `=`, or by the whole word; and its value, where that stands in the word
abbrev pub option_of_parts : List ℕ → Option (List ℕ × List ℕ) → Option (Known × Option (List ℕ))
option_of_parts word None = option_map (λ option. (option, None)) (option_named word)
option_of_parts word (Some parts) = option_map (λ option. (option, Some parts.1)) (option_named parts.0)

-- the option that a word names, and its value, if that stands behind a `=`
abbrev pub option_told : List ℕ → Option (Known × Option (List ℕ))
option_told word = option_of_parts word (parted_at equals_sign word)

-- an option of the list
abbrev pub known : Listed → Known
known listed = record {
  name = listed.name.now;
  choice = listed.choice;
  is_of_fields = listed.is_of_fields;
}
