-- What the words after the program's name ask for: options in any order, and one other word at most.
use Rattle.std.specs.Prelude.{◌≡◌, ℕ, ◌&&◌, ◌||◌, Bool, true, false, if◌then◌else◌, List, [], ◌∷◌, ◌++◌, Option, Some, None, Result, Ok, Err, bytes_eq, codes, is_some, map, nat_eq, nat_le, not, ok_or, option_and_then, option_map, string_bytes, unwrap_or, String, ⊤}
use Rattle.std.specs.Global.{Global}
use Rattle.std.specs.List.{ends_with}
use Rattle.std.specs.Option.{IsSomeAnd}
use Rattle.std.specs.Result.{result_map_both}
use Rattle.papergrid_values.specs.declared.alignment.AlignmentHorizontal.TheVariants.{Left}
use Rattle.papergrid_values.specs.declared.alignment.AlignmentVertical.{AlignmentVertical}
use Rattle.papergrid_values.specs.declared.alignment.AlignmentVertical.TheVariants.{Top}
use Rattle.papergrid_values.specs.declared.borders.Borders.{Borders}
use Rattle.papergrid_values.specs.declared.sides.Sides.{Sides}
use Rattle.papergrid_tracks.specs.declared.sizing.Sizing.{Sizing}
use Rattle.papergrid_tracks.specs.declared.sizing.Sizing.TheVariants as sizings
use Rattle.papergrid_draw.specs.Crossings.{AreOfFrame}
use Rattle.papergrid_draw.specs.declared.crossings.Junctions.{Junctions}
use Rattle.papergrid_script.specs.Arguments.{asked_by, said_by}
use Rattle.papergrid_script.specs.Grammar.{number_said}
use Rattle.papergrid_script.specs.Settings.{spaced_sides}
use Rattle.papergrid_script.specs.declared.program.arguments.Request as programs
use Rattle.papergrid_script.specs.declared.program.arguments.Request.TheVariants.{OfFile, OfInput}
use Rattle.papergrid_script.specs.declared.program.arguments.Unexpected.{Unexpected}
use Rattle.papergrid_csv.specs.Styles.{fitting_frame, style_frame, style_head, style_padding}
use Rattle.papergrid_csv.specs.declared.reading.Format.{Format}
use Rattle.papergrid_csv.specs.declared.reading.Format.TheVariants as formats
use Rattle.papergrid_csv.specs.declared.request.Alignment.{Alignment}
use Rattle.papergrid_csv.specs.declared.request.Alignment.TheVariants.{Fixed}
use Rattle.papergrid_csv.specs.declared.request.ColumnName.{ColumnName}
use Rattle.papergrid_csv.specs.declared.request.ColumnName.TheVariants.{Head, Number}
use Rattle.papergrid_csv.specs.declared.request.Span.{Span}
use Rattle.papergrid_csv.specs.declared.style.Style.{Style}
use Rattle.papergrid_csv.specs.declared.style.Style.TheVariants.{Rounded}
use Rattle.papergrid_table.specs.Options.{Known, option_told}
use Rattle.papergrid_table.specs.Values.{ByHead, ByNumber, ColumnsNamed, alignment_named, left_and_right, columns_aligned, delimiter_told, padding_told, span_told, style_named, vertical_named}
use Rattle.papergrid_table.specs.declared.arguments.Kind.{Kind}
use Rattle.papergrid_table.specs.declared.arguments.Kind.TheVariants as kinds
use Rattle.papergrid_table.specs.declared.arguments.Misuse.{Misuse}
use Rattle.papergrid_table.specs.declared.arguments.Misuse.TheVariants as misuses
use Rattle.papergrid_table.specs.declared.arguments.Wanted.{Wanted}
use Rattle.papergrid_table.specs.declared.options.Choice.{Choice}
use Rattle.papergrid_table.specs.declared.options.Choice.TheVariants as choices
use Rattle.papergrid_table.specs.declared.options.Flag.{Flag}
use Rattle.papergrid_table.specs.declared.options.Flag.TheVariants as flags
use Rattle.papergrid_table.specs.declared.options.Valued.{Valued}
use Rattle.papergrid_table.specs.declared.options.Valued.TheVariants as valueds

-- ---- what options say

-- each part as the last option of it tells; spans, and alignments of columns, as all of them do
pub record GivenOptions : Type 0 where
  pub kind : Option Kind
  pub delimiter : Option ℕ
  pub style : Style
  pub has_head : Bool
  pub alignment : Alignment
  pub columns : List (ColumnsNamed × Alignment)
  pub vertical : AlignmentVertical
  pub pad : Option (Sides ℕ)
  pub spans : List Span
  pub hides : Bool
  pub max_width : Option ℕ
  pub width : Option ℕ
  pub cut : Option ℕ
  pub tab : Option ℕ
  pub one_line : Bool
  pub raw : Bool
  pub strict : Bool
  pub fits : Bool
  pub sizing : Sizing
  pub witness : Bool
  pub check : Option (List ℕ)
  pub explains_json : Bool
  -- whether one of them is for CSV and TSV alone
  pub is_of_fields : Bool

-- what no option tells
abbrev pub no_options : GivenOptions
no_options = record {
  kind = None;
  delimiter = None;
  style = Rounded;
  has_head = true;
  alignment = Fixed Left;
  columns = [];
  vertical = Top;
  pad = None;
  spans = [];
  hides = false;
  max_width = None;
  width = None;
  cut = None;
  tab = None;
  one_line = false;
  raw = false;
  strict = false;
  fits = false;
  sizing = sizings.ByShares;
  witness = false;
  check = None;
  explains_json = false;
  is_of_fields = false;
}

-- the same with an option more that has no value
abbrev pub switched : Flag → GivenOptions → GivenOptions
switched (flags.Kind kind) told = record told { kind = Some kind }
switched (flags.Head has_head) told = record told { has_head = has_head }
switched flags.Hide told = record told { hides = true }
switched flags.OneLine told = record told { one_line = true }
switched flags.Raw told = record told { raw = true }
switched flags.Strict told = record told { strict = true }
switched flags.Least told = record told { sizing = sizings.Least }
switched flags.Witness told = record told { witness = true }
switched flags.HelpJson told = record told { explains_json = true }
switched flags.FitCrossings told = record told { fits = true }

-- the greatest width of a table, from 1 to 1000
abbrev pub width_told : List ℕ → Option ℕ
width_told value = option_and_then (λ width. if nat_le 1 width && nat_le width 1000 then Some width else None) (number_said value)

-- an alignment of all cells, or of some columns
abbrev pub aligned : List ℕ → Option Alignment → GivenOptions → Option GivenOptions
aligned value (Some alignment) told = Some (record told { alignment = alignment })
aligned value None told = option_map (λ columns. record told { columns = told.columns ++ columns ∷ [] }) (columns_aligned value)

-- the same with an option more that has this value; nothing where the value has another form
abbrev pub valued_told : Valued → List ℕ → GivenOptions → Option GivenOptions
valued_told valueds.Delimiter value told = option_map (λ byte. record told { delimiter = Some byte }) (delimiter_told value)
valued_told valueds.Style value told = option_map (λ style. record told { style = style }) (style_named value)
valued_told valueds.Align value told = aligned value (alignment_named value) told
valued_told valueds.Valign value told = option_map (λ vertical. record told { vertical = vertical }) (vertical_named value)
valued_told valueds.Pad value told = option_map (λ sides. record told { pad = Some sides }) (padding_told value)
valued_told valueds.Span value told = option_map (λ span. record told { spans = told.spans ++ span ∷ [] }) (span_told value)
valued_told valueds.MaxWidth value told = option_map (λ number. record told { max_width = Some number }) (number_said value)
valued_told valueds.Width value told = option_map (λ number. record told { width = Some number }) (width_told value)
valued_told valueds.Cut value told = option_map (λ number. record told { cut = Some number }) (number_said value)
valued_told valueds.Tab value told = option_map (λ number. record told { tab = Some number }) (number_said value)
valued_told valueds.Check value told = Some (record told { check = Some value })

-- ---- what words say

-- whether the next word may be an option, what one of them asked for, which option's value is the next word, and what all tell
pub record WordsSaid : Type 0 where
  pub takes_options : Bool
  pub asked : Option programs.Request
  pub waits : Option Valued
  pub told : GivenOptions

-- no word yet
abbrev pub unsaid : WordsSaid
unsaid = record { takes_options = true; asked = None; waits = None; told = no_options }

-- a value of another form is refused
abbrev pub value_taken : Valued → List ℕ → GivenOptions → Result GivenOptions (Option Unexpected)
value_taken valued value told = ok_or (valued_told valued value told) None

-- what an option says by itself, or by its value in the same word. Else the next word is the value
abbrev pub option_taken : Choice → Option (List ℕ) → GivenOptions → Result (Option Valued × GivenOptions) (Option Unexpected)
option_taken (choices.Flag flag) None told = Ok (None, switched flag told)
option_taken (choices.Flag flag) (Some value) told = Err None
option_taken (choices.Valued valued) None told = Ok (Some valued, told)
option_taken (choices.Valued valued) (Some value) told = result_map_both (λ told. (None, told)) (λ e. e) (value_taken valued value told)

-- told of an option that may be for CSV and TSV alone
abbrev pub of_option : Known → GivenOptions → GivenOptions
of_option option told = record told { is_of_fields = told.is_of_fields || option.is_of_fields }

-- with a word that is no option of a table
abbrev pub with_other_word : String Global → WordsSaid → Result WordsSaid (Option Unexpected)
with_other_word word said = result_map_both (λ request. record said { asked = Some request }) Some (asked_by (is_some said.asked) word said.takes_options)

-- with a word that may be an option
abbrev pub with_option_word : String Global → Option (Known × Option (List ℕ)) → WordsSaid → Result WordsSaid (Option Unexpected)
with_option_word word None said = with_other_word word said
with_option_word word (Some option) said =
    result_map_both (λ after. record said { waits = after.0; told = after.1 }) (λ e. e) (option_taken option.0.choice option.1 (of_option option.0 said.told))

-- with a word that is the value of an option, if one waits
abbrev pub with_value_word : String Global → Option Valued → WordsSaid → Result WordsSaid (Option Unexpected)
with_value_word word (Some valued) said =
    result_map_both (λ told. record said { waits = None; told = told }) (λ e. e) (value_taken valued (string_bytes word) said.told)
with_value_word word None said =
    if not said.takes_options then with_other_word word said
    else if bytes_eq (string_bytes word) (codes "--") then Ok (record said { takes_options = false })
    else with_option_word word (option_told (string_bytes word)) said

-- with one word more. After `--` no word is an option
abbrev pub next_said : WordsSaid → String Global → Result WordsSaid (Option Unexpected)
next_said said word = with_value_word word said.waits said

-- ---- what all words ask for

-- what a file has by the end of its name
abbrev pub kind_of_file : programs.Request → Kind
kind_of_file (OfFile path) =
    if ends_with nat_eq (string_bytes path) (codes ".tsv") then kinds.Tsv
    else if ends_with nat_eq (string_bytes path) (codes ".json") then kinds.Json
    else if ends_with nat_eq (string_bytes path) (codes ".txt") then kinds.Script
    else kinds.Csv
kind_of_file request = kinds.Csv

-- some options are not for each kind of input
abbrev pub is_of_another : Kind → GivenOptions → Bool
is_of_another kinds.Csv told = false
is_of_another kinds.Tsv told = is_some told.delimiter
is_of_another kinds.Json told = told.is_of_fields || told.witness
is_of_another kinds.Script told = told.is_of_fields

-- some are not beside another one
abbrev pub is_beside_width : GivenOptions → Bool
is_beside_width told = is_some told.width && (is_some told.cut || is_some told.max_width)

-- and not each style has the crossings that fit spans
abbrev pub lacks_crossings : GivenOptions → Bool
lacks_crossings told = told.fits && not (is_some (fitting_frame told.style).intersection)

-- what options say is refused for one of these
abbrev pub is_refused : Kind → GivenOptions → Bool
is_refused kind told = is_of_another kind told || (is_beside_width told || lacks_crossings told)

-- a request of the program, what the input is, and what the options say
abbrev pub finished : WordsSaid → Result (programs.Request × (Kind × GivenOptions)) (Option Unexpected)
finished said =
    let asked = unwrap_or said.asked OfInput in
    let kind = unwrap_or said.told.kind (kind_of_file asked) in
    if is_some said.waits || is_refused kind said.told then Err None else Ok (asked, (kind, said.told))

-- the same of words of which none was refused
abbrev pub if_said : Result WordsSaid (Option Unexpected) → Result (programs.Request × (Kind × GivenOptions)) (Option Unexpected)
if_said (Ok said) = finished said
if_said (Err word) = Err word

-- what all words ask for, or that they are refused
abbrev pub words_told : List (String Global) → Result (programs.Request × (Kind × GivenOptions)) (Option Unexpected)
words_told words = if_said (said_by next_said (Ok unsaid) words)

-- the form of a text
abbrev pub format_told : Kind → Option ℕ → Format
format_told kinds.Tsv delimiter = formats.Tsv
format_told kind delimiter = formats.Csv (unwrap_or delimiter 44)

-- columns as a request names them, with their alignment
abbrev pub column_told : ColumnName × Alignment → ColumnsNamed × Alignment
column_told (Number column, alignment) = (ByNumber column, alignment)
column_told (Head text, alignment) = (ByHead (string_bytes text), alignment)

-- the characters of crossings that are to fit the spans, if there are to be some
abbrev pub AreFitting : Bool → Borders ℕ → Option Junctions → Type 0
AreFitting true frame junctions = IsSomeAnd junctions (AreOfFrame frame)
AreFitting false frame junctions = junctions ≡ None

-- what is wanted is what the options say
pub record IsWanted (input : Kind) (told : GivenOptions) (wanted : Wanted) : Type 0 where
  pub kind : wanted.kind ≡ input
  pub reading : wanted.request.reading ≡ record {
    format = format_told input told.delimiter;
    tab = told.tab;
    one_line = told.one_line;
    raw = told.raw;
    strict = told.strict;
  }
  pub frame : wanted.request.frame ≡ style_frame told.style
  pub head : wanted.request.head ≡ style_head told.style told.has_head
  pub has_head : wanted.request.has_head ≡ told.has_head
  pub padding : wanted.request.padding ≡ spaced_sides (unwrap_or told.pad (left_and_right (style_padding told.style)))
  pub alignment : wanted.request.alignment ≡ told.alignment
  pub vertical : wanted.request.vertical ≡ told.vertical
  pub columns : map column_told wanted.request.columns.items ≡ told.columns
  pub spans : wanted.request.spans.items ≡ told.spans
  pub hides : wanted.request.hides ≡ told.hides
  pub junctions : AreFitting told.fits (fitting_frame told.style) wanted.request.junctions
  pub cut : wanted.request.cut ≡ told.cut
  pub max_width : wanted.request.max_width ≡ told.max_width
  pub sizing : wanted.request.sizing ≡ told.sizing
  pub width : wanted.width ≡ told.width
  pub witness : wanted.witness ≡ told.witness
  pub check : option_map string_bytes wanted.check ≡ told.check
  pub explains_json : wanted.explains_json ≡ told.explains_json

-- words are refused with this: an unexpected word by itself, or something is said. Memory may always lack
abbrev pub IsMisuseOf : {S : Type 0} → Result S (Option Unexpected) → Misuse → Type 0
IsMisuseOf told misuses.Memory = ⊤
IsMisuseOf told (misuses.Said text) = told ≡ Err None
IsMisuseOf told (misuses.Unexpected word) = told ≡ Err (Some word)

-- this is answered where words ask for that
abbrev pub IsAskedFor : Result (programs.Request × (Kind × GivenOptions)) (Option Unexpected) → Result (programs.Request × Wanted) Misuse → Type 0
IsAskedFor told (Ok (asked, wanted)) = (input : Kind) × ((options : GivenOptions) × ((told ≡ Ok (asked, (input, options))) × IsWanted input options wanted))
IsAskedFor told (Err misuse) = IsMisuseOf told misuse
