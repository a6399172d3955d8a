-- The settings of a table of a CSV text.
use Rattle.std.specs.Prelude.{◌≡◌, ℕ, ◌++◌, nat_lt, if◌then◌else◌, Bool, true, List, [], ◌∷◌, Option, None, Some, drop, flat_map, get_or, length, map, string_bytes}
use Rattle.std.specs.List.{filter, list_all, range_with_len}
use Rattle.std.specs.Str.{bytes_eq}
use Rattle.papergrid_values.specs.Borders.{frame_parts}
use Rattle.papergrid_values.specs.Keys.{sides_parts}
use Rattle.papergrid_values.specs.Lines.{horizontal_parts}
use Rattle.papergrid_values.specs.declared.alignment.AlignmentHorizontal.{AlignmentHorizontal}
use Rattle.papergrid_values.specs.declared.alignment.AlignmentHorizontal.TheVariants.{Left, Right}
use Rattle.papergrid_values.specs.declared.entity.Entity.TheVariants.{Column, Global}
use Rattle.papergrid_values.specs.declared.horizontal_line.HorizontalLine.{HorizontalLine}
use Rattle.papergrid_values.specs.declared.indent.Indent.{Indent}
use Rattle.papergrid_text.specs.Separators.{is_separator}
use Rattle.papergrid_config.specs.declared.setting.Setting.{Setting}
use Rattle.papergrid_config.specs.declared.setting.Setting.TheVariants.{InsertHorizontalLine, SetAlignmentHorizontal, SetAlignmentVertical, SetBorders, SetColumnSpan, SetPadding, SetRowSpan}
use Rattle.papergrid_draw.specs.Separated.{part_separates}
use Rattle.papergrid_draw.specs.declared.crossings.Junctions.{Junctions}
use Rattle.papergrid_csv.specs.Numbers.{field_in, is_numeric}
use Rattle.papergrid_csv.specs.declared.request.Alignment.{Alignment}
use Rattle.papergrid_csv.specs.declared.request.Alignment.TheVariants.{Auto, Fixed}
use Rattle.papergrid_csv.specs.declared.request.ColumnName.{ColumnName}
use Rattle.papergrid_csv.specs.declared.request.ColumnName.TheVariants.{Head, Number}
use Rattle.papergrid_csv.specs.declared.request.Request.{Request}
use Rattle.papergrid_csv.specs.declared.request.Span.{Span}

-- the line below the head, where there is a row below it
abbrev pub head_line : Option (HorizontalLine ℕ) → ℕ → List Setting
head_line None rows = []
head_line (Some line) rows = if nat_lt 1 rows then InsertHorizontalLine 1 line ∷ [] else []

-- the alignment of all cells; where each column has its own, that of those without numbers
abbrev pub common_alignment : Alignment → AlignmentHorizontal
common_alignment (Fixed alignment) = alignment
common_alignment Auto = Left

-- that of the cells of a column with these rows below its head
abbrev pub column_alignment : List (List (List ℕ)) → ℕ → Alignment → AlignmentHorizontal
column_alignment below column (Fixed alignment) = alignment
column_alignment below column Auto = if is_numeric below column then Right else Left

-- the settings of the columns of numbers, where the alignment of all cells is by what their columns are
abbrev pub number_settings : List (List (List ℕ)) → ℕ → Alignment → List Setting
number_settings below columns (Fixed alignment) = []
number_settings below columns Auto =
    map (λ column. SetAlignmentHorizontal (Column column) Right) (filter (is_numeric below) (range_with_len 0 columns))

-- the first of some rows, an empty one where there is none
abbrev pub first_row : List (List (List ℕ)) → List (List ℕ)
first_row rows = get_or rows 0 []

-- the columns of a table of so many that a name is of: each one whose first row has the text
abbrev pub columns_named : List (List ℕ) → ℕ → ColumnName → List ℕ
columns_named head columns (Number column) = column ∷ []
columns_named head columns (Head text) =
    filter (λ column. bytes_eq (field_in column head) (string_bytes text)) (range_with_len 0 columns)

-- the settings of a span
abbrev pub span_settings : Span → List Setting
span_settings span = SetColumnSpan span.position span.columns ∷ SetRowSpan span.position span.rows ∷ []

-- the rows of a table that have no head
abbrev pub rows_below : Bool → List (List (List ℕ)) → List (List (List ℕ))
rows_below has_head rows = if has_head then drop 1 rows else rows

module _ (request : Request) (columns : ℕ) (rows : List (List (List ℕ))) where
  -- the settings of the columns that an entry names
  abbrev pub entry_settings : ColumnName × Alignment → List Setting
  entry_settings entry =
      map (λ column. SetAlignmentHorizontal (Column column) (column_alignment (rows_below request.has_head rows) column entry.1))
      (columns_named (first_row rows) columns entry.0)

  -- the settings of a table of these rows. They are the frame, the line below the head, the padding and the alignments
  -- of all cells, those of single columns, and the spans
  abbrev pub settings_of : List Setting
  settings_of =
      SetBorders request.frame ∷ (head_line request.head (length rows)
      ++ (SetPadding Global request.padding ∷ SetAlignmentHorizontal Global (common_alignment request.alignment)
      ∷ (number_settings (rows_below request.has_head rows) columns request.alignment ++ (SetAlignmentVertical Global request.vertical
      ∷ (flat_map entry_settings request.columns.items ++ flat_map span_settings request.spans.items)))))

-- the parts of a line that may be there
abbrev pub head_parts : Option (HorizontalLine ℕ) → List (Option ℕ)
head_parts None = []
head_parts (Some line) = horizontal_parts line

-- the characters of crossings that are to fit the spans
abbrev pub fitting_characters : Option Junctions → List ℕ
fitting_characters None = []
fitting_characters (Some junctions) =
    junctions.horizontal ∷ junctions.vertical ∷ junctions.top_left ∷ junctions.top_intersection ∷ junctions.top_right
    ∷ junctions.left_intersection ∷ junctions.intersection ∷ junctions.right_intersection
    ∷ junctions.bottom_left ∷ junctions.bottom_intersection ∷ junctions.bottom_right ∷ []

-- all characters of a request are separators. They are those of its frame, of the line below the head, round texts, and
-- of crossings that are to fit
pub record IsSeparating (request : Request) : Type 0 where
  pub frame : list_all part_separates (frame_parts request.frame) ≡ true
  pub head : list_all part_separates (head_parts request.head) ≡ true
  pub padding : list_all (λ (indent : Indent). is_separator indent.fill) (sides_parts request.padding) ≡ true
  pub fitting : list_all is_separator (fitting_characters request.junctions) ≡ true
