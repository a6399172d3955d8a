-- What the values of options tell.
use Rattle.std.specs.Prelude.{ℕ, ◌&&◌, ◌||◌, not, nat_lt, if◌then◌else◌, List, [], ◌∷◌, Option, Some, None, bytes_eq, codes, drop, option_map, slice_index, ◌==◌}
use Rattle.papergrid_values.specs.declared.alignment.AlignmentHorizontal.TheVariants as horizontal
use Rattle.papergrid_values.specs.declared.alignment.AlignmentVertical.{AlignmentVertical}
use Rattle.papergrid_values.specs.declared.alignment.AlignmentVertical.TheVariants as vertical
use Rattle.papergrid_values.specs.declared.sides.Sides.{Sides}
use Rattle.papergrid_script.specs.Grammar.{◌>>=◌, number_said, pair_at, parted_at, parted_at_last, position_said}
use Rattle.papergrid_script.specs.Spelling.{comma}
use Rattle.papergrid_csv.specs.declared.request.Alignment.{Alignment}
use Rattle.papergrid_csv.specs.declared.request.Alignment.TheVariants.{Auto, Fixed}
use Rattle.papergrid_csv.specs.declared.request.Span.{Span}
use Rattle.papergrid_csv.specs.declared.style.Style.{Style}
use Rattle.papergrid_csv.specs.declared.style.Style.TheVariants.{Ascii, Blank, Dots, Extended, Markdown, Modern, Plain, Psql, Rounded, Rst, Sharp}

-- the byte of `=`
abbrev pub equals_sign : ℕ
equals_sign = 61

-- ---- names

-- a style by its name
unfoldable pub style_named : List ℕ → Option Style
style_named name =
    if bytes_eq name (codes "rounded") then Some Rounded
    else if bytes_eq name (codes "ascii") then Some Ascii
    else if bytes_eq name (codes "modern") then Some Modern
    else if bytes_eq name (codes "sharp") then Some Sharp
    else if bytes_eq name (codes "extended") then Some Extended
    else if bytes_eq name (codes "psql") then Some Psql
    else if bytes_eq name (codes "markdown") then Some Markdown
    else if bytes_eq name (codes "rst") then Some Rst
    else if bytes_eq name (codes "dots") then Some Dots
    else if bytes_eq name (codes "blank") then Some Blank
    else if bytes_eq name (codes "none") then Some Plain
    else None

-- an alignment by its name
unfoldable pub alignment_named : List ℕ → Option Alignment
alignment_named name =
    if bytes_eq name (codes "left") then Some (Fixed horizontal.Left)
    else if bytes_eq name (codes "center") then Some (Fixed horizontal.Center)
    else if bytes_eq name (codes "right") then Some (Fixed horizontal.Right)
    else if bytes_eq name (codes "auto") then Some Auto
    else None

-- an alignment of lines in a row by its name
unfoldable pub vertical_named : List ℕ → Option AlignmentVertical
vertical_named name =
    if bytes_eq name (codes "top") then Some vertical.Top
    else if bytes_eq name (codes "center") then Some vertical.Center
    else if bytes_eq name (codes "bottom") then Some vertical.Bottom
    else None

-- ---- columns

-- a column by its number, or columns by the text of their first row
pub data ColumnsNamed : Type 0 where
  ByNumber : ℕ → ColumnsNamed
  ByHead : List ℕ → ColumnsNamed

-- a number behind a `c`
unfoldable pub column_number : List ℕ → Option ℕ
column_number name = if slice_index name 0 == 99 then number_said (drop 1 name) else None

-- by the number that a name tells, or by the name
abbrev pub by_number_or : List ℕ → Option ℕ → ColumnsNamed
by_number_or name None = ByHead name
by_number_or name (Some number) = ByNumber number

-- the columns that a name is of
abbrev pub columns_called : List ℕ → ColumnsNamed
columns_called name = by_number_or name (column_number name)

-- columns, and their alignment behind the last `=`
unfoldable pub columns_aligned : List ℕ → Option (ColumnsNamed × Alignment)
columns_aligned value = do
  parts ← parted_at_last equals_sign value
  alignment ← alignment_named parts.1
  Some (columns_called parts.0, alignment)

-- ---- numbers

-- one byte of ASCII that is no double quote, line feed or carriage return
abbrev pub one_delimiter : List ℕ → Option ℕ
one_delimiter (byte ∷ []) = if nat_lt byte 128 && not ((byte == 34) || (byte == 10) || (byte == 13)) then Some byte else None
one_delimiter other = None

-- the byte between fields: a tab by its name, or such a byte
unfoldable pub delimiter_told : List ℕ → Option ℕ
delimiter_told value = if bytes_eq value (codes "tab") then Some 9 else one_delimiter value

-- four numbers with commas between them: left, right, top and bottom
unfoldable pub four_sides : List ℕ → Option (Sides ℕ)
four_sides value = do
  at_left ← parted_at comma value
  at_right ← parted_at comma at_left.1
  at_top ← parted_at comma at_right.1
  left ← number_said at_left.0
  right ← number_said at_right.0
  top ← number_said at_top.0
  bottom ← number_said at_top.1
  Some (record { top = top; bottom = bottom; left = left; right = right })

-- so much left and right
abbrev pub left_and_right : ℕ → Sides ℕ
left_and_right size = record { top = 0; bottom = 0; left = size; right = size }

-- one number for left and right, where there is one; else these
abbrev pub both_or : Option (Sides ℕ) → Option ℕ → Option (Sides ℕ)
both_or sides None = sides
both_or sides (Some size) = Some (left_and_right size)

-- one number for left and right, or four
unfoldable pub padding_told : List ℕ → Option (Sides ℕ)
padding_told value = both_or (four_sides value) (number_said value)

-- ---- spans

-- a size of a text by its parts, or of columns alone
abbrev pub size_of : List ℕ → Option (List ℕ × List ℕ) → Option (ℕ × ℕ)
size_of text None = option_map (λ columns. (1, columns)) (number_said text)
size_of text (Some parts) = do
  rows ← number_said parts.0
  columns ← number_said parts.1
  Some (rows, columns)

-- how many rows and columns: with an `x` between them, or columns alone
unfoldable pub span_size : List ℕ → Option (ℕ × ℕ)
span_size text = size_of text (parted_at 120 text)

-- a position and, behind `=`, a size that is nowhere 0
unfoldable pub span_told : List ℕ → Option Span
span_told value = do
  told ← pair_at equals_sign position_said span_size value
  if (told.1.0 == 0) || (told.1.1 == 0) then None else Some (record { position = told.0; rows = told.1.0; columns = told.1.1 })
