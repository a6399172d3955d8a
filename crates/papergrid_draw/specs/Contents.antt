-- What stands in the place of a cell, line by line.
use Rattle.std.specs.Prelude.{ℕ, ◌+◌, ◌-◌, ◌/◌, ◌≤◌, ◌≡◌, ◌⊎◌, ◌==◌, nat_lt, Bool, if◌then◌else◌, List, [], ◌∷◌, ◌++◌, Option, Some, None, length, max, reverse, slice_index_or}
use Rattle.std.specs.Str.{trim}
use Rattle.papergrid_values.specs.declared.alignment.AlignmentHorizontal.{AlignmentHorizontal}
use Rattle.papergrid_values.specs.declared.alignment.AlignmentHorizontal.TheVariants as horizontal
use Rattle.papergrid_values.specs.declared.alignment.AlignmentVertical.{AlignmentVertical}
use Rattle.papergrid_values.specs.declared.alignment.AlignmentVertical.TheVariants as vertical
use Rattle.papergrid_values.specs.declared.ansi_buf.ANSIBuf.{ANSIBuf}
use Rattle.papergrid_values.specs.declared.direction.Direction.TheVariants.{Columns, Rows}
use Rattle.papergrid_values.specs.declared.formatting.Formatting.{Formatting}
use Rattle.papergrid_values.specs.declared.indent.Indent.{Indent}
use Rattle.papergrid_values.specs.declared.position.Position.{Position}
use Rattle.papergrid_values.specs.declared.sides.Sides.{Sides}
use Rattle.papergrid_text.specs.Text.{with_width}
use Rattle.papergrid_maps.specs.StoredMap.{stored_value}
use Rattle.papergrid_config.specs.declared.spanned.SpannedConfig.{SpannedConfig}
use Rattle.papergrid_layout.specs.Places.{length_along}
use Rattle.papergrid_draw.specs.Drawings.{Drawing, layout_of}
use Rattle.papergrid_draw.specs.Pieces.{CellText, Justification, Padding, Piece, fill}

-- the settings of a cell's text
pub record Look : Type 0 where
  pub padding : Sides Indent
  pub padding_color : Sides (Option ANSIBuf)
  pub formatting : Formatting
  pub horizontal : AlignmentHorizontal
  pub vertical : AlignmentVertical
  pub justification : ℕ
  pub justification_color : Option ANSIBuf

-- those that a configuration has for the cell at a position
abbrev pub look_of : SpannedConfig → Position → Look
look_of config p = record {
  padding = stored_value config.padding p;
  padding_color = stored_value config.padding_color p;
  formatting = record {
    horizontal_trim = stored_value config.trim_horizontal p;
    vertical_trim = stored_value config.trim_vertical p;
    allow_lines_alignment = stored_value config.line_alignment p;
  };
  horizontal = stored_value config.alignment_horizontal p;
  vertical = stored_value config.alignment_vertical p;
  justification = stored_value config.justification p;
  justification_color = stored_value config.justification_color p;
}

-- the lines of a cell, none where there is no cell
abbrev pub lines_of : {T : Type 0} → (T → List (List ℕ × ℕ)) → Option T → List (List ℕ × ℕ)
lines_of lines None = []
lines_of lines (Some cell) = lines cell

-- the line of a text that has one line and no more
abbrev pub single_line : List (List ℕ × ℕ) → Option (List ℕ × ℕ)
single_line [] = None
single_line (line ∷ []) = Some line
single_line (line ∷ next ∷ more) = None

-- how much of some free columns is left of a text
abbrev pub free_before : AlignmentHorizontal → ℕ → ℕ
free_before horizontal.Left free = 0
free_before horizontal.Center free = free / 2
free_before horizontal.Right free = free

-- how many of some free lines are above it
abbrev pub free_above : AlignmentVertical → ℕ → ℕ
free_above vertical.Top free = 0
free_above vertical.Center free = free / 2
free_above vertical.Bottom free = free

-- the line is white space alone, or empty
abbrev pub is_blank : List ℕ × ℕ → Bool
is_blank line = length (trim line.0) == 0

-- the lines from the first on that is not blank
abbrev pub from_text : List (List ℕ × ℕ) → List (List ℕ × ℕ)
from_text [] = []
from_text (line ∷ lines) = if is_blank line then from_text lines else (line ∷ lines)

-- the lines of a text that are shown: all, or those without the blank ones at both ends
abbrev pub shown_lines : Bool → List (List ℕ × ℕ) → List (List ℕ × ℕ)
shown_lines trims lines = if trims then reverse (from_text (reverse (from_text lines))) else lines

-- a line as it is shown: as it is, or without white space at both ends
abbrev pub shown_line : Bool → List ℕ × ℕ → List ℕ × ℕ
shown_line trims line = if trims then with_width (trim line.0) else line

-- the greatest width of the lines as they are shown, 0 where there is none
abbrev pub block_width : Bool → List (List ℕ × ℕ) → ℕ
block_width trims [] = 0
block_width trims (line ∷ lines) = max (shown_line trims line).1 (block_width trims lines)

-- a cell: the settings of its text, all lines of that, its colour, and how wide and high its place is
pub record Block : Type 0 where
  pub look : Look
  pub lines : List (List ℕ × ℕ)
  pub color : Option (List ℕ × List ℕ)
  pub width : ℕ
  pub height : ℕ

module _ (b : Block) where
  -- the lines that are shown
  abbrev pub shown : List (List ℕ × ℕ)
  shown = shown_lines b.look.formatting.vertical_trim b.lines

  -- how many lines stand above them
  abbrev pub above : ℕ
  above = b.look.padding.top.size
      + free_above b.look.vertical (b.height - (b.look.padding.top.size + length shown))

  -- the columns between the paddings
  abbrev pub inner : ℕ
  inner = b.width - (b.look.padding.left.size + b.look.padding.right.size)

  -- the width by which a line is aligned: its own, or that of all lines
  abbrev pub aligned_width : List ℕ × ℕ → ℕ
  aligned_width line = if b.look.formatting.allow_lines_alignment then line.1
      else block_width b.look.formatting.horizontal_trim b.lines

  -- the columns left of the text of a line, between the paddings
  abbrev pub before : List ℕ × ℕ → ℕ
  before line = free_before b.look.horizontal (inner - aligned_width line)

  -- a line as it is shown, with what fills it up on both sides
  abbrev pub line_pieces : List ℕ × ℕ → List Piece
  line_pieces line =
      fill Padding b.look.padding.left.fill b.look.padding.left.size b.look.padding_color.left
      ++ fill Justification b.look.justification (before line) b.look.justification_color
      ++ record { kind = CellText; text = line.0; columns = line.1; color = b.color }
      ∷ fill Justification b.look.justification (inner - (before line + line.1)) b.look.justification_color
      ++ fill Padding b.look.padding.right.fill b.look.padding.right.size b.look.padding_color.right

  -- line k of its place
  abbrev pub content : ℕ → List Piece
  content k =
      if nat_lt k above then fill Padding b.look.padding.top.fill b.width b.look.padding_color.top
      else if nat_lt k (above + length shown)
      then line_pieces (shown_line b.look.formatting.horizontal_trim (slice_index_or shown (k - above) ([], 0)))
      else fill Padding b.look.padding.bottom.fill b.width b.look.padding_color.bottom

  -- it has room: no line is shown, or the widest one with the paddings beside it is no wider than its place
  abbrev pub FitsPlace : Type 0
  FitsPlace = (shown ≡ [])
      ⊎ (block_width b.look.formatting.horizontal_trim b.lines
      + (b.look.padding.left.size + b.look.padding.right.size) ≤ b.width)

-- the cell at a position of a drawing
abbrev pub block_at : Drawing → Position → Block
block_at d p = record {
  look = look_of d.config p;
  lines = d.lines p;
  color = d.color p;
  width = length_along (layout_of d) Columns p;
  height = length_along (layout_of d) Rows p;
}
