-- The margins of a drawn table, and the whole of its bytes.
use Rattle.std.specs.Prelude.{ℕ, ◌+◌, ◌-◌, ◌==◌, ◌||◌, nat_le, nat_lt, Bool, if◌then◌else◌, List, [], ◌++◌, Option, map, min, replicate}
use Rattle.std.specs.List.{enumerate_from, join_with_byte}
use Rattle.papergrid_values.specs.declared.direction.Direction.TheVariants.{Columns, Rows}
use Rattle.papergrid_values.specs.declared.indent.Indent.{Indent}
use Rattle.papergrid_values.specs.declared.offset.Offset.{Offset}
use Rattle.papergrid_values.specs.declared.offset.Offset.TheVariants.{Start, End}
use Rattle.papergrid_layout.specs.Places.{total_along}
use Rattle.papergrid_draw.specs.Bytes.{line_bytes, pieces_bytes}
use Rattle.papergrid_draw.specs.Drawings.{Drawing, layout_of}
use Rattle.papergrid_draw.specs.Drawn.{drawn_lines}
use Rattle.papergrid_draw.specs.Pieces.{Padding, fill, fill_text}

-- a line of the margin above or below, of so many columns: blanks without colour for its offset, and its character
abbrev pub margin_line : Indent → Option (List ℕ × List ℕ) → Offset → ℕ → List ℕ
margin_line indent color (Start k) columns =
    fill_text 32 (min k columns) ++ pieces_bytes (fill Padding indent.fill (columns - min k columns) color)
margin_line indent color (End k) columns =
    pieces_bytes (fill Padding indent.fill (columns - min k columns) color) ++ fill_text 32 (min k columns)

-- whether the margin beside line y of so many has its character, or blanks
abbrev pub is_beside : Offset → ℕ → ℕ → Bool
is_beside (Start k) y lines = nat_le (min k lines) y
is_beside (End k) y lines = nat_lt y (lines - min k lines)

-- the margin left or right of line y of so many
abbrev pub beside : Indent → Option (List ℕ × List ℕ) → Offset → ℕ → ℕ → List ℕ
beside indent color offset lines y =
    if is_beside offset y lines then pieces_bytes (fill Padding indent.fill indent.size color)
    else fill_text 32 indent.size

module _ (d : Drawing) where
  -- the columns of each line, with both margins
  abbrev pub whole_width : ℕ
  whole_width = total_along (layout_of d) Columns + (d.config.margin.left.size + d.config.margin.right.size)

  -- line y with its margins
  abbrev pub with_margins : ℕ × List ℕ → List ℕ
  with_margins line =
      beside d.config.margin.left d.config.margin_color.left d.config.margin_offset.left (total_along (layout_of d) Rows) line.0
      ++ line.1
      ++ beside d.config.margin.right d.config.margin_color.right d.config.margin_offset.right
      (total_along (layout_of d) Rows) line.0

  -- all lines with all margins
  abbrev pub printed_lines : List (List ℕ)
  printed_lines =
      replicate d.config.margin.top.size
      (margin_line d.config.margin.top d.config.margin_color.top d.config.margin_offset.top whole_width)
      ++ map with_margins (enumerate_from 0 (map line_bytes (drawn_lines d)))
      ++ replicate d.config.margin.bottom.size
      (margin_line d.config.margin.bottom d.config.margin_color.bottom d.config.margin_offset.bottom whole_width)

  -- the bytes of the picture: nothing of no rows or no columns
  unfoldable pub printed : List ℕ
  printed = if d.shape.0 == 0 || d.shape.1 == 0 then [] else join_with_byte 10 printed_lines
