-- The calls that change a border table, and the edges and corners of a cell that they name.
use Rattle.std.specs.Prelude.{ℕ, ◌+◌, ◌||◌, Bool, if◌then◌else◌, Option, None}
use Rattle.std.specs.Option.{option_or}
use Rattle.papergrid_values.specs.declared.border.Border.{Border}
use Rattle.papergrid_values.specs.declared.borders.Borders.{Borders}
use Rattle.papergrid_values.specs.declared.direction.Direction.{Direction}
use Rattle.papergrid_values.specs.declared.direction.Direction.TheVariants.{Columns, Rows}
use Rattle.papergrid_values.specs.declared.horizontal_line.HorizontalLine.{HorizontalLine}
use Rattle.papergrid_values.specs.declared.position.Position.{Position}
use Rattle.papergrid_values.specs.declared.vertical_line.VerticalLine.{VerticalLine}
use Rattle.papergrid_values.specs.MapKeys.{position_eq}

-- the calls that change a border table; `Clear` puts a new one in its place
pub data BorderCall (T : Type 0) : Type 0 where
  InsertBorder : Position → Border T → BorderCall T
  RemoveBorder : Position → BorderCall T
  InsertHorizontalLine : ℕ → HorizontalLine T → BorderCall T
  RemoveHorizontalLine : ℕ → BorderCall T
  InsertVerticalLine : ℕ → VerticalLine T → BorderCall T
  RemoveVerticalLine : ℕ → BorderCall T
  SetBorders : Borders T → BorderCall T
  SetGlobal : T → BorderCall T
  Clear : BorderCall T

-- the position one row further down
abbrev pub below : Position → Position
below p = record p { row = p.row + 1 }

-- the position one column further right
abbrev pub right_of : Position → Position
right_of p = record p { col = p.col + 1 }

-- whether a position is that of an edge of the cell, on horizontal lines (Rows) or on vertical ones
abbrev pub is_edge_of : Direction → Position → Position → Bool
is_edge_of Rows cell p = position_eq cell p || position_eq (below cell) p
is_edge_of Columns cell p = position_eq cell p || position_eq (right_of cell) p

-- whether it is that of a corner of the cell
abbrev pub is_corner_of : Position → Position → Bool
is_corner_of cell p =
    (position_eq cell p || position_eq (right_of cell) p)
    || (position_eq (below cell) p || position_eq (below (right_of cell)) p)

module _ {T : Type 0} where
  -- the part, if it is the one written at this position
  abbrev pub at_position : Position → Position → Option T → Option T
  at_position written p part = if position_eq written p then part else None

  -- the part of a cell's border at an edge: the cell's position is that of its top and left edges
  abbrev pub edge_part : Direction → Position → Border T → Position → Option T
  edge_part Rows cell b p = option_or (at_position cell p b.top) (at_position (below cell) p b.bottom)
  edge_part Columns cell b p =
      option_or (at_position cell p b.left) (at_position (right_of cell) p b.right)

  -- at a corner: the cell's position is that of its left top corner
  abbrev pub corner_part : Position → Border T → Position → Option T
  corner_part cell b p =
      option_or (at_position cell p b.left_top_corner)
      (option_or (at_position (right_of cell) p b.right_top_corner)
      (option_or (at_position (below cell) p b.left_bottom_corner)
      (at_position (below (right_of cell)) p b.right_bottom_corner)))
