-- What a border table holds.
use Rattle.std.specs.Prelude.{◌≡◌, List, reverse, Option}
use Rattle.std.specs.Ordering.{nat_cmp}
use Rattle.std.specs.FinMap.{FinMap, get}
use Rattle.papergrid_values.specs.declared.borders.Borders.{Borders}
use Rattle.papergrid_values.specs.declared.horizontal_line.HorizontalLine.{HorizontalLine}
use Rattle.papergrid_values.specs.declared.vertical_line.VerticalLine.{VerticalLine}
use Rattle.papergrid_tables.specs.BorderCalls.{BorderCall}
use Rattle.papergrid_values.specs.MapKeys.{position_cmp}
use Rattle.papergrid_tables.specs.BorderParts.{BorderParts, parts_from}

-- a value for all lines, the frame, the lines by number, and the edges and corners by position
pub record StoredBorders (T : Type 0) : Type 0 where
  pub global : Option T
  pub frame : Borders T
  pub horizontal_lines : FinMap nat_cmp (HorizontalLine T)
  pub vertical_lines : FinMap nat_cmp (VerticalLine T)
  pub horizontal_edges : FinMap position_cmp T
  pub vertical_edges : FinMap position_cmp T
  pub corners : FinMap position_cmp T

module _ {T : Type 0} where
  -- by part
  abbrev pub parts_of_borders : StoredBorders T → BorderParts T
  parts_of_borders stored = record {
    global = stored.global;
    frame = stored.frame;
    horizontal_line = λ n. get stored.horizontal_lines n;
    vertical_line = λ n. get stored.vertical_lines n;
    horizontal_edge = λ p. get stored.horizontal_edges p;
    vertical_edge = λ p. get stored.vertical_edges p;
    corner = λ p. get stored.corners p;
  }

  -- a new table that was given the calls holds this: each part is what they leave there
  abbrev pub HasBorderHistory : List (BorderCall T) → StoredBorders T → Type 0
  HasBorderHistory calls stored = parts_of_borders stored ≡ parts_from (reverse calls)
