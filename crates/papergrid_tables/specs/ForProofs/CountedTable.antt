-- A border table whose counts are those of what it holds.
use Rattle.std.specs.Prelude.{is_some}
use Rattle.papergrid_values.specs.declared.direction.Direction.TheVariants.{Columns, Rows}
use Rattle.papergrid_values.specs.declared.horizontal_line.HorizontalLine.{HorizontalLine}
use Rattle.papergrid_values.specs.declared.vertical_line.VerticalLine.{VerticalLine}
use Rattle.papergrid_tables.specs.ForProofs.CountedLines.{AreEndsCounted}
use Rattle.papergrid_tables.specs.ForProofs.CountedParts.{AreCornersCounted, AreEdgesCounted}
use Rattle.papergrid_tables.specs.declared.counted_lines.Lines.{Lines}
use Rattle.papergrid_tables.specs.declared.counted_parts.Corners.{Corners}
use Rattle.papergrid_tables.specs.declared.counted_parts.Edges.{Edges}

-- all counts of a border table are those of what it holds
pub record IsCounted {T : Type 0} (horizontal_lines : Lines (HorizontalLine T)) (vertical_lines : Lines (VerticalLine T)) (horizontal_edges vertical_edges : Edges T) (corners : Corners T) : Type 0 where
  pub ends_of_horizontal : AreEndsCounted (λ l. is_some l.left) (λ l. is_some l.right) horizontal_lines
  pub ends_of_vertical : AreEndsCounted (λ l. is_some l.top) (λ l. is_some l.bottom) vertical_lines
  pub rows_of_edges : AreEdgesCounted Rows horizontal_edges
  pub columns_of_edges : AreEdgesCounted Columns vertical_edges
  pub lines_of_corners : AreCornersCounted corners
