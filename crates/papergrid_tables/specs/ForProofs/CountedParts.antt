-- The counts of edges and of corners, and the room for more of them.
use Rattle.std.specs.Prelude.{ℕ, ◌≤◌}
use Rattle.std.specs.HashMap.{keys, spare}
use Rattle.papergrid_values.specs.declared.direction.Direction.{Direction}
use Rattle.papergrid_values.specs.declared.direction.Direction.TheVariants.{Columns, Rows}
use Rattle.papergrid_tables.specs.ForProofs.Counts.{AreCounts}
use Rattle.papergrid_tables.specs.declared.counted_parts.Corners.{Corners}
use Rattle.papergrid_tables.specs.declared.counted_parts.Edges.{Edges}

module _ {T : Type 0} where
  -- each line of the direction has its number of edges
  abbrev pub AreEdgesCounted : Direction → Edges T → Type 0
  AreEdgesCounted direction edges = AreCounts direction edges.on_lines.counts (keys edges.values)

  -- each row and each column has its number of corners
  abbrev pub AreCornersCounted : Corners T → Type 0
  AreCornersCounted corners = AreCounts Rows corners.in_rows.counts (keys corners.values) × AreCounts Columns corners.in_columns.counts (keys corners.values)

  -- so many more can be written without memory
  abbrev pub HasEdgeRoom : ℕ → Edges T → Type 0
  HasEdgeRoom n edges = (n ≤ spare edges.values) × (n ≤ spare edges.on_lines.counts)

  -- there is room for n more corners
  abbrev pub HasCornerRoom : ℕ → Corners T → Type 0
  HasCornerRoom n corners = (n ≤ spare corners.values) × (n ≤ spare corners.in_rows.counts) × (n ≤ spare corners.in_columns.counts)
