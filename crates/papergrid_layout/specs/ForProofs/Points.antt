-- What is known of the cells that stand over a point.
use Rattle.std.specs.Prelude.{ℕ}
use Rattle.papergrid_values.specs.declared.position.Position.{Position}
use Rattle.papergrid_maps.specs.Spans.{IsInRectangle}
use Rattle.papergrid_layout.specs.Places.{StandsOver, TableView, table_by}
use Rattle.papergrid_layout.specs.declared.point.Point.{Point}

-- a position lies in the rectangle of each cell that stands over column x of the terminal in line y
abbrev pub LiesInEach : TableView → ℕ → ℕ → Position → Type 0
LiesInEach table x y within =
    (q : Position) → StandsOver table x y q → IsInRectangle table.grid.span q within

-- the table of a point, by the widths and heights of its dimension
abbrev pub point_table : {D : Type 0} → (D → ℕ → ℕ) → (D → ℕ → ℕ) → Point D → TableView
point_table width_of height_of point = table_by point.config.now (width_of point.dimension.now) (height_of point.dimension.now) point.shape

-- the position lies within the rectangle of each cell that stands over the point
abbrev pub IsAround : {D : Type 0} → (D → ℕ → ℕ) → (D → ℕ → ℕ) → Point D → Type 0
IsAround width_of height_of point = LiesInEach (point_table width_of height_of point) point.column point.line point.within
