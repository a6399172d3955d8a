-- What is kept of the cells of a table that span several columns or rows.
use Rattle.std.specs.Prelude.{◌≡◌, ◌⊎◌, ℕ, ◌+◌, ◌<◌, ◌≤◌, All, AllPairs, Contains, List, [], ◌∷◌, ◌++◌, Option, None, Some}
use Rattle.std.specs.List.Sorted.{IsNonDecreasingBy}
use Rattle.papergrid_values.specs.declared.position.Position.{Position}
use Rattle.papergrid_values.specs.declared.direction.Direction.{Direction}
use Rattle.papergrid_values.specs.declared.direction.Direction.TheVariants.{Rows}
use Rattle.papergrid_values.specs.Positions.{IsBefore}
use Rattle.papergrid_layout.specs.Places.{Covers, HasPlace, IsInsideTable, TableView, place_at}
use Rattle.papergrid_layout.specs.declared.spanning.SpanningCell.{SpanningCell}
use Rattle.papergrid_layout.specs.declared.spanning.Spanning.{Spanning}

-- the row after the last one that the cell at a position spans
abbrev pub end_row : TableView → Position → ℕ
end_row table p = p.row + table.grid.span Rows p

-- the cells stand in order, each with its screen rectangle, and no row of it or of one before it is past its reach
pub record AreSpanning (table : TableView) (cells : List SpanningCell) : Type 0 where
  pub in_order : AllPairs (λ a b. IsBefore a.position b.position) cells
  pub rising : IsNonDecreasingBy (λ (a : SpanningCell). a.reach) cells
  pub reaching : All (λ a. end_row table a.position ≤ a.reach) cells
  pub placed : All (λ a. HasPlace table a.position a.place) cells

-- the cell at a position is one of them
abbrev pub IsListed : List SpanningCell → Position → Type 0
IsListed cells p = (cell : SpanningCell) × Contains cells cell × (cell.position ≡ p)

-- all cells of the table that span more than one column or row
pub record HaveAllSpanning (table : TableView) (cells : List SpanningCell) : Type 0 where
  pub are : AreSpanning table cells
  pub complete : (direction : Direction) (p : Position) → IsInsideTable table p → 2 ≤ table.grid.span direction p → IsListed cells p

-- past a position: its cell is listed if it has a screen rectangle, and nothing else changed
abbrev pub IsSpannedStep : TableView → Position → Spanning → Spanning → Type 0
IsSpannedStep table p old new =
    ((IsInsideTable table p → ⊥) × (new.cells.items ≡ old.cells.items) × (new.reach ≡ old.reach))
    ⊎ (IsInsideTable table p × (old.reach ≤ new.reach) × (end_row table p ≤ new.reach)
    × (new.cells.items ≡ old.cells.items ++ record { position = p; place = place_at table p; reach = new.reach } ∷ []))

-- the rows of each cell that covers a point have the row
abbrev pub CoverInRow : TableView → ℕ → ℕ → ℕ → List SpanningCell → Type 0
CoverInRow table row x y cells = All (λ a. Covers a.place x y → (a.position.row ≤ row) × (row < end_row table a.position)) cells

-- the first of the cells that covers a point, or none does
abbrev pub IsFirstCovering : ℕ → ℕ → List SpanningCell → Option Position → Type 0
IsFirstCovering x y cells None = All (λ a. Covers a.place x y → ⊥) cells
IsFirstCovering x y cells (Some p) = (a : SpanningCell) × Contains cells a × (a.position ≡ p) × Covers a.place x y
    × ((b : SpanningCell) → Contains cells b → IsBefore b.position p → Covers b.place x y → ⊥)
