-- The visible cells of rows that records yield with their positions, and what they ask for along a direction.
use Rattle.std.specs.Prelude.{ℕ, ◌+◌, List, [], ◌∷◌, ◌++◌, length, map, filter}
use Rattle.papergrid_values.specs.declared.position.Position.{Position}
use Rattle.papergrid_tracks.specs.declared.demand.Demand.{Demand}
use Rattle.papergrid_values.specs.declared.direction.Direction.{Direction}
use Rattle.papergrid_values.specs.declared.direction.Direction.TheVariants.{Columns, Rows}
use Rattle.papergrid_tracks.specs.Problem.{Problem}
use Rattle.papergrid_tracks.specs.Ranges.{demand_of}
use Rattle.papergrid_maps.specs.Grids.{Grid}

-- the width, or the height, of a measure (width, height)
abbrev pub side : Direction → ℕ × ℕ → ℕ
side Columns measure = measure.0
side Rows measure = measure.1

module _ {C : Type 0} where
  -- the cells of a row, from column c on, with their positions
  abbrev pub placed_row : ℕ → ℕ → List C → List (Position × C)
  placed_row r c [] = []
  placed_row r c (cell ∷ cells) = (record { row = r; col = c }, cell) ∷ placed_row r (c + 1) cells

  -- the cells of rows, from row r on, with their positions
  abbrev pub placed_from : ℕ → List (List C) → List (Position × C)
  placed_from r [] = []
  placed_from r (row ∷ rows) = placed_row r 0 row ++ placed_from (r + 1) rows

  -- the cells with their positions, by row and then by column
  abbrev pub positioned_cells : List (List C) → List (Position × C)
  positioned_cells rows = placed_from 0 rows

  -- those of some cells that are visible
  abbrev pub visible_of : Grid → List (Position × C) → List (Position × C)
  visible_of grid cells = filter (λ cell. grid.shows cell.0) cells

  -- the visible cells of rows, by row and then by column
  abbrev pub visible_cells : Grid → List (List C) → List (Position × C)
  visible_cells grid rows = visible_of grid (positioned_cells rows)

  -- what a cell asks for: its measure and the paddings before and after it, over its span
  abbrev pub demand_by : Direction → Grid → (C → ℕ × ℕ) → Position × C → Demand
  demand_by direction grid measure cell =
      demand_of direction cell.0 (grid.span direction cell.0)
      (side direction (measure cell.1) + grid.before direction cell.0 + grid.after direction cell.0)

  -- what the visible ones of some cells ask for
  abbrev pub demands_by : Direction → Grid → (C → ℕ × ℕ) → List (Position × C) → List Demand
  demands_by direction grid measure cells = map (demand_by direction grid measure) (visible_of grid cells)

  -- what the visible cells of the rows ask for, by row and then by column
  abbrev pub demands_of : Direction → Grid → (C → ℕ × ℕ) → List (List C) → List Demand
  demands_of direction grid measure rows = demands_by direction grid measure (positioned_cells rows)

-- the number of columns, or of rows
abbrev pub count_along : Direction → ℕ → ℕ → ℕ
count_along Columns columns rows = columns
count_along Rows columns rows = rows

module _ {C : Type 0} (grid : Grid) (measure : C → ℕ × ℕ) where
  -- what the sizes along a direction, of so many tracks, are found for
  abbrev pub problem_with : Direction → ℕ → List (List C) → Problem
  problem_with direction count rows =
      record { count = count; line = grid.draws direction count; demands = demands_of direction grid measure rows }

  -- the same, of rows of so many columns
  abbrev pub problem_of : ℕ → List (List C) → Direction → Problem
  problem_of columns rows direction = problem_with direction (count_along direction columns (length rows)) rows
