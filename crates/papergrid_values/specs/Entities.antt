-- Entities by their parts, and the positions that they stand for.
use Rattle.std.specs.Prelude.{ℕ, ◌+◌, ◌-◌, ◌==◌, nat_lt, ◌&&◌, ◌||◌, if◌then◌else◌, List, [], ◌∷◌, ◌++◌, map}
use Rattle.std.specs.List.{range_with_len, flat_map}
use Rattle.papergrid_values.specs.declared.entity.Entity.{Entity}
use Rattle.papergrid_values.specs.declared.entity.Entity.TheVariants.{Global, Column, Row, Cell}
use Rattle.papergrid_values.specs.declared.entity_iterator.EntityIterator.{EntityIterator}
use Rattle.papergrid_values.specs.Positions.{position_of}
use Rattle.papergrid_values.specs.declared.position.Position.{Position}

-- the positions of an entity where there are so many rows and columns, and neither number is 0
abbrev pub positions_in : Entity → ℕ → ℕ → List Position
positions_in Global rows cols =
    flat_map (λ row. map (λ col. position_of (row, col)) (range_with_len 0 cols)) (range_with_len 0 rows)
positions_in (Column col) rows cols = map (λ row. position_of (row, col)) (range_with_len 0 rows)
positions_in (Row row) rows cols = map (λ col. position_of (row, col)) (range_with_len 0 cols)
positions_in (Cell row col) rows cols = position_of (row, col) ∷ []

-- the same, and none where a count is 0; an entity's own numbers are not compared with the counts
abbrev pub positions : Entity → ℕ → ℕ → List Position
positions entity rows cols =
    if rows == 0 || cols == 0 then [] else positions_in entity rows cols

-- ---- what an iterator has left

-- the position of an entity at a step down and to the right
abbrev pub position_at_step : Entity → ℕ → ℕ → Position
position_at_step Global row col = position_of (row, col)
position_at_step (Column c) row col = position_of (row, c)
position_at_step (Row r) row col = position_of (r, col)
position_at_step (Cell r c) row col = position_of (r, c)

-- the positions of one row of steps, from a column on
abbrev pub row_from : Entity → ℕ → ℕ → ℕ → List Position
row_from entity cols row col = map (λ c. position_at_step entity row c) (range_with_len col (cols - col))

-- the positions of all rows of steps, from a row on
abbrev pub rows_from : Entity → ℕ → ℕ → ℕ → List Position
rows_from entity cols rows row =
    flat_map (λ r. row_from entity cols r 0) (range_with_len row (rows - row))

-- the rest of this row, and the rows after it
abbrev pub positions_left : EntityIterator → List Position
positions_left it =
    if nat_lt it.row it.rows && nat_lt it.col it.cols
    then row_from it.entity it.cols it.row it.col ++ rows_from it.entity it.cols it.rows (it.row + 1)
    else []
