-- Whether a border table has a line, by a search through what it holds.
use Rattle.std.specs.Prelude.{ℕ, ◌==◌, ◌||◌, Bool, false, Option, Some, None, is_some}
use Rattle.std.specs.List.{list_any}
use Rattle.std.specs.FinMap.{FinMap, get, keys, contains_key}
use Rattle.papergrid_values.specs.Positions.{along}
use Rattle.papergrid_values.specs.declared.direction.Direction.{Direction}
use Rattle.papergrid_values.specs.declared.direction.Direction.TheVariants.{Columns, Rows}
use Rattle.papergrid_values.specs.declared.horizontal_line.HorizontalLine.{HorizontalLine}
use Rattle.papergrid_values.specs.declared.vertical_line.VerticalLine.{VerticalLine}
use Rattle.papergrid_tables.specs.StoredBorders.{StoredBorders}
use Rattle.papergrid_tables.specs.BorderScan.{has_end}
use Rattle.papergrid_values.specs.MapKeys.{position_cmp}
use Rattle.papergrid_tables.specs.BorderParts.{in_frame}

module _ {T : Type 0} where
  -- a horizontal line has an end at column c of count, and a vertical line one at row r of count
  abbrev pub ends_at_column : ℕ → ℕ → Option (HorizontalLine T) → Bool
  ends_at_column c count None = false
  ends_at_column c count (Some line) = has_end c count line.left line.right

  -- whether a vertical line has an end set at the horizontal line r of count
  abbrev pub ends_at_row : ℕ → ℕ → Option (VerticalLine T) → Bool
  ends_at_row r count None = false
  ends_at_row r count (Some line) = has_end r count line.top line.bottom

  -- something is stored at a position on the line n of a direction
  abbrev pub stands_on : Direction → ℕ → FinMap position_cmp T → Bool
  stands_on direction n stored = list_any (λ p. along direction p == n) (keys stored)

  -- the global value, the frame, an end of a line across, a line, an edge or a corner
  abbrev pub vertical_line_at : StoredBorders T → ℕ → ℕ → Bool
  vertical_line_at stored c count =
      is_some stored.global || (in_frame Columns stored.frame c count
      || (list_any (λ r. ends_at_column c count (get stored.horizontal_lines r)) (keys stored.horizontal_lines)
      || (contains_key stored.vertical_lines c || (stands_on Columns c stored.vertical_edges || stands_on Columns c stored.corners))))

  -- the same of a horizontal line
  abbrev pub horizontal_line_at : StoredBorders T → ℕ → ℕ → Bool
  horizontal_line_at stored r count =
      is_some stored.global || (in_frame Rows stored.frame r count
      || (list_any (λ c. ends_at_row r count (get stored.vertical_lines c)) (keys stored.vertical_lines)
      || (contains_key stored.horizontal_lines r || (stands_on Rows r stored.horizontal_edges || stands_on Rows r stored.corners))))
