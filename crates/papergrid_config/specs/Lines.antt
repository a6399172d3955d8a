-- The lines of a configuration, and what is shown on them.
use Rattle.std.specs.Prelude.{ℕ, ◌&&◌, Bool, if◌then◌else◌, Option, Some, None}
use Rattle.std.specs.Option.{option_or}
use Rattle.papergrid_values.specs.declared.direction.Direction.TheVariants.{Columns, Rows}
use Rattle.papergrid_values.specs.declared.position.Position.{Position}
use Rattle.papergrid_tables.specs.StoredBorders.{StoredBorders, parts_of_borders}
use Rattle.papergrid_tables.specs.LineTests.{line_along}
use Rattle.papergrid_tables.specs.BorderParts.{found_horizontal, found_intersection, found_vertical}

-- what is found, or where nothing is found and there is a line the missing character
abbrev pub found_or_missing : Option ℕ → Bool → ℕ → Option ℕ
found_or_missing found is_line missing = option_or found (if is_line then Some missing else None)

module _ (characters : StoredBorders ℕ) (missing : ℕ) where
  -- on a vertical line, at the edge of a position
  abbrev pub shown_vertical : Position → ℕ → Option ℕ
  shown_vertical p count =
      found_or_missing (found_vertical (parts_of_borders characters) p count)
      (line_along characters Columns count p.col) missing

  -- on a horizontal line, at the edge of a position
  abbrev pub shown_horizontal : Position → ℕ → Option ℕ
  shown_horizontal p count =
      found_or_missing (found_horizontal (parts_of_borders characters) p count)
      (line_along characters Rows count p.row) missing

  -- where both lines cross, in a table of so many rows and columns
  abbrev pub shown_intersection : Position → ℕ × ℕ → Option ℕ
  shown_intersection p shape =
      found_or_missing (found_intersection (parts_of_borders characters) p shape.0 shape.1)
      (line_along characters Rows shape.0 p.row && line_along characters Columns shape.1 p.col) missing
