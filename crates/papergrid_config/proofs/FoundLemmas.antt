-- A character is found only on a line that is there.
use Rattle.std.proofs.Common.{◌≡◌, ℕ, ◌≤◌, Bool, true, false, ◌&&◌, Option, Some, None, refl, arith}
use Rattle.std.specs.Prelude.{◌↔◌, IsSome}
use Rattle.std.proofs.lemmas.Bool.{false≢true, and_from}
use Rattle.papergrid_values.specs.declared.position.Position.{Position}
use Rattle.papergrid_values.specs.declared.direction.Direction.TheVariants.{Columns, Rows}
use Rattle.papergrid_tables.specs.StoredBorders.{StoredBorders, parts_of_borders}
use Rattle.papergrid_tables.specs.LineTests.{line_along}
use Rattle.papergrid_tables.specs.BorderParts.{BorderParts, found_horizontal, found_intersection, found_vertical, HasLine}
use Rattle.papergrid_tables.specs.ForProofs.LineTested.{line_test}
use Rattle.papergrid_config.specs.Lines.{found_or_missing, shown_horizontal, shown_intersection, shown_vertical}

module _ {T : Type 0} (parts : BorderParts T) (p : Position) (count : ℕ) where
  found_on_vertical : p.col ≤ count → IsSome (found_vertical parts p count) → HasLine Columns parts p.col count
  found_on_vertical within = grind arith

  found_on_horizontal : p.row ≤ count → IsSome (found_horizontal parts p count) → HasLine Rows parts p.row count
  found_on_horizontal within = grind arith

shown_on_line : (found : Option ℕ) (is_line : Bool) (missing : ℕ) → is_line ≡ true → IsSome (found_or_missing found is_line missing)
shown_on_line None true missing h = refl
shown_on_line None false missing h = absurd (false≢true h)
shown_on_line (Some c) is_line missing h = refl

-- something is shown where there is a line, if what is found is found on one
shown_where_line : {Line : Type 0} (found : Option ℕ) (is_line : Bool) (missing : ℕ) → (is_line ≡ true) ↔ Line → (IsSome found → Line)
    → IsSome (found_or_missing found is_line missing) ↔ Line
shown_where_line found is_line missing tested on_line = grind arith

module _ (characters : StoredBorders ℕ) (missing : ℕ) (p : Position) where
  pub vertical_shown : (count : ℕ) → p.col ≤ count → IsSome (shown_vertical characters missing p count) ↔ HasLine Columns (parts_of_borders characters) p.col count
  vertical_shown count within =
      shown_where_line (found_vertical (parts_of_borders characters) p count) _ missing (line_test characters Columns count p.col).1 (found_on_vertical (parts_of_borders characters) p count within)

  pub horizontal_shown : (count : ℕ) → p.row ≤ count → IsSome (shown_horizontal characters missing p count) ↔ HasLine Rows (parts_of_borders characters) p.row count
  horizontal_shown count within =
      shown_where_line (found_horizontal (parts_of_borders characters) p count) _ missing (line_test characters Rows count p.row).1 (found_on_horizontal (parts_of_borders characters) p count within)

  pub crossing_shown : (rows cols : ℕ) → HasLine Rows (parts_of_borders characters) p.row rows → HasLine Columns (parts_of_borders characters) p.col cols → IsSome (shown_intersection characters missing p (rows, cols))
  crossing_shown rows cols horizontal vertical =
      shown_on_line (found_intersection (parts_of_borders characters) p rows cols) (line_along characters Rows rows p.row && line_along characters Columns cols p.col) missing
      (and_from _ _ ((line_test characters Rows rows p.row).1.1 horizontal) ((line_test characters Columns cols p.col).1.1 vertical))
