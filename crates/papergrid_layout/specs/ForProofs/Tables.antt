-- What a table keeps.
use Rattle.std.specs.Prelude.{◌≡◌, ◌^◌, ◌<◌, ℕ, List, refl}
use Rattle.std.specs.Coded.{Coded, code_by, coded×, coded_list, coded_ℕ}
use Rattle.papergrid_values.specs.declared.direction.Direction.{Direction}
use Rattle.papergrid_values.specs.declared.direction.Direction.TheVariants.{Columns, Rows}
use Rattle.papergrid_config.specs.declared.spanned.SpannedConfig.{SpannedConfig}
use Rattle.papergrid_layout.specs.Places.{TableView, total_along, track_count, track_line, track_size}
use Rattle.papergrid_layout.specs.Tables.{TableParts}
use Rattle.papergrid_layout.specs.ForProofs.Placing.{AreMarked, AreMarks}
use Rattle.papergrid_layout.specs.ForProofs.Spanning.{HaveAllSpanning}
use Rattle.papergrid_layout.specs.declared.marks.Marks.{Marks}
use Rattle.papergrid_layout.specs.declared.spanning.SpanningCell.{SpanningCell}

-- a code of its parts, by one of configurations
abbrev pub parts_code : Coded SpannedConfig → Coded TableParts
parts_code c =
    code_by (SpannedConfig × (List ℕ × List ℕ)) (coded× c (coded× (coded_list coded_ℕ) (coded_list coded_ℕ)))
    (λ t. (t.config, (t.widths, t.heights))) (λ p. record { config = p.0; widths = p.1.0; heights = p.1.1 }) (λ _. refl)

-- its totals, which fit, where its columns and rows begin and end, and its cells that span several of them
pub record IsMeasured (table : TableView) (width height : ℕ) (across down : Marks) (cells : List SpanningCell) : Type 0 where
  pub fit : (direction : Direction) → total_along table direction < 2 ^ 64
  pub wide : width ≡ total_along table Columns
  pub high : height ≡ total_along table Rows
  pub marked : AreMarked table across down
  pub spanning : HaveAllSpanning table cells

-- a total along a direction, which fits, and where the tracks begin and end
abbrev pub IsMeasuredAlong : TableView → Direction → ℕ × Marks → Type 0
IsMeasuredAlong table direction (total, marks) = (total_along table direction < 2 ^ 64) × (total ≡ total_along table direction)
    × AreMarks (track_size table direction) (track_line table direction) (track_count table direction) marks
