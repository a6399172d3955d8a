-- What is read of the parts of a configuration.
use Rattle.std.proofs.Common.{◌≡◌, ℕ}
use Rattle.papergrid_values.specs.declared.position.Position.{Position}
use Rattle.papergrid_values.specs.declared.sides.Sides.{Sides}
use Rattle.papergrid_values.specs.declared.indent.Indent.{Indent}
use Rattle.papergrid_tables.specs.StoredBorders.{StoredBorders}
use Rattle.papergrid_maps.specs.Spans.{Spans, span_along}
use Rattle.papergrid_maps.specs.Visible.{is_visible}
use Rattle.papergrid_maps.specs.Grids.{Grid, size_after, size_before}
use Rattle.papergrid_tables.specs.LineTests.{line_along}

-- by its spans, its paddings and its lines
abbrev pub grid_by : Spans → (Position → Sides Indent) → StoredBorders ℕ → Grid
grid_by spans padding lines = record {
  shows = is_visible spans;
  span = span_along spans;
  before = λ direction p. size_before direction (padding p);
  after = λ direction p. size_after direction (padding p);
  draws = line_along lines;
}

-- of the same parts the same is read
pub same_grid_by : {spans other_spans : Spans} {padding other_padding : Position → Sides Indent} {lines other_lines : StoredBorders ℕ} → spans ≡ other_spans → ((p : Position) → padding p ≡ other_padding p) → lines ≡ other_lines
    → grid_by spans padding lines ≡ grid_by other_spans other_padding other_lines
same_grid_by spans padding lines = λ i. grid_by (spans i) (λ p. padding p i) (lines i)
