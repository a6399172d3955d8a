-- What a list of settings makes of the lines, of the spans and of the paddings.
use Rattle.std.specs.Prelude.{ℕ, List, flat_map}
use Rattle.papergrid_values.specs.Compact.{all_sides, spaces}
use Rattle.papergrid_values.specs.declared.indent.Indent.{Indent}
use Rattle.papergrid_values.specs.declared.position.Position.{Position}
use Rattle.papergrid_values.specs.declared.sides.Sides.{Sides}
use Rattle.papergrid_tables.specs.StoredBorders.{StoredBorders}
use Rattle.papergrid_tables.proofs.Made.{borders_made}
use Rattle.papergrid_maps.proofs.Made.{spans_made}
use Rattle.papergrid_maps.proofs.MapSearch.{effective_value}
use Rattle.papergrid_maps.specs.Grids.{Grid, size_after, size_before}
use Rattle.papergrid_maps.specs.Spans.{Spans, span_along}
use Rattle.papergrid_maps.specs.Visible.{is_visible}
use Rattle.papergrid_tables.specs.LineTests.{line_along}
use Rattle.papergrid_config.specs.Parts.{character_calls, padding_calls, span_calls}
use Rattle.papergrid_config.specs.declared.setting.Setting.{Setting}

-- the characters of lines
abbrev pub characters_of : List Setting → StoredBorders ℕ
characters_of settings = borders_made (flat_map character_calls settings)

-- the spans
abbrev pub spans_of : List Setting → Spans
spans_of settings = spans_made (flat_map span_calls settings)

-- the paddings of a cell
abbrev pub padding_of : List Setting → Position → Sides Indent
padding_of settings p = effective_value (all_sides (spaces 0)) (flat_map padding_calls settings) p

-- the grid that they decide
unfoldable pub grid_of : List Setting → Grid
grid_of settings = record {
  shows = is_visible (spans_of settings);
  span = span_along (spans_of settings);
  before = λ direction p. size_before direction (padding_of settings p);
  after = λ direction p. size_after direction (padding_of settings p);
  draws = line_along (characters_of settings);
}
