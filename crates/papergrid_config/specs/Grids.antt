-- The grid of a configuration by entity, and of settings.
use Rattle.std.specs.Prelude.{◌≡◌, ◌↔◌, ℕ, IsTrue, List, flat_map, reverse}
use Rattle.papergrid_values.specs.declared.direction.Direction.{Direction}
use Rattle.papergrid_values.specs.Compact.{all_sides, spaces}
use Rattle.papergrid_values.specs.declared.indent.Indent.{Indent}
use Rattle.papergrid_values.specs.declared.position.Position.{Position}
use Rattle.papergrid_values.specs.declared.sides.Sides.{Sides}
use Rattle.papergrid_tables.specs.BorderParts.{HasLine, parts_from}
use Rattle.papergrid_tables.specs.LineTests.{line_along}
use Rattle.papergrid_maps.specs.Grids.{Grid, size_after, size_before}
use Rattle.papergrid_maps.specs.StoredMap.{stored_value}
use Rattle.papergrid_maps.specs.EffectiveCall.{IsEffective}
use Rattle.papergrid_maps.specs.Spans.{IsEffectiveSpan, IsVisible, span_along}
use Rattle.papergrid_maps.specs.Visible.{is_visible}
use Rattle.papergrid_config.specs.Parts.{character_calls, padding_calls, span_calls}
use Rattle.papergrid_config.specs.declared.setting.Setting.{Setting}
use Rattle.papergrid_config.specs.declared.spanned.SpannedConfig.{SpannedConfig}

-- by what the configuration holds
abbrev pub spanned_grid : SpannedConfig → Grid
spanned_grid config = record {
  shows = is_visible config.spans;
  span = span_along config.spans;
  before = λ direction p. size_before direction (stored_value config.padding p);
  after = λ direction p. size_after direction (stored_value config.padding p);
  draws = line_along config.characters;
}

-- the spans, the visible positions, the paddings and the lines that settings decide: what a walk over a table reads of them
pub record IsGridOf (settings : List Setting) (grid : Grid) : Type 0 where
  pub spans : (direction : Direction) (p : Position) → IsEffectiveSpan direction p (flat_map span_calls settings) (grid.span direction p)
  pub visible : (p : Position) → IsTrue (grid.shows p) ↔ IsVisible grid.span p
  pub padding : (p : Position) (sides : Sides Indent) → IsEffective (flat_map padding_calls settings) (all_sides (spaces 0)) p sides →
      (direction : Direction) → (grid.before direction p ≡ size_before direction sides) × (grid.after direction p ≡ size_after direction sides)
  pub lines : (direction : Direction) (i count : ℕ) →
      IsTrue (grid.draws direction count i) ↔ HasLine direction (parts_from (reverse (flat_map character_calls settings))) i count
