-- When two configurations hold the same.
use Rattle.std.specs.Prelude.{◌≡◌}
use Rattle.papergrid_tables.specs.Overrides.{override_at}
use Rattle.papergrid_config.specs.declared.spanned.SpannedConfig.{SpannedConfig}

-- the values by entity, the lines, the spans and the values of the whole table are the same. So is
-- the override at each position and offset, however it is kept
pub record HoldTheSameSettings (x y : SpannedConfig) : Type 0 where
  pub but_overrides : x ≡ record y {
    alloc = x.alloc;
    horizontal_chars = x.horizontal_chars;
    vertical_chars = x.vertical_chars;
    horizontal_colors = x.horizontal_colors;
    vertical_colors = x.vertical_colors;
  }
  pub horizontal_chars : override_at x.horizontal_chars ≡ override_at y.horizontal_chars
  pub vertical_chars : override_at x.vertical_chars ≡ override_at y.vertical_chars
  pub horizontal_colors : override_at x.horizontal_colors ≡ override_at y.horizontal_colors
  pub vertical_colors : override_at x.vertical_colors ≡ override_at y.vertical_colors
