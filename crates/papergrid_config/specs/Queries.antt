-- What the queries of a configuration ask.
use Rattle.std.specs.Prelude.{◌≡◌, [], Option, false}
use Rattle.papergrid_values.specs.Keys.{sides_parts}
use Rattle.papergrid_values.specs.Parts.{none_set}
use Rattle.papergrid_values.specs.declared.ansi_buf.ANSIBuf.{ANSIBuf}
use Rattle.papergrid_values.specs.declared.sides.Sides.{Sides}
use Rattle.papergrid_tables.specs.BorderParts.{HasNoCellParts}
use Rattle.papergrid_tables.specs.StoredBorders as lines
use Rattle.papergrid_tables.specs.Overrides as overrides
use Rattle.papergrid_maps.specs.StoredMap.{HoldsValue, Stored}
use Rattle.papergrid_config.specs.declared.spanned.SpannedConfig.{SpannedConfig}

-- a value with a side that is set is stored, for the whole table or an entity of it
abbrev pub HasSetSide : Stored (Sides (Option ANSIBuf)) → Type 0
HasSetSide stored =
    (colors : Sides (Option ANSIBuf)) × HoldsValue stored colors × (none_set (sides_parts colors) ≡ false)

-- no edge, corner or colour of a line is stored, and no character or colour at an offset. What stands on a line is
-- that of the whole line
pub record HasCommonLines (config : SpannedConfig) : Type 0 where
  pub characters : HasNoCellParts (lines.parts_of_borders config.characters)
  pub colors : lines.HasBorderHistory [] config.colors
  pub horizontal_chars : overrides.HasOverrideHistory [] config.horizontal_chars
  pub vertical_chars : overrides.HasOverrideHistory [] config.vertical_chars
  pub horizontal_colors : overrides.HasOverrideHistory [] config.horizontal_colors
  pub vertical_colors : overrides.HasOverrideHistory [] config.vertical_colors
