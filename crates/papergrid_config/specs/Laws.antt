-- What is stored is what settings decide.
use Rattle.std.specs.Prelude.{false, List, None}
use Rattle.std.specs.List.{flat_map}
use Rattle.papergrid_values.specs.Compact.{all_sides, spaces}
use Rattle.papergrid_values.specs.declared.alignment.AlignmentHorizontal.TheVariants.{Left}
use Rattle.papergrid_values.specs.declared.alignment.AlignmentVertical.TheVariants.{Top}
use Rattle.papergrid_values.specs.declared.position.Position.{Position}
use Rattle.papergrid_maps.specs.EffectiveCall.{IsEffective}
use Rattle.papergrid_maps.specs.StoredMap.{Stored, stored_value}
use Rattle.papergrid_maps.specs.declared.entity_map.MapCall.{MapCall}
use Rattle.papergrid_config.specs.Parts.{alignment_horizontal_calls, alignment_vertical_calls, justification_calls, justification_color_calls, line_alignment_calls, padding_calls, padding_color_calls, trim_horizontal_calls, trim_vertical_calls}
use Rattle.papergrid_config.specs.declared.setting.Setting.{Setting}
use Rattle.papergrid_config.specs.declared.spanned.SpannedConfig.{SpannedConfig}

-- a map holds for each position what these calls of the settings decide
abbrev pub HoldsEffective : {A : Type 0} → List Setting → A → (Setting → List (MapCall A)) → Stored A → Type 0
HoldsEffective settings default calls stored = (p : Position) → IsEffective (flat_map calls settings) default p (stored_value stored p)

-- so does each part of a configuration
pub record HoldsEffectiveValues (settings : List Setting) (config : SpannedConfig) : Type 0 where
  pub padding : HoldsEffective settings (all_sides (spaces 0)) padding_calls config.padding
  pub padding_color : HoldsEffective settings (all_sides None) padding_color_calls config.padding_color
  pub trim_horizontal : HoldsEffective settings false trim_horizontal_calls config.trim_horizontal
  pub trim_vertical : HoldsEffective settings false trim_vertical_calls config.trim_vertical
  pub line_alignment : HoldsEffective settings false line_alignment_calls config.line_alignment
  pub alignment_horizontal : HoldsEffective settings Left alignment_horizontal_calls config.alignment_horizontal
  pub alignment_vertical : HoldsEffective settings Top alignment_vertical_calls config.alignment_vertical
  pub justification : HoldsEffective settings 32 justification_calls config.justification
  pub justification_color : HoldsEffective settings None justification_color_calls config.justification_color
