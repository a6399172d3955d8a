-- What a configuration holds after a list of settings.
use Rattle.std.specs.Prelude.{◌≡◌, false, List, [], ◌∷◌, reverse, None}
use Rattle.std.specs.List.{flat_map}
use Rattle.papergrid_values.specs.declared.alignment.AlignmentHorizontal.TheVariants.{Left}
use Rattle.papergrid_values.specs.declared.alignment.AlignmentVertical.TheVariants.{Top}
use Rattle.papergrid_values.specs.declared.offset.Offset.TheVariants.{Start}
use Rattle.papergrid_values.specs.History as told
use Rattle.papergrid_tables.specs.StoredBorders as lines
use Rattle.papergrid_tables.specs.Overrides as overrides
use Rattle.papergrid_values.specs.Compact.{all_sides, spaces}
use Rattle.papergrid_maps.specs.EffectiveCall.{IsEffective}
use Rattle.papergrid_maps.specs.StoredMap as map
use Rattle.papergrid_maps.specs.declared.entity_map.MapCall.{MapCall}
use Rattle.papergrid_values.specs.declared.position.Position.{Position}
use Rattle.papergrid_maps.specs.Spans as spans
use Rattle.papergrid_config.specs.Parts.{padding_calls, padding_color_calls, trim_horizontal_calls, trim_vertical_calls, line_alignment_calls, alignment_horizontal_calls, alignment_vertical_calls, justification_calls, justification_color_calls, character_calls, color_calls, horizontal_char_calls, vertical_char_calls, horizontal_color_calls, vertical_color_calls, span_calls, margins, margin_colors, margin_offsets, missing_characters}
use Rattle.papergrid_config.specs.declared.setting.Setting.{Setting}
use Rattle.papergrid_config.specs.declared.spanned.SpannedConfig.{SpannedConfig}

-- the newest of the values set, newest first, or the default
abbrev pub newest_or : {T : Type 0} → T → List T → T
newest_or default [] = default
newest_or default (newest ∷ older) = newest

-- the last value that settings set, or the default
abbrev pub last_set : {T : Type 0} → T → (Setting → List T) → List Setting → T
last_set default values settings = newest_or default (reverse (flat_map values settings))

-- a new configuration that was given the settings holds this: the history of each part is the
-- settings that belong to it
pub record HasSettingHistory (settings : List Setting) (config : SpannedConfig) : Type 0 where
  pub padding : map.HasMapHistory (all_sides (spaces 0)) (flat_map padding_calls settings) config.padding
  pub padding_color : map.HasMapHistory (all_sides None) (flat_map padding_color_calls settings) config.padding_color
  pub trim_horizontal : map.HasMapHistory false (flat_map trim_horizontal_calls settings) config.trim_horizontal
  pub trim_vertical : map.HasMapHistory false (flat_map trim_vertical_calls settings) config.trim_vertical
  pub line_alignment : map.HasMapHistory false (flat_map line_alignment_calls settings) config.line_alignment
  pub alignment_horizontal : map.HasMapHistory Left (flat_map alignment_horizontal_calls settings) config.alignment_horizontal
  pub alignment_vertical : map.HasMapHistory Top (flat_map alignment_vertical_calls settings) config.alignment_vertical
  pub justification : map.HasMapHistory 32 (flat_map justification_calls settings) config.justification
  pub justification_color : map.HasMapHistory None (flat_map justification_color_calls settings) config.justification_color
  pub characters : lines.HasBorderHistory (flat_map character_calls settings) config.characters
  pub colors : lines.HasBorderHistory (flat_map color_calls settings) config.colors
  pub horizontal_chars : overrides.HasOverrideHistory (flat_map horizontal_char_calls settings) config.horizontal_chars
  pub vertical_chars : overrides.HasOverrideHistory (flat_map vertical_char_calls settings) config.vertical_chars
  pub horizontal_colors : overrides.HasOverrideHistory (flat_map horizontal_color_calls settings) config.horizontal_colors
  pub vertical_colors : overrides.HasOverrideHistory (flat_map vertical_color_calls settings) config.vertical_colors
  pub spans : spans.HasSpanHistory (flat_map span_calls settings) config.spans
  pub margin : config.margin ≡ last_set (all_sides (spaces 0)) margins settings
  pub margin_color : config.margin_color ≡ last_set (all_sides None) margin_colors settings
  pub margin_offset : config.margin_offset ≡ last_set (all_sides (Start 0)) margin_offsets settings
  pub missing : config.missing ≡ last_set 32 missing_characters settings

-- whatever the history of the configuration, it becomes this and then the further settings
abbrev pub AppendsSettings : SpannedConfig → SpannedConfig → List Setting → Type 0
AppendsSettings old new further = told.AppendsHistory HasSettingHistory old new further

-- the same for one further setting
abbrev pub AddsSetting : SpannedConfig → SpannedConfig → Setting → Type 0
AddsSetting old new setting = AppendsSettings old new (setting ∷ [])

-- whatever settings make the configuration, their calls decide the value for the position
abbrev pub IsEffectiveAt : {A : Type 0} → SpannedConfig → Position → A → (Setting → List (MapCall A)) → A → Type 0
IsEffectiveAt config p default calls value =
    (settings : List Setting) → HasSettingHistory settings config → IsEffective (flat_map calls settings) default p value
