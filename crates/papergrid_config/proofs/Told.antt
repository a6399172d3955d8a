-- What a setting does to a configuration, part by part.
use Rattle.std.proofs.Common.{append-nil, ◌≡◌, ◌++◌, false, List, [], ◌∷◌, reverse, None, OnOk, Result, subst, sym}
use Rattle.std.proofs.lemmas.Grind.{flat_map-append}
use Rattle.std.proofs.lemmas.Result.{on_ok_weaker}
use Rattle.std.specs.List.{flat_map}
use Rattle.papergrid_values.specs.declared.alignment.AlignmentHorizontal.TheVariants.{Left}
use Rattle.papergrid_values.specs.declared.alignment.AlignmentVertical.TheVariants.{Top}
use Rattle.papergrid_values.specs.declared.offset.Offset.TheVariants.{Start}
use Rattle.papergrid_tables.specs.StoredBorders as lines
use Rattle.papergrid_tables.specs.Overrides as overrides
use Rattle.papergrid_values.specs.Compact.{all_sides, spaces}
use Rattle.papergrid_maps.specs.StoredMap as map
use Rattle.papergrid_maps.specs.Spans as spans
use Rattle.papergrid_config.specs.Parts.{padding_calls, padding_color_calls, trim_horizontal_calls, trim_vertical_calls, line_alignment_calls, alignment_horizontal_calls, alignment_vertical_calls, justification_calls, justification_color_calls, character_calls, color_calls, horizontal_char_calls, vertical_char_calls, horizontal_color_calls, vertical_color_calls, span_calls, margins, margin_colors, margin_offsets, missing_characters}
use Rattle.papergrid_config.specs.History.{AddsSetting, HasSettingHistory, newest_or}
use Rattle.papergrid_config.specs.declared.setting.Setting.{Setting}
use Rattle.papergrid_config.specs.declared.spanned.SpannedConfig.{SpannedConfig}

-- the history of a part, as its calls before and its further calls
pub record HasPart {C V : Type 0} (IsTold : List C → V → Type 0) (calls : Setting → List C) (before further : List Setting) (value : V) : Type 0 where
  pub told : IsTold (flat_map calls before ++ flat_map calls further) value

kept : {C V : Type 0} {IsTold : List C → V → Type 0} {calls : Setting → List C} {before : List Setting} {value : V}
    → IsTold (flat_map calls before) value → HasPart IsTold calls before [] value
kept {IsTold = IsTold} {calls = calls} {before = before} {value = value} told = record { told = subst (λ xs. IsTold xs value) (sym (append-nil (flat_map calls before))) told }

-- the same for each part
pub record HasParts (before further : List Setting) (config : SpannedConfig) : Type 0 where
  pub padding : HasPart (map.HasMapHistory (all_sides (spaces 0))) padding_calls before further config.padding
  pub padding_color : HasPart (map.HasMapHistory (all_sides None)) padding_color_calls before further config.padding_color
  pub trim_horizontal : HasPart (map.HasMapHistory false) trim_horizontal_calls before further config.trim_horizontal
  pub trim_vertical : HasPart (map.HasMapHistory false) trim_vertical_calls before further config.trim_vertical
  pub line_alignment : HasPart (map.HasMapHistory false) line_alignment_calls before further config.line_alignment
  pub alignment_horizontal : HasPart (map.HasMapHistory Left) alignment_horizontal_calls before further config.alignment_horizontal
  pub alignment_vertical : HasPart (map.HasMapHistory Top) alignment_vertical_calls before further config.alignment_vertical
  pub justification : HasPart (map.HasMapHistory 32) justification_calls before further config.justification
  pub justification_color : HasPart (map.HasMapHistory None) justification_color_calls before further config.justification_color
  pub characters : HasPart lines.HasBorderHistory character_calls before further config.characters
  pub colors : HasPart lines.HasBorderHistory color_calls before further config.colors
  pub horizontal_chars : HasPart overrides.HasOverrideHistory horizontal_char_calls before further config.horizontal_chars
  pub vertical_chars : HasPart overrides.HasOverrideHistory vertical_char_calls before further config.vertical_chars
  pub horizontal_colors : HasPart overrides.HasOverrideHistory horizontal_color_calls before further config.horizontal_colors
  pub vertical_colors : HasPart overrides.HasOverrideHistory vertical_color_calls before further config.vertical_colors
  pub spans : HasPart spans.HasSpanHistory span_calls before further config.spans
  pub margin : HasPart (λ values value. value ≡ newest_or (all_sides (spaces 0)) (reverse values)) margins before further config.margin
  pub margin_color : HasPart (λ values value. value ≡ newest_or (all_sides None) (reverse values)) margin_colors before further config.margin_color
  pub margin_offset : HasPart (λ values value. value ≡ newest_or (all_sides (Start 0)) (reverse values)) margin_offsets before further config.margin_offset
  pub missing : HasPart (λ values value. value ≡ newest_or 32 (reverse values)) missing_characters before further config.missing

parts_before : {before : List Setting} {config : SpannedConfig} → HasSettingHistory before config → HasParts before [] config
parts_before told = search (kept, told.horizontal_chars, told.vertical_chars, told.horizontal_colors, told.vertical_colors, told.spans)

joined : {C V : Type 0} {IsTold : List C → V → Type 0} {calls : Setting → List C} {before further : List Setting} {value : V}
    → HasPart IsTold calls before further value → IsTold (flat_map calls (before ++ further)) value
joined {IsTold = IsTold} {calls = calls} {before = before} {further = further} {value = value} part =
    subst (λ xs. IsTold xs value) (sym (flat_map-append calls before further)) part.told

told_by_part : {before further : List Setting} {config : SpannedConfig} → HasParts before further config → HasSettingHistory (before ++ further) config
told_by_part parts = record {
  padding = joined parts.padding;
  padding_color = joined parts.padding_color;
  trim_horizontal = joined parts.trim_horizontal;
  trim_vertical = joined parts.trim_vertical;
  line_alignment = joined parts.line_alignment;
  alignment_horizontal = joined parts.alignment_horizontal;
  alignment_vertical = joined parts.alignment_vertical;
  justification = joined parts.justification;
  justification_color = joined parts.justification_color;
  characters = joined parts.characters;
  colors = joined parts.colors;
  horizontal_chars = joined parts.horizontal_chars;
  vertical_chars = joined parts.vertical_chars;
  horizontal_colors = joined parts.horizontal_colors;
  vertical_colors = joined parts.vertical_colors;
  spans = joined parts.spans;
  margin = joined parts.margin;
  margin_color = joined parts.margin_color;
  margin_offset = joined parts.margin_offset;
  missing = joined parts.missing;
}

-- a call that succeeds adds a setting where each part is as its calls tell
pub ok_by_part : {T E P : Type 0} {old new : SpannedConfig} (result : Result T E) (setting : Setting) → OnOk result P
    → (P → (before : List Setting) → HasSettingHistory before old → HasParts before [] old → HasParts before (setting ∷ []) new) → OnOk result (AddsSetting old new setting)
ok_by_part result setting ok parts = on_ok_weaker result (λ told before so_far. told_by_part (parts told before so_far (parts_before so_far))) ok
