-- What settings leave as it was: each part that none of them sets or removes.
use Rattle.std.specs.Prelude.{Bool, List, [], ◌∷◌, filter}
use Rattle.std.specs.List.{flat_map}
use Rattle.papergrid_values.specs.declared.direction.Direction.{Direction}
use Rattle.papergrid_values.specs.declared.direction.Direction.TheVariants.{Columns, Rows}
use Rattle.papergrid_maps.specs.Spans.{RemoveSpans, SetSpan, SpanCall, is_same_direction}
use Rattle.papergrid_config.specs.Parts.{padding_calls, padding_color_calls, trim_horizontal_calls, trim_vertical_calls, line_alignment_calls, alignment_horizontal_calls, alignment_vertical_calls, justification_calls, justification_color_calls, character_calls, color_calls, horizontal_char_calls, vertical_char_calls, horizontal_color_calls, vertical_color_calls, span_calls, margins, margin_colors, margin_offsets, missing_characters}
use Rattle.papergrid_config.specs.declared.setting.Setting.{Setting}
use Rattle.papergrid_config.specs.declared.spanned.SpannedConfig.{SpannedConfig}

-- the new value of a part that has calls, and the old value of one that has none
abbrev pub if_called : {C A : Type 0} → List C → A → A → A
if_called [] old new = old
if_called (call ∷ calls) old new = new

-- whether a call is one for the spans along a direction
abbrev pub is_span_call : Direction → SpanCall → Bool
is_span_call d (SetSpan e p n) = is_same_direction e d
is_span_call d (RemoveSpans e) = is_same_direction e d

-- for the spans along a direction
abbrev pub span_calls_along : Direction → Setting → List SpanCall
span_calls_along d setting = filter (is_span_call d) (span_calls setting)

-- the old configuration, but for the parts to which some of the settings belong: those are as in the new one
abbrev pub changed_by : List Setting → SpannedConfig → SpannedConfig → SpannedConfig
changed_by settings old new = record {
  alloc = old.alloc;
  padding = if_called (flat_map padding_calls settings) old.padding new.padding;
  padding_color = if_called (flat_map padding_color_calls settings) old.padding_color new.padding_color;
  trim_horizontal = if_called (flat_map trim_horizontal_calls settings) old.trim_horizontal new.trim_horizontal;
  trim_vertical = if_called (flat_map trim_vertical_calls settings) old.trim_vertical new.trim_vertical;
  line_alignment = if_called (flat_map line_alignment_calls settings) old.line_alignment new.line_alignment;
  alignment_horizontal = if_called (flat_map alignment_horizontal_calls settings) old.alignment_horizontal new.alignment_horizontal;
  alignment_vertical = if_called (flat_map alignment_vertical_calls settings) old.alignment_vertical new.alignment_vertical;
  justification = if_called (flat_map justification_calls settings) old.justification new.justification;
  justification_color = if_called (flat_map justification_color_calls settings) old.justification_color new.justification_color;
  characters = if_called (flat_map character_calls settings) old.characters new.characters;
  colors = if_called (flat_map color_calls settings) old.colors new.colors;
  horizontal_chars = if_called (flat_map horizontal_char_calls settings) old.horizontal_chars new.horizontal_chars;
  vertical_chars = if_called (flat_map vertical_char_calls settings) old.vertical_chars new.vertical_chars;
  horizontal_colors = if_called (flat_map horizontal_color_calls settings) old.horizontal_colors new.horizontal_colors;
  vertical_colors = if_called (flat_map vertical_color_calls settings) old.vertical_colors new.vertical_colors;
  spans = record {
    columns = if_called (flat_map (span_calls_along Columns) settings) old.spans.columns new.spans.columns;
    rows = if_called (flat_map (span_calls_along Rows) settings) old.spans.rows new.spans.rows;
  };
  margin = if_called (flat_map margins settings) old.margin new.margin;
  margin_color = if_called (flat_map margin_colors settings) old.margin_color new.margin_color;
  margin_offset = if_called (flat_map margin_offsets settings) old.margin_offset new.margin_offset;
  missing = if_called (flat_map missing_characters settings) old.missing new.missing;
}
