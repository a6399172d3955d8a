-- The part of a configuration to which each setting belongs, as a call of that part.
use Rattle.std.specs.Prelude.{ℕ, Bool, List, [], ◌∷◌, Option}
use Rattle.papergrid_values.specs.declared.direction.Direction.TheVariants.{Columns, Rows}
use Rattle.papergrid_values.specs.declared.alignment.AlignmentHorizontal.{AlignmentHorizontal}
use Rattle.papergrid_values.specs.declared.alignment.AlignmentVertical.{AlignmentVertical}
use Rattle.papergrid_values.specs.declared.ansi_buf.ANSIBuf.{ANSIBuf}
use Rattle.papergrid_values.specs.declared.indent.Indent.{Indent}
use Rattle.papergrid_values.specs.declared.offset.Offset.{Offset}
use Rattle.papergrid_values.specs.declared.sides.Sides.{Sides}
use Rattle.papergrid_tables.specs.BorderCalls as lines
use Rattle.papergrid_tables.specs.Overrides as overrides
use Rattle.papergrid_maps.specs.declared.entity_map.MapCall.{MapCall}
use Rattle.papergrid_maps.specs.declared.entity_map.MapCall.TheVariants.{Insert}
use Rattle.papergrid_maps.specs.Spans as spans
use Rattle.papergrid_config.specs.declared.setting.Setting.{Setting}
use Rattle.papergrid_config.specs.declared.setting.Setting.TheVariants.{SetMargin, SetMarginColor, SetMarginOffset, RemoveBorders, RemoveBordersColors, RemoveColorLineHorizontal, RemoveColorLineVertical, RemoveHorizontalChars, RemoveVerticalChars, SetBorders, SetBorderDefault, SetBordersColor, SetBorderColorDefault, SetBordersMissing, InsertHorizontalLine, RemoveHorizontalLine, InsertVerticalLine, RemoveVerticalLine, SetHorizontalChar, RemoveOverriddenHorizontal, SetVerticalChar, RemoveOverriddenVertical, SetHorizontalCharColor, SetVerticalCharColor, SetPadding, SetPaddingColor, SetTrimHorizontal, SetTrimVertical, SetLineAlignment, SetAlignmentHorizontal, SetAlignmentVertical, SetJustification, SetJustificationColor, SetBorder, SetBorderColor, RemoveBorder, RemoveBorderColor, SetColumnSpan, SetRowSpan, RemoveColumnSpans, RemoveRowSpans}

-- ---- values by entity

-- for the paddings
abbrev pub padding_calls : Setting → List (MapCall (Sides Indent))
padding_calls (SetPadding entity v) = Insert entity v ∷ []
padding_calls other = []

-- for the colours of paddings
abbrev pub padding_color_calls : Setting → List (MapCall (Sides (Option ANSIBuf)))
padding_color_calls (SetPaddingColor entity v) = Insert entity v ∷ []
padding_color_calls other = []

-- for trimming left and right
abbrev pub trim_horizontal_calls : Setting → List (MapCall Bool)
trim_horizontal_calls (SetTrimHorizontal entity v) = Insert entity v ∷ []
trim_horizontal_calls other = []

-- for trimming blank lines at the top and the bottom
abbrev pub trim_vertical_calls : Setting → List (MapCall Bool)
trim_vertical_calls (SetTrimVertical entity v) = Insert entity v ∷ []
trim_vertical_calls other = []

-- for the alignment line by line
abbrev pub line_alignment_calls : Setting → List (MapCall Bool)
line_alignment_calls (SetLineAlignment entity v) = Insert entity v ∷ []
line_alignment_calls other = []

-- for the alignment across
abbrev pub alignment_horizontal_calls : Setting → List (MapCall AlignmentHorizontal)
alignment_horizontal_calls (SetAlignmentHorizontal entity v) = Insert entity v ∷ []
alignment_horizontal_calls other = []

-- for the alignment down
abbrev pub alignment_vertical_calls : Setting → List (MapCall AlignmentVertical)
alignment_vertical_calls (SetAlignmentVertical entity v) = Insert entity v ∷ []
alignment_vertical_calls other = []

-- for the character that justifies
abbrev pub justification_calls : Setting → List (MapCall ℕ)
justification_calls (SetJustification entity v) = Insert entity v ∷ []
justification_calls other = []

-- for the colour of that character
abbrev pub justification_color_calls : Setting → List (MapCall (Option ANSIBuf))
justification_color_calls (SetJustificationColor entity v) = Insert entity v ∷ []
justification_color_calls other = []

-- ---- characters and colours of lines

-- for the characters of borders and lines
abbrev pub character_calls : Setting → List (lines.BorderCall ℕ)
character_calls (SetBorder position border) = lines.InsertBorder position border ∷ []
character_calls (RemoveBorder position shape) = lines.RemoveBorder position ∷ []
character_calls (InsertHorizontalLine row line) = lines.InsertHorizontalLine row line ∷ []
character_calls (RemoveHorizontalLine row count) = lines.RemoveHorizontalLine row ∷ []
character_calls (InsertVerticalLine col line) = lines.InsertVerticalLine col line ∷ []
character_calls (RemoveVerticalLine col count) = lines.RemoveVerticalLine col ∷ []
character_calls (SetBorders frame) = lines.SetBorders frame ∷ []
character_calls (SetBorderDefault c) = lines.SetGlobal c ∷ []
character_calls RemoveBorders = lines.Clear ∷ []
character_calls other = []

-- for the colours of borders and lines
abbrev pub color_calls : Setting → List (lines.BorderCall ANSIBuf)
color_calls (SetBorderColor position border) = lines.InsertBorder position border ∷ []
color_calls (RemoveBorderColor position shape) = lines.RemoveBorder position ∷ []
color_calls (SetBordersColor frame) = lines.SetBorders frame ∷ []
color_calls (SetBorderColorDefault color) = lines.Clear ∷ lines.SetGlobal color ∷ []
color_calls RemoveBordersColors = lines.Clear ∷ []
color_calls other = []

-- ---- overrides

-- for single characters on horizontal lines
abbrev pub horizontal_char_calls : Setting → List (overrides.OffsetCall ℕ)
horizontal_char_calls (SetHorizontalChar position offset c) = overrides.SetAt position offset c ∷ []
horizontal_char_calls (RemoveOverriddenHorizontal position) = overrides.RemoveAt position ∷ []
horizontal_char_calls RemoveHorizontalChars = overrides.RemoveAll ∷ []
horizontal_char_calls other = []

-- for single characters on vertical lines
abbrev pub vertical_char_calls : Setting → List (overrides.OffsetCall ℕ)
vertical_char_calls (SetVerticalChar position offset c) = overrides.SetAt position offset c ∷ []
vertical_char_calls (RemoveOverriddenVertical position) = overrides.RemoveAt position ∷ []
vertical_char_calls RemoveVerticalChars = overrides.RemoveAll ∷ []
vertical_char_calls other = []

-- for the colours of single characters on horizontal lines
abbrev pub horizontal_color_calls : Setting → List (overrides.OffsetCall ANSIBuf)
horizontal_color_calls (SetHorizontalCharColor position offset color) = overrides.SetAt position offset color ∷ []
horizontal_color_calls RemoveColorLineHorizontal = overrides.RemoveAll ∷ []
horizontal_color_calls other = []

-- for the colours of single characters on vertical lines
abbrev pub vertical_color_calls : Setting → List (overrides.OffsetCall ANSIBuf)
vertical_color_calls (SetVerticalCharColor position offset color) = overrides.SetAt position offset color ∷ []
vertical_color_calls RemoveColorLineVertical = overrides.RemoveAll ∷ []
vertical_color_calls other = []

-- ---- spans

-- for the spans
abbrev pub span_calls : Setting → List spans.SpanCall
span_calls (SetColumnSpan position n) = spans.SetSpan Columns position n ∷ []
span_calls (SetRowSpan position n) = spans.SetSpan Rows position n ∷ []
span_calls RemoveColumnSpans = spans.RemoveSpans Columns ∷ []
span_calls RemoveRowSpans = spans.RemoveSpans Rows ∷ []
span_calls other = []

-- ---- values of the whole table

-- the margins that a setting sets
abbrev pub margins : Setting → List (Sides Indent)
margins (SetMargin v) = v ∷ []
margins other = []

-- the colours of margins that it sets
abbrev pub margin_colors : Setting → List (Sides (Option ANSIBuf))
margin_colors (SetMarginColor v) = v ∷ []
margin_colors other = []

-- the offsets of margins that it sets
abbrev pub margin_offsets : Setting → List (Sides Offset)
margin_offsets (SetMarginOffset v) = v ∷ []
margin_offsets other = []

-- the character for missing parts of lines that it sets
abbrev pub missing_characters : Setting → List ℕ
missing_characters (SetBordersMissing c) = c ∷ []
missing_characters other = []
