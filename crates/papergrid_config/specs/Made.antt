-- The settings that make of a compact configuration one of a table.
use Rattle.std.specs.Prelude.{◌≡◌, [], ◌∷◌, map, Some, Option, option_map}
use Rattle.papergrid_values.specs.Borders.{frame_parts}
use Rattle.papergrid_values.specs.Colors.{texts_of}
use Rattle.papergrid_values.specs.Keys.{sides_parts}
use Rattle.papergrid_values.specs.declared.ansi_buf.ANSIBuf.{ANSIBuf}
use Rattle.papergrid_values.specs.declared.ansi_str.ANSIStr.{ANSIStr}
use Rattle.papergrid_values.specs.declared.borders.Borders.{Borders}
use Rattle.papergrid_values.specs.declared.entity.Entity.TheVariants.{Global}
use Rattle.papergrid_values.specs.declared.sides.Sides.{Sides}
use Rattle.papergrid_values.specs.declared.compact.CompactConfig.{CompactConfig}
use Rattle.papergrid_config.specs.History.{HasSettingHistory}
use Rattle.papergrid_config.specs.declared.setting.Setting.TheVariants.{SetPadding, SetPaddingColor, SetAlignmentHorizontal, SetMargin, SetMarginColor, SetBorders, SetBordersColor}
use Rattle.papergrid_config.specs.declared.spanned.SpannedConfig.{SpannedConfig}

-- the colour of each side, whether its texts are empty or not
abbrev pub AreColoredSides : Sides ANSIStr → Sides (Option ANSIBuf) → Type 0
AreColoredSides colors copies = sides_parts copies ≡ map (λ color. Some (texts_of color)) (sides_parts colors)

-- the colour of each part that is set
abbrev pub IsColoredFrame : Borders ANSIStr → Borders ANSIBuf → Type 0
IsColoredFrame colors copies = frame_parts copies ≡ map (option_map texts_of) (frame_parts colors)

-- what a compact configuration says, setting by setting
pub record IsOfCompact (compact : CompactConfig) (config : SpannedConfig) : Type 0 where
  pub padding_color : Sides (Option ANSIBuf)
  pub margin_color : Sides (Option ANSIBuf)
  pub border_colors : Borders ANSIBuf
  pub of_padding : AreColoredSides compact.padding_color padding_color
  pub of_margin : AreColoredSides compact.margin_color margin_color
  pub of_borders : IsColoredFrame compact.border_colors border_colors
  pub told : HasSettingHistory (
      SetPadding Global compact.padding ∷ SetPaddingColor Global padding_color ∷ SetAlignmentHorizontal Global compact.alignment
      ∷ SetMargin compact.margin ∷ SetMarginColor margin_color ∷ SetBorders compact.borders ∷ SetBordersColor border_colors ∷ []) config
