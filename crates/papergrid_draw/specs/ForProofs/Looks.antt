-- The settings of a cell's text as they are read.
use Rattle.std.specs.Prelude.{◌≡◌, Some, option_copied}
use Rattle.papergrid_values.specs.declared.alignment.AlignmentHorizontal.{AlignmentHorizontal}
use Rattle.papergrid_values.specs.declared.position.Position.{Position}
use Rattle.papergrid_maps.specs.StoredColors.{IsBlank}
use Rattle.papergrid_maps.specs.StoredMap.{HasNothing, stored_value}
use Rattle.papergrid_config.specs.Queries.{HasSetSide}
use Rattle.papergrid_config.specs.declared.spanned.SpannedConfig.{SpannedConfig}
use Rattle.papergrid_draw.specs.Contents as contents
use Rattle.papergrid_draw.specs.Contents.{look_of}
use Rattle.papergrid_draw.specs.ForProofs.Blanks.{IsBetweenBlanks}
use Rattle.papergrid_draw.specs.declared.blanks.Blanks.{Blanks}
use Rattle.papergrid_draw.specs.declared.look.Look.{Look}
use Rattle.papergrid_draw.specs.declared.look.Looks.{Looks}

-- what is read
abbrev pub look_seen : Look → contents.Look
look_seen look = record {
  padding = look.padding.now;
  padding_color = look.padding_color.now;
  formatting = look.formatting;
  horizontal = look.horizontal;
  vertical = look.vertical;
  justification = look.justification;
  justification_color = option_copied look.justification_color;
}

-- no setting of a text but for its horizontal alignment is held for a column, a row or a cell, and for no entity a colour of a padding or a justification
pub record IsCommonLook (config : SpannedConfig) : Type 0 where
  pub padding : HasNothing config.padding
  pub padding_color : HasSetSide config.padding_color → ⊥
  pub trim_horizontal : HasNothing config.trim_horizontal
  pub trim_vertical : HasNothing config.trim_vertical
  pub line_alignment : HasNothing config.line_alignment
  pub vertical : HasNothing config.alignment_vertical
  pub justification : HasNothing config.justification
  pub justification_color : IsBlank config.justification_color

-- all cells have this horizontal alignment
abbrev pub IsAlignmentOfAll : SpannedConfig → AlignmentHorizontal → Type 0
IsAlignmentOfAll config horizontal = (p : Position) → horizontal ≡ stored_value config.alignment_horizontal p

-- those of a configuration: what is common is so for each position, with its own horizontal alignment
pub record IsLookedUp (config : SpannedConfig) (looks : Looks) : Type 0 where
  pub alike : (look : Look) → looks.common ≡ Some look → (p : Position) →
      record (look_seen look) { horizontal = stored_value config.alignment_horizontal p } ≡ look_of config p
  pub blanks : (blanks : Blanks) → looks.blanks ≡ Some blanks → (p : Position) → IsBetweenBlanks (look_of config p) blanks
  pub horizontal : (horizontal : AlignmentHorizontal) → looks.horizontal ≡ Some horizontal → IsAlignmentOfAll config horizontal
