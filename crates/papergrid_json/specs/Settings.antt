-- The settings of a configuration, as JSON tells them: by a name, and values behind it.
use Rattle.std.specs.Prelude.{ℕ, if◌then◌else◌, List, Option, Some, None, option_and_then, option_map, codes, bytes_eq, map, ◌==◌}
use Rattle.std.specs.Option.{option_zip}
use Rattle.serde_json.specs.Data.{Data}
use Rattle.papergrid_values.specs.declared.offset.Offset.TheVariants.{Start}
use Rattle.papergrid_values.specs.declared.position.Position.{Position}
use Rattle.papergrid_values.specs.declared.offset.Offset.{Offset}
use Rattle.papergrid_config.specs.declared.setting.Setting.{Setting}
use Rattle.papergrid_config.specs.declared.setting.Setting.TheVariants.{SetMargin, SetMarginColor, SetMarginOffset, RemoveBorders, RemoveBordersColors, RemoveColorLineHorizontal, RemoveColorLineVertical, RemoveHorizontalChars, RemoveVerticalChars, SetBorders, SetBorderDefault, SetBordersColor, SetBorderColorDefault, SetBordersMissing, InsertHorizontalLine, RemoveHorizontalLine, InsertVerticalLine, RemoveVerticalLine, SetHorizontalChar, RemoveOverriddenHorizontal, SetVerticalChar, RemoveOverriddenVertical, SetHorizontalCharColor, SetVerticalCharColor, SetPadding, SetPaddingColor, SetTrimHorizontal, SetTrimVertical, SetLineAlignment, SetAlignmentHorizontal, SetAlignmentVertical, SetJustification, SetJustificationColor, SetBorder, SetBorderColor, RemoveBorder, RemoveBorderColor, SetColumnSpan, SetRowSpan, RemoveColumnSpans, RemoveRowSpans}
use Rattle.papergrid_values.specs.Compact.{spaces}
use Rattle.papergrid_json.specs.declared.forms.TheConstants.{SETTINGS}
use Rattle.papergrid_json.specs.Spots.{character_at, flag_at, item_at, number_at, optional, two_numbers_at, word_at}
use Rattle.papergrid_json.specs.Values.{border_at, color_at, entity_at, filled_sides, frame_at, horizontal_at, horizontal_parts_at, indent_at, of_both, offset_at, position_at, sides_at, vertical_at, vertical_parts_at}

-- ---- settings

-- the names of all of them
abbrev pub setting_names : List (List ℕ)
setting_names = map (λ form. form.0.now) SETTINGS

-- one that removes all of a kind, by its name alone
unfoldable pub bare_setting : List ℕ → Option Setting
bare_setting name =
    if bytes_eq name (codes "RemoveBorders") then Some RemoveBorders
    else if bytes_eq name (codes "RemoveBordersColors") then Some RemoveBordersColors
    else if bytes_eq name (codes "RemoveColorLineHorizontal") then Some RemoveColorLineHorizontal
    else if bytes_eq name (codes "RemoveColorLineVertical") then Some RemoveColorLineVertical
    else if bytes_eq name (codes "RemoveHorizontalChars") then Some RemoveHorizontalChars
    else if bytes_eq name (codes "RemoveVerticalChars") then Some RemoveVerticalChars
    else if bytes_eq name (codes "RemoveColumnSpans") then Some RemoveColumnSpans
    else if bytes_eq name (codes "RemoveRowSpans") then Some RemoveRowSpans
    else None

module _ (name : List ℕ) where
  -- one by one value: of the margins, of the frame, or of the characters of a cell's lines that are removed
  unfoldable pub table_setting : Option Data → Option Setting
  table_setting value =
      if bytes_eq name (codes "SetMargin") then option_map (λ told. SetMargin (filled_sides (spaces 0) told)) (sides_at indent_at value)
      else if bytes_eq name (codes "SetMarginColor") then option_map SetMarginColor (sides_at color_at value)
      else if bytes_eq name (codes "SetMarginOffset") then option_map (λ told. SetMarginOffset (filled_sides (Start 0) told)) (sides_at offset_at value)
      else if bytes_eq name (codes "SetBorders") then option_map SetBorders (frame_at character_at value)
      else if bytes_eq name (codes "SetBorderDefault") then option_map SetBorderDefault (character_at value)
      else if bytes_eq name (codes "SetBordersColor") then option_map SetBordersColor (frame_at color_at value)
      else if bytes_eq name (codes "SetBorderColorDefault") then option_map SetBorderColorDefault (color_at value)
      else if bytes_eq name (codes "SetBordersMissing") then option_map SetBordersMissing (character_at value)
      else if bytes_eq name (codes "RemoveOverriddenHorizontal") then option_map RemoveOverriddenHorizontal (position_at value)
      else if bytes_eq name (codes "RemoveOverriddenVertical") then option_map RemoveOverriddenVertical (position_at value)
      else None

  module _ (first second : Option Data) where
    -- one by a position and a value
    unfoldable pub cell_setting : Option Setting
    cell_setting =
        if bytes_eq name (codes "SetBorder") then of_both SetBorder (position_at first) (border_at character_at second)
        else if bytes_eq name (codes "SetBorderColor") then of_both SetBorderColor (position_at first) (border_at color_at second)
        else if bytes_eq name (codes "RemoveBorder") then of_both RemoveBorder (position_at first) (two_numbers_at second)
        else if bytes_eq name (codes "RemoveBorderColor") then of_both RemoveBorderColor (position_at first) (two_numbers_at second)
        else if bytes_eq name (codes "SetColumnSpan") then of_both SetColumnSpan (position_at first) (number_at second)
        else if bytes_eq name (codes "SetRowSpan") then of_both SetRowSpan (position_at first) (number_at second)
        else None

    -- one by an entity and a value, or else one by a position
    unfoldable pub entity_setting : Option Setting
    entity_setting =
        if bytes_eq name (codes "SetPadding") then of_both (λ entity told. SetPadding entity (filled_sides (spaces 0) told)) (entity_at first) (sides_at indent_at second)
        else if bytes_eq name (codes "SetPaddingColor") then of_both SetPaddingColor (entity_at first) (sides_at color_at second)
        else if bytes_eq name (codes "SetTrimHorizontal") then of_both SetTrimHorizontal (entity_at first) (flag_at second)
        else if bytes_eq name (codes "SetTrimVertical") then of_both SetTrimVertical (entity_at first) (flag_at second)
        else if bytes_eq name (codes "SetLineAlignment") then of_both SetLineAlignment (entity_at first) (flag_at second)
        else if bytes_eq name (codes "SetAlignmentHorizontal") then of_both SetAlignmentHorizontal (entity_at first) (horizontal_at second)
        else if bytes_eq name (codes "SetAlignmentVertical") then of_both SetAlignmentVertical (entity_at first) (vertical_at second)
        else if bytes_eq name (codes "SetJustification") then of_both SetJustification (entity_at first) (character_at second)
        else if bytes_eq name (codes "SetJustificationColor") then of_both SetJustificationColor (entity_at first) (optional color_at second)
        else cell_setting

    -- one by the number of a line and a value, or else one by an entity or a position
    unfoldable pub line_setting : Option Setting
    line_setting =
        if bytes_eq name (codes "InsertHorizontalLine") then of_both InsertHorizontalLine (number_at first) (horizontal_parts_at character_at second)
        else if bytes_eq name (codes "RemoveHorizontalLine") then of_both RemoveHorizontalLine (number_at first) (number_at second)
        else if bytes_eq name (codes "InsertVerticalLine") then of_both InsertVerticalLine (number_at first) (vertical_parts_at character_at second)
        else if bytes_eq name (codes "RemoveVerticalLine") then of_both RemoveVerticalLine (number_at first) (number_at second)
        else entity_setting

  -- one by a position, an offset, and the character of a cell's line or its colour
  unfoldable pub character_setting : Option (Position × Offset) → Option Data → Option Setting
  character_setting at value =
      if bytes_eq name (codes "SetHorizontalChar") then of_both (λ at. SetHorizontalChar at.0 at.1) at (character_at value)
      else if bytes_eq name (codes "SetVerticalChar") then of_both (λ at. SetVerticalChar at.0 at.1) at (character_at value)
      else if bytes_eq name (codes "SetHorizontalCharColor") then of_both (λ at. SetHorizontalCharColor at.0 at.1) at (color_at value)
      else if bytes_eq name (codes "SetVerticalCharColor") then of_both (λ at. SetVerticalCharColor at.0 at.1) at (color_at value)
      else None

-- the setting of a name, and of so many values behind it
abbrev pub setting_by_word : Option Data → List ℕ × ℕ → Option Setting
setting_by_word here word =
    if word.1 == 0 then bare_setting word.0
    else if word.1 == 1 then table_setting word.0 (item_at 1 here)
    else if word.1 == 2 then line_setting word.0 (item_at 1 here) (item_at 2 here)
    else if word.1 == 3 then character_setting word.0 (option_zip (position_at (item_at 1 here)) (offset_at (item_at 2 here))) (item_at 3 here)
    else None

-- the setting that stands there
unfoldable pub setting_at : Option Data → Option Setting
setting_at here = option_and_then (setting_by_word here) (word_at here)
