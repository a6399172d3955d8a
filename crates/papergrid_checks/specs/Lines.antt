-- Lines of one's own, as a caller tells them.
use Rattle.std.specs.Prelude.{ℕ, List, [], ◌∷◌, Some}
use Rattle.papergrid_values.specs.declared.border.Border.{Border}
use Rattle.papergrid_values.specs.Lines.{horizontal_with, vertical_with}
use Rattle.papergrid_values.specs.declared.offset.Offset.TheVariants.{Start}
use Rattle.papergrid_config.specs.declared.setting.Setting.{Setting}
use Rattle.papergrid_config.specs.declared.setting.Setting.TheVariants.{InsertHorizontalLine, InsertVerticalLine, SetBorder, SetHorizontalChar}

-- `#` round a cell
abbrev pub box : Border ℕ
box = record {
  top = Some 35;
  bottom = Some 35;
  left = Some 35;
  right = Some 35;
  left_top_corner = Some 35;
  left_bottom_corner = Some 35;
  right_top_corner = Some 35;
  right_bottom_corner = Some 35;
}

-- `|` before the second column, `-` before the second row but `>` where it begins, `#` round one cell, and `=` for the second
-- character of the row's line
abbrev pub line_settings : List Setting
line_settings =
    InsertVerticalLine 1 (vertical_with (Some 124))
    ∷ InsertHorizontalLine 1 (record (horizontal_with (Some 45)) { left = Some 62 })
    ∷ SetBorder (record { row = 2; col = 2 }) box
    ∷ SetHorizontalChar (record { row = 1; col = 0 }) (Start 1) 61
    ∷ []
