-- What the lines of a script set, as settings of a configuration.
use Rattle.std.specs.Prelude.{ℕ, None, Some}
use Rattle.papergrid_values.specs.declared.indent.Indent.{Indent}
use Rattle.papergrid_values.specs.declared.sides.Sides.{Sides}
use Rattle.papergrid_values.specs.Borders.{frame_with}
use Rattle.papergrid_values.specs.Lines.{horizontal_with, vertical_with}
use Rattle.papergrid_config.specs.declared.setting.Setting.{Setting}
use Rattle.papergrid_config.specs.declared.setting.Setting.TheVariants.{SetPadding, SetColumnSpan, SetRowSpan, SetBorders, InsertVerticalLine, InsertHorizontalLine, RemoveVerticalLine, RemoveHorizontalLine}
use Rattle.papergrid_script.specs.declared.script_setting.ScriptSetting.{ScriptSetting}
use Rattle.papergrid_script.specs.declared.script_setting.ScriptSetting.TheVariants.{Padding, ColumnSpan, RowSpan, Border, VerticalLine, HorizontalLine, NoVerticalLine, NoHorizontalLine}
use Rattle.papergrid_values.specs.Compact.{spaces}

-- so many spaces on each side
abbrev pub spaced_sides : Sides ℕ → Sides Indent
spaced_sides sides = record { top = spaces sides.top; bottom = spaces sides.bottom; left = spaces sides.left; right = spaces sides.right }

-- the setting of a configuration that a setting of a script is
abbrev pub setting_told : ScriptSetting → Setting
setting_told (Padding entity sides) = SetPadding entity (spaced_sides sides)
setting_told (ColumnSpan position count) = SetColumnSpan position count
setting_told (RowSpan position count) = SetRowSpan position count
setting_told (Border c) = SetBorders (frame_with (Some c))
setting_told (VerticalLine col c) = InsertVerticalLine col (record (vertical_with None) { main = Some c })
setting_told (HorizontalLine row c) = InsertHorizontalLine row (record (horizontal_with None) { main = Some c })
setting_told (NoVerticalLine col) = RemoveVerticalLine col 0
setting_told (NoHorizontalLine row) = RemoveHorizontalLine row 0
