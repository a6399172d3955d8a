-- The settings that C's values make.
use lib.Utf8.{scalar}
use Rattle.std.specs.Prelude.{ℕ, Bool, ◌==◌, ◌&&◌, if◌then◌else◌, List, Option, None, Some, length, option_map, slice_index}
use Rattle.std.specs.List.{list_all}
use Rattle.papergrid_values.specs.declared.alignment.AlignmentHorizontal.{AlignmentHorizontal}
use Rattle.papergrid_values.specs.declared.alignment.AlignmentHorizontal.TheVariants.{Left, Center, Right}
use Rattle.papergrid_values.specs.declared.alignment.AlignmentVertical.{AlignmentVertical}
use Rattle.papergrid_values.specs.declared.alignment.AlignmentVertical.TheVariants as vertical
use Rattle.papergrid_values.specs.declared.entity.Entity.{Entity}
use Rattle.papergrid_values.specs.declared.entity.Entity.TheVariants.{Global, Column, Row, Cell}
use Rattle.papergrid_values.specs.declared.indent.Indent.{Indent}
use Rattle.papergrid_config.specs.declared.setting.Setting.{Setting}
use Rattle.papergrid_config.specs.declared.setting.Setting.TheVariants.{InsertHorizontalLine, InsertVerticalLine, SetAlignmentHorizontal, SetAlignmentVertical, SetBorder, SetBorders, SetColumnSpan, SetPadding, SetRowSpan}
use Rattle.papergrid_c.specs.declared.structs.PapergridEntity.{PapergridEntity}

-- an entity by its kind
abbrev pub entity_of : PapergridEntity → Option Entity
entity_of e =
    if e.kind == 0 then Some Global else if e.kind == 1 then Some (Column e.column)
    else if e.kind == 2 then Some (Row e.row) else if e.kind == 3 then Some (Cell e.row e.column) else None

-- so many blanks
abbrev pub blanks : ℕ → Indent
blanks size = record { fill = 32; size = size }

-- blanks at the left, at the right, above and below the texts of an entity
abbrev pub padding_setting : PapergridEntity → ℕ → ℕ → ℕ → ℕ → Option Setting
padding_setting e left right top bottom =
    option_map (λ entity. SetPadding entity (record { top = blanks top; bottom = blanks bottom; left = blanks left; right = blanks right })) (entity_of e)

-- left, in the middle, right
abbrev pub horizontal_of : ℕ → Option AlignmentHorizontal
horizontal_of n = if n == 0 then Some Left else if n == 1 then Some Center else if n == 2 then Some Right else None

-- at the top, in the middle, at the bottom
abbrev pub vertical_of : ℕ → Option AlignmentVertical
vertical_of n = if n == 0 then Some vertical.Top else if n == 1 then Some vertical.Center else if n == 2 then Some vertical.Bottom else None

-- the setting of an entity and a value, where both are there
abbrev pub setting_by : {A : Type 0} → (Entity → A → Setting) → Option Entity → Option A → Option Setting
setting_by make None value = None
setting_by make (Some entity) value = option_map (make entity) value

-- where the texts of an entity stand between left and right
abbrev pub alignment_setting : PapergridEntity → ℕ → Option Setting
alignment_setting e n = setting_by SetAlignmentHorizontal (entity_of e) (horizontal_of n)

-- where they stand between top and bottom
abbrev pub vertical_setting : PapergridEntity → ℕ → Option Setting
vertical_setting e n = setting_by SetAlignmentVertical (entity_of e) (vertical_of n)

-- as many numbers as are asked for, each of a character
abbrev pub are_parts : ℕ → List ℕ → Bool
are_parts count cs = length cs == count && list_all scalar cs

-- the character with this number; 0 is none
abbrev pub character_part : ℕ → Option ℕ
character_part c = if c == 0 then None else if scalar c then Some c else None

-- the character at a place of a list of numbers
abbrev pub part_at : List ℕ → ℕ → Option ℕ
part_at cs i = character_part (slice_index cs i)

-- the frame of these characters, in the order of the fields of `Borders`
abbrev pub borders_setting : List ℕ → Option Setting
borders_setting cs =
    if are_parts 15 cs then Some (SetBorders (record {
      top = part_at cs 0;
      top_left = part_at cs 1;
      top_right = part_at cs 2;
      top_intersection = part_at cs 3;
      bottom = part_at cs 4;
      bottom_left = part_at cs 5;
      bottom_right = part_at cs 6;
      bottom_intersection = part_at cs 7;
      horizontal = part_at cs 8;
      vertical = part_at cs 9;
      intersection = part_at cs 10;
      left = part_at cs 11;
      left_intersection = part_at cs 12;
      right = part_at cs 13;
      right_intersection = part_at cs 14;
    })) else None

-- the border of a cell, in the order of the fields of `Border`
abbrev pub border_setting : ℕ → ℕ → List ℕ → Option Setting
border_setting row column cs =
    if are_parts 8 cs then Some (SetBorder (record { row = row; col = column }) (record {
      top = part_at cs 0;
      bottom = part_at cs 1;
      left = part_at cs 2;
      right = part_at cs 3;
      left_top_corner = part_at cs 4;
      left_bottom_corner = part_at cs 5;
      right_top_corner = part_at cs 6;
      right_bottom_corner = part_at cs 7;
    })) else None

-- a line before a row: itself, its crossings, its left end and its right end
abbrev pub horizontal_line_setting : ℕ → List ℕ → Option Setting
horizontal_line_setting row cs =
    if are_parts 4 cs then Some (InsertHorizontalLine row (record {
      main = part_at cs 0;
      intersection = part_at cs 1;
      left = part_at cs 2;
      right = part_at cs 3;
    })) else None

-- a line before a column: itself, its crossings, its upper end and its lower end
abbrev pub vertical_line_setting : ℕ → List ℕ → Option Setting
vertical_line_setting column cs =
    if are_parts 4 cs then Some (InsertVerticalLine column (record {
      main = part_at cs 0;
      intersection = part_at cs 1;
      top = part_at cs 2;
      bottom = part_at cs 3;
    })) else None

-- the cell at a row and a column goes over so many columns
abbrev pub column_span_setting : ℕ → ℕ → ℕ → Option Setting
column_span_setting row column columns = Some (SetColumnSpan (record { row = row; col = column }) columns)

-- it goes over so many rows
abbrev pub row_span_setting : ℕ → ℕ → ℕ → Option Setting
row_span_setting row column rows = Some (SetRowSpan (record { row = row; col = column }) rows)
