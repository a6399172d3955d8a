-- Which settings may be applied, and which do not allocate.
use Rattle.std.specs.Prelude.{◌+◌, ◌^◌, ◌&&◌, nat_lt, Bool, true, false}
use Rattle.papergrid_values.specs.declared.entity.Entity.{Entity}
use Rattle.papergrid_values.specs.declared.entity.Entity.TheVariants.{Global}
use Rattle.papergrid_values.specs.declared.position.Position.{Position}
use Rattle.papergrid_config.specs.declared.setting.Setting.{Setting}
use Rattle.papergrid_config.specs.declared.setting.Setting.TheVariants.{SetBorder, SetBorderColor, RemoveBorder, RemoveBorderColor, SetPadding, SetPaddingColor, SetTrimHorizontal, SetTrimVertical, SetLineAlignment, SetAlignmentHorizontal, SetAlignmentVertical, SetJustification, SetJustificationColor, SetColumnSpan, SetRowSpan, InsertHorizontalLine, InsertVerticalLine, SetHorizontalChar, SetVerticalChar, SetHorizontalCharColor, SetVerticalCharColor}

-- the next row and the next column exist in `usize`
abbrev pub has_neighbours : Position → Bool
has_neighbours p = nat_lt (p.row + 1) (2 ^ 64) && nat_lt (p.col + 1) (2 ^ 64)

-- the calls for one cell's border ask for them
abbrev pub is_in_range : Setting → Bool
is_in_range (SetBorder p border) = has_neighbours p
is_in_range (SetBorderColor p border) = has_neighbours p
is_in_range (RemoveBorder p shape) = has_neighbours p
is_in_range (RemoveBorderColor p shape) = has_neighbours p
is_in_range other = true

-- whether an entity is the whole table
abbrev pub is_global : Entity → Bool
is_global Global = true
is_global other = false

-- whether a setting allocates nothing. A value by entity is free for the whole table alone, and a
-- span where it is below 2. What inserts a line, or sets characters or colours at an offset or
-- round a cell, is not. Each other setting is
abbrev pub is_free : Setting → Bool
is_free (SetPadding entity v) = is_global entity
is_free (SetPaddingColor entity v) = is_global entity
is_free (SetTrimHorizontal entity v) = is_global entity
is_free (SetTrimVertical entity v) = is_global entity
is_free (SetLineAlignment entity v) = is_global entity
is_free (SetAlignmentHorizontal entity v) = is_global entity
is_free (SetAlignmentVertical entity v) = is_global entity
is_free (SetJustification entity v) = is_global entity
is_free (SetJustificationColor entity v) = is_global entity
is_free (SetColumnSpan p n) = nat_lt n 2
is_free (SetRowSpan p n) = nat_lt n 2
is_free (InsertHorizontalLine row line) = false
is_free (InsertVerticalLine col line) = false
is_free (SetHorizontalChar p offset c) = false
is_free (SetVerticalChar p offset c) = false
is_free (SetHorizontalCharColor p offset color) = false
is_free (SetVerticalCharColor p offset color) = false
is_free (SetBorder p border) = false
is_free (SetBorderColor p border) = false
is_free other = true
