-- Which settings are calls that answer whether there was memory.
use Rattle.std.specs.Prelude.{Bool, true, false}
use Rattle.papergrid_config.specs.declared.setting.Setting.{Setting}
use Rattle.papergrid_config.specs.declared.setting.Setting.TheVariants.{SetPadding, SetPaddingColor, SetTrimHorizontal, SetTrimVertical, SetLineAlignment, SetAlignmentHorizontal, SetAlignmentVertical, SetJustification, SetJustificationColor, SetColumnSpan, SetRowSpan, InsertHorizontalLine, InsertVerticalLine, SetHorizontalChar, SetVerticalChar, SetHorizontalCharColor, SetVerticalCharColor, SetBorder, SetBorderColor}

-- the calls that may allocate
abbrev pub may_grow_by : Setting → Bool
may_grow_by (SetPadding entity v) = true
may_grow_by (SetPaddingColor entity v) = true
may_grow_by (SetTrimHorizontal entity v) = true
may_grow_by (SetTrimVertical entity v) = true
may_grow_by (SetLineAlignment entity v) = true
may_grow_by (SetAlignmentHorizontal entity v) = true
may_grow_by (SetAlignmentVertical entity v) = true
may_grow_by (SetJustification entity v) = true
may_grow_by (SetJustificationColor entity v) = true
may_grow_by (SetColumnSpan p n) = true
may_grow_by (SetRowSpan p n) = true
may_grow_by (InsertHorizontalLine row line) = true
may_grow_by (InsertVerticalLine col line) = true
may_grow_by (SetHorizontalChar p offset c) = true
may_grow_by (SetVerticalChar p offset c) = true
may_grow_by (SetHorizontalCharColor p offset color) = true
may_grow_by (SetVerticalCharColor p offset color) = true
may_grow_by (SetBorder p border) = true
may_grow_by (SetBorderColor p border) = true
may_grow_by other = false
