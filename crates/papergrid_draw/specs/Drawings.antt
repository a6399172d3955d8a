-- What a table is drawn from.
use Rattle.std.specs.Prelude.{ℕ, List, Option, length, slice_index}
use Rattle.papergrid_values.specs.declared.position.Position.{Position}
use Rattle.papergrid_config.specs.declared.spanned.SpannedConfig.{SpannedConfig}
use Rattle.papergrid_layout.specs.Places.{TableView, table_by}
use Rattle.papergrid_layout.specs.Tables.{TableParts}

-- a configuration, the widths of columns and the heights of rows, and how many rows and
-- columns there are. Of each cell the lines of the text with their widths, none where there is
-- no cell, and the colour of the text
pub record Drawing : Type 0 where
  pub config : SpannedConfig
  pub widths : ℕ → ℕ
  pub heights : ℕ → ℕ
  pub shape : ℕ × ℕ
  pub lines : Position → List (List ℕ × ℕ)
  pub color : Position → Option (List ℕ × List ℕ)

-- its places
abbrev pub layout_of : Drawing → TableView
layout_of d = table_by d.config d.widths d.heights d.shape

-- the drawing of a table with what is given of its cells
abbrev pub drawn_of : {C : Type 0} → (C → Position → List (List ℕ × ℕ)) → (C → Position → Option (List ℕ × List ℕ)) → TableParts → C → Drawing
drawn_of lines color parts cells = record {
  config = parts.config;
  widths = slice_index parts.widths;
  heights = slice_index parts.heights;
  shape = (length parts.heights, length parts.widths);
  lines = lines cells;
  color = color cells;
}
