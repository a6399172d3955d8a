-- The picture of a table whose cells are all alike: the first line of each text.
use Rattle.std.specs.Prelude.{◌≡◌, ◌≢◌, ◌≤◌, ◌+◌, ◌^◌, ℕ, List, [], ◌∷◌, Option, length, map, slice_index_or}
use Rattle.std.specs.Str.Lines.{lines as std_lines}
use Rattle.papergrid_values.specs.declared.position.Position.{Position}
use Rattle.papergrid_text.specs.Text.{with_width}
use Rattle.papergrid_values.specs.declared.compact.CompactConfig.{CompactConfig}
use Rattle.papergrid_config.specs.Made.{IsOfCompact}
use Rattle.papergrid_config.specs.declared.spanned.SpannedConfig.{SpannedConfig}
use Rattle.papergrid_draw.specs.Drawings.{Drawing}
use Rattle.papergrid.specs.declared.held.CompactTable.{CompactTable}
use Rattle.papergrid.specs.Sized.{drawing_of_rows, parts_of}

-- the first of std's lines of a text; that of the empty text is empty
abbrev pub first_text : List ℕ → List ℕ
first_text text = slice_index_or (std_lines text) 0 []

-- the one line that is drawn of a text, with its width
abbrev pub first_line : List ℕ → List (List ℕ × ℕ)
first_line text = with_width (first_text text) ∷ []

-- the height of each row: one line, with the paddings above and below
abbrev pub compact_height : CompactConfig → ℕ
compact_height compact = 1 + (compact.padding.top.size + compact.padding.bottom.size)

module _ {C : Type 0} (tells : List (List C) → Type 0) (compact : CompactConfig) where
  -- what is drawn of rows of cells that are yielded, in so many columns, by a compact configuration
  pub record IsCompactTable (columns : ℕ) (table : CompactTable C) : Type 0 where
    pub made : IsOfCompact compact table.config
    pub told : tells (map (λ row. row.items) table.held.rows.items)
    pub has_columns : table.held.columns ≡ columns
    pub has_height : length table.held.rows.items ≢ 0 → table.height ≡ compact_height compact

  -- there are such rows, each of which is higher than the greatest `usize`
  pub record AreRowsTooHigh : Type 0 where
    pub config : SpannedConfig
    pub made : IsOfCompact compact config
    pub cells : List (List C)
    pub told : tells cells
    pub some : length cells ≢ 0
    pub high : 2 ^ 64 ≤ compact_height compact

-- of rows of cells that are yielded, in so many columns of these widths, by a compact configuration, with the
-- colours of the texts
module _ {C : Type 0} (text : C → List ℕ) (tells : List (List C) → Type 0) (columns : ℕ) (compact : CompactConfig)
    (widths : ℕ → ℕ) (color : Position → Option (List ℕ × List ℕ)) where
  -- the drawing, by the configuration that the compact one stands for
  pub record IsCompactDrawing (d : Drawing) : Type 0 where
    pub config : SpannedConfig
    pub made : IsOfCompact compact config
    pub cells : List (List C)
    pub told : tells cells
    pub is : d ≡ drawing_of_rows (λ cell. first_line (text cell))
        (parts_of config widths (λ _. compact_height compact) (length cells, columns)) cells color
