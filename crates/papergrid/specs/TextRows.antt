-- The picture of a table whose cells are texts.
use Rattle.std.specs.Prelude.{◌≡◌, ℕ, List, Option, length}
use Rattle.papergrid_values.specs.declared.position.Position.{Position}
use Rattle.papergrid_config.specs.declared.spanned.SpannedConfig.{SpannedConfig}
use Rattle.papergrid_draw.specs.Drawings.{Drawing}
use Rattle.papergrid_draw.specs.Cells.{text_lines}
use Rattle.papergrid.specs.Sized.{drawing_of_rows, parts_of}

-- of rows of cells that are yielded, in so many columns, by a configuration and these sizes, with the colours of the texts
module _ {C : Type 0} (text : C → List ℕ) (tells : List (List C) → Type 0) (columns : ℕ) (config : SpannedConfig)
    (widths heights : ℕ → ℕ) (color : Position → Option (List ℕ × List ℕ)) where
  -- the drawing of such rows, in which each cell has the lines of its text
  pub record IsTextDrawing (d : Drawing) : Type 0 where
    pub cells : List (List C)
    pub told : tells cells
    pub is : d ≡ drawing_of_rows (λ cell. text_lines (text cell)) (parts_of config widths heights (length cells, columns)) cells color
