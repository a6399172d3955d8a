-- A tiled table with the cells that are drawn in it.
use Rattle.std.specs.Prelude.{ℕ, List, Option}
use Rattle.papergrid_values.specs.declared.position.Position.{Position}
use Rattle.papergrid_layout.specs.Tables.{TableParts}
use Rattle.papergrid_draw.specs.Drawings.{Drawing, drawn_of}
use Rattle.papergrid_draw.specs.declared.filled_frame.FilledFrame.{FilledFrame}

-- its table
abbrev pub filled_table : {C : Type 0} → FilledFrame C → TableParts
filled_table frame = frame.frame.now.table.now

-- its drawing
abbrev pub filled : {C : Type 0} → (C → Position → List (List ℕ × ℕ)) → (C → Position → Option (List ℕ × List ℕ)) → FilledFrame C → Drawing
filled lines color frame = drawn_of lines color (filled_table frame) frame.cells.now
