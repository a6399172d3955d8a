use Rattle.std.proofs.Common.{◌≡◌}
use Rattle.papergrid_layout.specs.Places.{TableView}
use Rattle.papergrid_draw.specs.ForProofs.Tiles.{HasTiled}
use Rattle.papergrid_draw.proofs.tiles.Tiling.visit_rows.Given as goal

abbrev pub invariant-loop-row : goal.invariant-loop-row
invariant-loop-row l = (table : TableView) → table.shape ≡ l.fn.shape → HasTiled table 0 0 l.initial.self → HasTiled table l.row 0 l.self
