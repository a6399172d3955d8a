use Rattle.std.proofs.Common.{◌≡◌, ◌<◌}
use Rattle.papergrid_layout.specs.Places.{TableView}
use Rattle.papergrid_draw.specs.ForProofs.Tiles.{HasTiled}
use Rattle.papergrid_draw.proofs.tiles.Tiling.visit_row.Given as goal

abbrev pub invariant-loop-col : goal.invariant-loop-col
invariant-loop-col l = (table : TableView) → l.columns ≡ table.shape.1 → l.row < table.shape.0 → HasTiled table l.row 0 l.initial.self → HasTiled table l.row l.col l.self
