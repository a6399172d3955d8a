use Rattle.std.proofs.Common.{◌≡◌}
use Rattle.papergrid_layout.specs.Places.{TableView}
use Rattle.papergrid_layout.specs.ForProofs.Placing.{HasPlaced}
use Rattle.papergrid_layout.proofs.cell_rects.Placing.visit_rows.Given as goal

abbrev pub invariant-loop-row : goal.invariant-loop-row
invariant-loop-row l = (table : TableView) → l.fn.shape ≡ table.shape → HasPlaced table 0 0 l.fn.self → HasPlaced table l.row 0 l.self
