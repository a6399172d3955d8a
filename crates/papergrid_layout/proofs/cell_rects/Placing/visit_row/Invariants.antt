use Rattle.papergrid_layout.specs.Places.{TableView}
use Rattle.papergrid_layout.specs.ForProofs.Placing.{HasPlaced}
use Rattle.papergrid_layout.proofs.cell_rects.Placing.visit_row.Given as goal

abbrev pub invariant-loop-col : goal.invariant-loop-col
invariant-loop-col l = (table : TableView) → HasPlaced table l.row 0 l.initial.self → HasPlaced table l.row l.col l.self
