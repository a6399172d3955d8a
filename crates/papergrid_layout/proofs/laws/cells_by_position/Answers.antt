use Rattle.papergrid_walk.proofs.Distinct.{from-precede}
use Rattle.papergrid_layout.proofs.PlaceLemmas.{has-placed, placed-has}
use Rattle.papergrid_layout.proofs.laws.cells_by_position.Goals as goal

pub returns-clause-cells : goal.returns-clause-cells
returns-clause-cells g c = λ rows p cell. (placed-has rows p cell, has-placed rows p cell)

pub returns-clause-order : goal.returns-clause-order
returns-clause-order g c = from-precede 0
