use Rattle.papergrid_layout.proofs.TotalLemmas.{fitting_covers, total_covers}
use Rattle.papergrid_layout.proofs.laws.total_covers_cells.Goals as goal

pub returns-clause-fitting : goal.returns-clause-fitting
returns-clause-fitting g c = λ grid measure columns rows direction sizes none fits. fitting_covers grid measure columns rows direction sizes none fits

pub returns-clause-sizes : goal.returns-clause-sizes
returns-clause-sizes g c = λ sizing grid measure columns rows direction total answer. total_covers grid measure columns rows direction sizing total answer
