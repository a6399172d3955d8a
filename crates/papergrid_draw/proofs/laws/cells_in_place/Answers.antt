use Rattle.papergrid_draw.proofs.InPlaceLemmas.{cell-drawn, cells-wide}
use Rattle.papergrid_draw.proofs.laws.cells_in_place.Goals as goal

pub returns-clause-drawn : goal.returns-clause-drawn
returns-clause-drawn c = cell-drawn

pub returns-clause-width : goal.returns-clause-width
returns-clause-width c = cells-wide
