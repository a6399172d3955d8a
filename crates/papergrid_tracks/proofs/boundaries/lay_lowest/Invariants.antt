use Rattle.papergrid_tracks.proofs.LaidLemmas.{LaidTo}
use Rattle.papergrid_tracks.proofs.boundaries.lay_lowest.Given as goal

abbrev pub invariant-loop-cell : goal.invariant-loop-cell
invariant-loop-cell l = LaidTo l.fn.base l.fn.cells l.cell-index l.laid l.boundaries
