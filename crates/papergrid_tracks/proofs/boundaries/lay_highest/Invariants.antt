use Rattle.std.proofs.Common.{length, get_or}
use Rattle.papergrid_tracks.proofs.BackLemmas.{LaidFrom}
use Rattle.papergrid_tracks.proofs.boundaries.lay_highest.Given as goal

abbrev pub invariant-loop-cell : goal.invariant-loop-cell
invariant-loop-cell l = LaidFrom l.fn.base l.fn.cells l.cell-index l.laid (get_or l.fn.boundaries (length l.fn.base) 0) l.boundaries
