use Rattle.papergrid_tracks.proofs.BoundaryLemmas.{AreBoundaries-boundaries_of, Fits-from_boundaries, Fits-sizes_between}
use Rattle.papergrid_tracks.proofs.laws.fits_by_boundaries.Goals as goal

pub returns-clause-fits : goal.returns-clause-fits
returns-clause-fits c = λ problem sizes table same. ((λ fits. AreBoundaries-boundaries_of problem.line problem.count problem.demands sizes fits), (λ are. Fits-from_boundaries problem.line problem.count problem.demands sizes same are))

pub returns-clause-between : goal.returns-clause-between
returns-clause-between c = λ problem boundary table are. Fits-sizes_between problem.line problem.count problem.demands boundary table are
