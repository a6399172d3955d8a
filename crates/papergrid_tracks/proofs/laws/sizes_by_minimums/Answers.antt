use Rattle.papergrid_tracks.proofs.Theorems.{Fits-sizes_of, bound-sizes_of, IsCertificate-certificate_cells_of}
use Rattle.papergrid_tracks.proofs.laws.sizes_by_minimums.Goals as goal

pub returns-clause-fit : goal.returns-clause-fit
returns-clause-fit c = λ problem table. Fits-sizes_of problem table

pub returns-clause-bound : goal.returns-clause-bound
returns-clause-bound c = λ problem table i l. bound-sizes_of problem table i l

pub returns-clause-certified : goal.returns-clause-certified
returns-clause-certified c = λ problem table disjoint. IsCertificate-certificate_cells_of problem table disjoint
