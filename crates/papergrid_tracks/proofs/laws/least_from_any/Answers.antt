use Rattle.papergrid_tracks.proofs.BoundLemmas.{bound-least_sizes}
use Rattle.papergrid_tracks.proofs.HighestLemmas.{least_sizes}
use Rattle.papergrid_tracks.proofs.LeastLemmas.{IsLeast-least_sizes, same-least_sizes}
use Rattle.papergrid_tracks.proofs.laws.least_from_any.Goals as goal

pub returns : goal.returns
returns c = λ problem sizes table fits. (
  least_sizes problem sizes,
  IsLeast-least_sizes problem.line problem.count problem.demands sizes table fits,
  λ is_least. same-least_sizes problem.line problem.count problem.demands sizes table is_least,
  λ i l given. bound-least_sizes problem.line problem.count problem.demands sizes table i l given,
)
