use Rattle.std.proofs.Common.{ap}
use Rattle.papergrid_tracks.specs.Sizes.{sizes_of}
use Rattle.papergrid_walk.specs.Cells.{problem_with}
use Rattle.papergrid_layout.proofs.LawLemmas.{reordered_grid, same_grid}
use Rattle.papergrid_layout.proofs.laws.order_of_spans.Goals as goal

pub returns-clause-sizes : goal.returns-clause-sizes
returns-clause-sizes g c = λ settings other reordered x y told also direction measure n rows.
    ap (λ grid. sizes_of (problem_with grid measure direction n rows)) (same_grid settings other reordered x y told also)

pub returns-clause-reordered : goal.returns-clause-reordered
returns-clause-reordered g c = reordered_grid
