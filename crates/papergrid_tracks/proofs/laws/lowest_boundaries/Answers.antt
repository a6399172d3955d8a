use Rattle.std.proofs.Common.{◌∙◌, arith}
use Rattle.papergrid_tracks.proofs.LeastLemmas.{least-total}
use Rattle.papergrid_tracks.proofs.LowestLemmas.{AreLowest-lowest_position, IsLeast-lowest, lowest_position, one-lowest}
use Rattle.papergrid_tracks.proofs.laws.lowest_boundaries.Goals as goal

pub returns-clause-some : goal.returns-clause-some
returns-clause-some c = λ asks n demands table. (lowest_position asks demands, AreLowest-lowest_position asks demands n table)

pub returns-clause-only : goal.returns-clause-only
returns-clause-only c = λ asks n demands lowest other is also i l. one-lowest asks n demands lowest other is also i l

pub returns-clause-least : goal.returns-clause-least
returns-clause-least c = λ problem lowest are table. IsLeast-lowest problem.line problem.count problem.demands lowest are table

pub returns-clause-total : goal.returns-clause-total
returns-clause-total c = λ problem lowest sizes are table is.
    least-total problem table sizes is
    ∙ one-lowest _ problem.count problem.demands _ lowest (AreLowest-lowest_position _ problem.demands problem.count table) are problem.count (omega arith)
