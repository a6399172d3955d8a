use Rattle.std.proofs.Common.{◌-◌}
use Rattle.papergrid_tracks.proofs.BackLemmas.{LaidBackTo}
use Rattle.papergrid_tracks.proofs.boundaries.lay_back.Given as goal

abbrev pub invariant-loop-passed : goal.invariant-loop-passed
invariant-loop-passed l = LaidBackTo l.fn.base l.fn.boundaries l.fn.from l.fn.to (l.fn.to - l.passed) l.boundaries
