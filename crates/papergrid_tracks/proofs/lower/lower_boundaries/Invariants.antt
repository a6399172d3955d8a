use Rattle.papergrid_tracks.proofs.LowerLemmas.{LoweredTo}
use Rattle.papergrid_tracks.proofs.lower.lower_boundaries.Given as goal

abbrev pub invariant-loop-i : goal.invariant-loop-i
invariant-loop-i l = LoweredTo l.initial.sizes l.highest_position l.i l.sizes l.given l.boundary
